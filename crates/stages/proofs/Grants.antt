-- An access is granted exactly where its page has a path whose leaves allow it.
use Rattle.std.proofs.Common.{◌≡◌, ℕ, Bool, true, false, cond, ◌↔◌, Some, None, Ok, Err, Option, Result, refl, ap, ◌∙◌, subst, arith}
use Rattle.std.specs.Result.{result_map_both}
use Rattle.std.proofs.lemmas.Bool.{cond-true}
use Rattle.table.specs.declared.walks.Leaf.{Leaf}
use Rattle.access.specs.declared.accesses.Access.{Access}
use Rattle.fault.specs.declared.faults.HostFault.TheVariants as host
use Rattle.fault.specs.declared.faults.GuestFault.TheVariants as guest
use Rattle.stages.specs.declared.landings.Landing.{Landing}
use Rattle.stages.specs.declared.outcomes.Translation.{Translation}
use Rattle.access.specs.Accesses.{page_of, is_aligned}
use Rattle.access.specs.Rights.{host_allows, guest_allows}
use Rattle.stages.specs.Host.{and_then, judged, judged_by, unreached, host_path, host_stage, is_inside, inside_of, host_reach}
use Rattle.stages.specs.Stages.{World, guest_path, guest_stage, final_stage, physical_of, translation, two_stages, fault_of, translate_of}
use Rattle.stages.specs.Paths.{passes, Granted}

-- what a chain of stages gave, its first part gave, and the rest went on from there
then_ok : {X Y E : Type 0} (r : Result X E) (next : X → Result Y E) (y : Y) → and_then r next ≡ Ok y → (x : X) × (r ≡ Ok x) × (next x ≡ Ok y)
then_ok (Ok x) next y e = (x, refl, e)
then_ok (Err f) next y e = let z : ◌≡◌ {A = ℕ} 0 1 = cc in absurd (omega arith)

mapped_ok : {X Y D E : Type 0} (f : X → Y) (g : D → E) (r : Result X D) (y : Y) → result_map_both f g r ≡ Ok y → (x : X) × (r ≡ Ok x) × (f x ≡ y)
mapped_ok f g (Ok x) y e = (x, refl, cc)
mapped_ok f g (Err d) y e = let z : ◌≡◌ {A = ℕ} 0 1 = cc in absurd (omega arith)

test_ok : {X E : Type 0} (b : Bool) (r : Result X E) (y : X) (d : E) → cond b r (Err d) ≡ Ok y → (b ≡ true) × (r ≡ Ok y)
test_ok true r y d e = (refl, e)
test_ok false r y d e = let z : ◌≡◌ {A = ℕ} 0 1 = cc in absurd (omega arith)

cond_ok : {X E : Type 0} (b : Bool) (x y : X) (d : E) → cond b (Ok x) (Err d) ≡ Ok y → (b ≡ true) × (x ≡ y)
cond_ok b x y d e = let t = test_ok b (Ok x) y d e in (t.0, let q = t.1 in cc)

module _ {E : Type 0} (test : ℕ → Bool) (denied : ℕ → E) where
  judged_ok : (at end : Landing) (leaf : Option Leaf) → judged_by test denied at leaf ≡ Ok end → (passes test leaf ≡ true) × (at ≡ end)
  judged_ok at end None e = (refl, cc)
  judged_ok at end (Some leaf) e = cond_ok (test leaf.entry.word) at end (denied leaf.level) e

  judged_pass : (at : Landing) (leaf : Option Leaf) → passes test leaf ≡ true → judged_by test denied at leaf ≡ Ok at
  judged_pass at None h = refl
  judged_pass at (Some leaf) h = rw h

module _ (w : World) (a : Access) where
  -- the stages that give a landing, from its path and the test of its leaf, and back
  guest_back : (at : Landing) → guest_stage w a ≡ Ok at → (guest_path w (page_of a) ≡ Ok at) × (passes (guest_allows a) at.leaf ≡ true)
  guest_back at e =
      let t = then_ok (guest_path w (page_of a)) (judged (guest_allows a) guest.Denied) at e in
      let j = judged_ok (guest_allows a) guest.Denied t.0 at t.0.leaf t.2 in
      (subst (λ (l : Landing). guest_path w (page_of a) ≡ Ok l) j.1 t.1, subst (λ (l : Landing). passes (guest_allows a) l.leaf ≡ true) j.1 j.0)

  guest_forth : (at : Landing) → guest_path w (page_of a) ≡ Ok at → passes (guest_allows a) at.leaf ≡ true → guest_stage w a ≡ Ok at
  guest_forth at e h = rw e (judged_pass (guest_allows a) guest.Denied at at.leaf h)

  host_back : (p : ℕ) (at : Landing) → host_reach w.words w.host a.kind p ≡ Ok at
      → (host_path w.words w.host p ≡ Ok at) × (passes (host_allows a.kind) at.leaf ≡ true) × (is_inside w.words at.frame ≡ true)
  host_back p at e =
      let t = then_ok (host_stage w.words w.host a.kind p) (inside_of w.words) at e in
      let c = cond_ok (is_inside w.words t.0.frame) t.0 at _ t.2 in
      let u = then_ok (host_path w.words w.host p) (judged (host_allows a.kind) host.Denied) t.0 t.1 in
      let j = judged_ok (host_allows a.kind) host.Denied u.0 t.0 u.0.leaf u.2 in
      let same : u.0 ≡ at = j.1 ∙ c.1 in (
        subst (λ (l : Landing). host_path w.words w.host p ≡ Ok l) same u.1,
        subst (λ (l : Landing). passes (host_allows a.kind) l.leaf ≡ true) same j.0,
        subst (λ (l : Landing). is_inside w.words l.frame ≡ true) c.1 c.0,
      )

  host_forth : (p : ℕ) (at : Landing) → host_path w.words w.host p ≡ Ok at → passes (host_allows a.kind) at.leaf ≡ true
      → is_inside w.words at.frame ≡ true → host_reach w.words w.host a.kind p ≡ Ok at
  host_forth p at e h i = rw (e, judged_pass (host_allows a.kind) host.Denied at at.leaf h, i)

  back : (t : Translation) → translate_of w a ≡ Ok t → Granted w a t
  unfolding translate_of
  back t e =
      let m = mapped_ok (λ x. x) (fault_of a) (two_stages w a) t e in
      let b = test_ok (is_aligned a) _ m.0 guest.Misaligned m.1 in
      let s = then_ok (guest_stage w a) _ m.0 b.1 in
      let f = mapped_ok (translation a s.0) guest.Host (final_stage w a s.0) m.0 s.2 in
      let r = mapped_ok (λ x. x) _ (host_reach w.words w.host a.kind s.0.frame) f.0 f.1 in
      let g = guest_back s.0 s.1 in
      let h = host_back s.0.frame r.0 r.1 in
      let built : Granted w a (translation a s.0 r.0) =
      record {
        aligned = b.0;
        path = record { middle = s.0.frame; first = g.0; second = h.0; inside = h.2 };
        guest = g.1;
        host = h.1;
        word = refl;
      } in
      subst (Granted w a) (ap (translation a s.0) r.2 ∙ (f.2 ∙ m.2)) built

  forth : (t : Translation) → Granted w a t → translate_of w a ≡ Ok t
  unfolding translate_of
  forth t g =
      let at : Landing = record { frame = g.path.middle; leaf = t.guest } in
      let end : Landing = record { frame = t.frame; leaf = t.host } in
      let q : guest_stage w a ≡ Ok at = guest_forth at g.path.first g.guest in
      let h : host_reach w.words w.host a.kind g.path.middle ≡ Ok end = host_forth g.path.middle end g.path.second g.host g.path.inside in
      let f : final_stage w a at ≡ Ok end = ap (result_map_both (λ x. x) (unreached (physical_of a g.path.middle))) h in
      let same : translation a at end ≡ t = rw (← g.word) in
      ap (result_map_both (λ x. x) (fault_of a))
      (cond-true (is_aligned a) _ _ g.aligned
      ∙ (ap (λ r. and_then r (λ x. result_map_both (translation a x) guest.Host (final_stage w a x))) q
      ∙ (ap (result_map_both (translation a at) guest.Host) f ∙ ap Ok same)))

  pub granted : (t : Translation) → (translate_of w a ≡ Ok t) ↔ Granted w a t
  granted t = (back t, forth t)
