-- The laws of look-ups.
use Rattle.std.proofs.Common.{◌≡◌, ℕ, zero, suc, ◌<◌, ◌≤◌, true, cond, eqb, List, Some, None, sym, refl, ap, ◌∙◌, inl, inr, arith}
use Rattle.std.proofs.lemmas.Bool.{cases_eq, cases_Bool, cond-false, ne_eqb}
use Rattle.stages.specs.Stages.{is_canonical}
use Rattle.layout.specs.Tables.{frames, next, index, path_of, leaf_table}
use Rattle.layout.specs.Changes.{reset, has_room, ready, inserted, removed, removed_below, dropped}
use Rattle.layout.specs.Sound.{used, is_leaf, Sound}
use Rattle.layout.specs.Finds.{found}
use Rattle.layout.specs.Laws.{Inserts, Removes, RemovesEverywhere, Drops, Resets, LeavesApart}
use Rattle.layout.proofs.Trees.{place_eq, one_path}
use Rattle.layout.proofs.Walks.{path_used}
use Rattle.layout.proofs.Grows.{indices_of, leaf_word}
use Rattle.layout.proofs.Writes.{same_page, dropped_here, dropped_others}
use Rattle.layout.proofs.Inserts.{treed_of, reset_sound, reset_none, dropped_sound, leaf_plain, ready_roomy, inserted_sound, inserted_here, inserted_others, removed_lacks}
use Rattle.layout.proofs.Found.{leaf_entry, found_word, found_not}

-- where the leaf word is 0 nothing is found
found_none : (pool : List ℕ) → Sound pool → (a page : ℕ) → a < 16 → leaf_word pool a page ≡ 0 → found pool a page ≡ None
found_none pool g a page h e =
    elim (cases_Bool (is_canonical page)) [
      | inl c ↦ found_word pool g a h page c ∙ ap leaf_entry e
      | inr c ↦ found_not pool a page c
    ]

-- where the leaf words of canonical pages are the same, the same is found
found_same : (p q : List ℕ) → Sound p → Sound q → (a page : ℕ) → a < 16 → (is_canonical page ≡ true → leaf_word p a page ≡ leaf_word q a page)
    → found p a page ≡ found q a page
found_same p q gp gq a page h e =
    elim (cases_Bool (is_canonical page)) [
      | inl c ↦ found_word p gp a h page c ∙ ap leaf_entry (e c) ∙ sym (found_word q gq a h page c)
      | inr c ↦ found_not p a page c ∙ sym (found_not q a page c)
    ]

pub resets : (pool : List ℕ) → 4 ≤ frames pool → Resets pool
resets pool l b q h = found_none (reset pool) (reset_sound pool l) b q h (reset_none pool l b q h)

pub drops : (pool : List ℕ) (a : ℕ) → Sound pool → a < 16 → Drops pool a
drops pool a g h =
    let s = treed_of pool g in
    let gd = dropped_sound pool a g h in
    record {
      here = λ q. found_none (dropped pool a) gd a q h (dropped_here pool (frames pool) s a h (path_of q) (index q 0));
      elsewhere = λ b q hb ne. found_same (dropped pool a) pool gd g b q hb
          (λ c. dropped_others pool (frames pool) s a h b (path_of q) (index q 0) hb (indices_of q) ne);
    }

pub removes : (pool : List ℕ) (a page : ℕ) → Sound pool → a < 16 → is_canonical page ≡ true → Removes pool a page
removes pool a page g h c =
    let r = removed_lacks pool a page g h in
    record {
      here = found_none (removed pool a page) r.sound a page h r.here;
      elsewhere = λ b q hb ne. found_same (removed pool a page) pool r.sound g b q hb (λ cq. r.others b q hb c cq ne);
    }

-- the leaf of a page is cleared under the ASIDs below n
record Cleared (pool : List ℕ) (page n : ℕ) : Type 0 where
  sound : Sound (removed_below pool page n)
  here : (b : ℕ) → b < n → found (removed_below pool page n) b page ≡ None
  others : (b q : ℕ) → b < 16 → (q ≡ page → ⊥) → found (removed_below pool page n) b q ≡ found pool b q

clears : (pool : List ℕ) (page : ℕ) → Sound pool → is_canonical page ≡ true → (n : ℕ) → n ≤ 16 → Cleared pool page n
unfolding removed_below
clears pool page g c zero h = record { sound = g; here = λ b l. absurd (omega arith); others = λ b q hb ne. refl }
clears pool page g c (suc n) h =
    let r = clears pool page g c n (omega arith) in
    let m = removes (removed_below pool page n) n page r.sound (omega arith) c in
    record {
      sound = (removed_lacks (removed_below pool page n) n page r.sound (omega arith)).sound;
      here = λ b l. elim (cases_eq b n) [
        | inl e ↦ rw e m.here
        | inr e ↦ m.elsewhere b page (omega arith) (λ x. e x.0) ∙ r.here b (omega arith)
      ];
      others = λ b q hb ne. m.elsewhere b q hb (λ x. ne x.1) ∙ r.others b q hb ne;
    }

pub removes_everywhere : (pool : List ℕ) (page : ℕ) → Sound pool → is_canonical page ≡ true → RemovesEverywhere pool page
removes_everywhere pool page g c = let r = clears pool page g c 16 (omega arith) in record { here = r.here; elsewhere = r.others }

-- what is found in the pool made ready
ready_found : (pool : List ℕ) (a page b q : ℕ) → Sound pool → b < 16 → found (ready pool a page) b q ≡ cond (has_room pool a page) (found pool b q) None
ready_found pool a page b q g hb =
    elim (cases_Bool (has_room pool a page)) [ inl e ↦ rw e refl | inr e ↦ rw e (resets pool g.0 b q hb) ]

pub inserts : (pool : List ℕ) (a page w : ℕ) → Sound pool → a < 16 → is_canonical page ≡ true → is_leaf w ≡ true → Inserts pool a page w
inserts pool a page w g h c lw =
    let gi = inserted_sound pool a page w g h lw in
    record {
      here =
          found_word (inserted pool a page w) gi a h page c ∙ ap leaf_entry (inserted_here pool a page w g h lw)
          ∙ cond-false (eqb w 0) None (Some (record { word = w })) (ne_eqb w 0 (leaf_plain w lw).1);
      elsewhere = λ b q hb ne.
          found_same (inserted pool a page w) (ready pool a page) gi (ready_roomy pool a page g).sound b q hb
          (λ cq. inserted_others pool a page w g h lw b q hb c cq ne)
          ∙ ready_found pool a page b q g hb;
    }

pub leaves_apart : (pool : List ℕ) → Sound pool → LeavesApart pool
leaves_apart pool g a b p q h t e =
    let s = treed_of pool g in
    let u = path_used pool (frames pool) s a (path_of p) h.0 (indices_of p) in
    let v = path_used pool (frames pool) s b (path_of q) h.1 (indices_of q) in
    let x = place_eq (leaf_table pool a p) (index p 0) (leaf_table pool b q) (index q 0) (omega arith) (omega arith) e in
    let y = one_path (used pool) (next pool) s.tree a b (path_of p) (path_of q) h.0 h.1 (indices_of p) (indices_of q) (omega arith) (sym u ∙ x.0 ∙ v) in
    (y.0, same_page p q h.2 h.3 y.1 x.1)
