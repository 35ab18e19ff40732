-- What the steps of a shadow come to on its book.
use Rattle.std.proofs.Common.{◌≡◌, ℕ, ◌/◌, ◌^◌, ◌<◌, Bool, ◌&&◌, eqb, leb, ◌↔◌, List, [], length, Some, None, Ok, Err, vec_items, sym, refl, ap, ◌∙◌, subst, inl, inr, arith}
use Rattle.std.proofs.Math.Bool.{and-true}
use Rattle.std.specs.List.{ContainsAt as Has}
use Rattle.std.proofs.ByRecursion.{all-has}
use Rattle.std.proofs.lemmas.Bool.{cond-true, lt-ltb, ltb-true, leb-true, eqb-true, and_parts, or_cases}
use Rattle.registers.specs.Registers.{is_paged, asid_of}
use Rattle.translator.specs.declared.grants.Grant.{Grant}
use Rattle.translator.specs.Fences.{covers_grant}
use Rattle.layout.specs.Changes.{has_room, inserted}
use Rattle.layout.specs.Finds.{found}
use Rattle.layout.proofs.Holds.{inserts}
use Rattle.pool.proofs.Fields.{sound_of}
use Rattle.leaves.specs.Leaves.{has_some_right, leaf_word, grant_of}
use Rattle.leaves.specs.Lookups.{grant_at}
use Rattle.leaves.proofs.Words.{word_read, word_write, word_fetch, word_user, word_frame, word_leaf}
use Rattle.shadow.specs.Book.{book_of}
use Rattle.shadow.specs.Shadows.{Store, grants_of}
use Rattle.shadow.specs.Laws.{KeptByRights, without_global, Filled, FillsExactly, FencesExactly}
use Rattle.shadow.specs.Books.{held, book_all, book_has, booked}
use Rattle.shadow.specs.Fullest.{fullest_canonical, fullest_reads, walked_fullest}
use Rattle.shadow.specs.Answering.{kept, grant_found, inserted_holds}
use Rattle.shadow.specs.Fencing.{fenced_exactly}

pub kept_by_rights : KeptByRights
kept_by_rights w a g root few h =
    let n = (walked_fullest w a g h).named in
    let e = n.asid in
    let asid : g.asid < 16 = elim (or_cases (eqb w.guest 0) (is_paged w.guest && leb (asid_of w.guest) 15) root) [
      | inl z ↦ let y : w.guest ≡ 0 = eqb-true w.guest 0 z in let x : asid_of w.guest ≡ 0 = ap asid_of y in omega arith
      | inr z ↦ let y = leb-true (asid_of w.guest) 15 (and_parts (is_paged w.guest) (leb (asid_of w.guest) 15) z).1 in omega arith
    ] in
    let inside = ltb-true g.frame (length w.words / 512) n.path.inside in
    let frame : g.frame < 2 ^ 16 = omega arith in
    rw (lt-ltb g.asid 16 asid, lt-ltb g.frame (2 ^ 16) frame) (and-true (has_some_right g))

-- the leaf of a grant gives it back
given_back : (g : Grant) → g.frame < 2 ^ 16 → grant_of g.asid g.page (record { word = leaf_word g }) ≡ without_global g
given_back g f = rw (word_frame g f, word_read g, word_write g, word_fetch g, word_user g) refl

pub fills_exactly : FillsExactly
fills_exactly pool w g x s f k =
    let m = kept g k in
    let p = inserted pool g.asid g.page (leaf_word g) in
    let law = inserts pool g.asid g.page (leaf_word g) s m.asid (fullest_canonical w g f) (word_leaf g m.frame m.rights (fullest_reads w g f)) in
    let there = grant_found p g.asid g.page (Some (record { word = leaf_word g })) m.asid law.here in
    let new : grant_at p g.asid g.page ≡ Some (without_global g) = there ∙ ap (λ y. Some y) (given_back g m.frame) in
    rw k (
      all-has (Filled pool g) (book_of p) x
          (book_all p (Filled pool g)
          (λ b q y e.
          let h = held p b q y e in
          elim (inserted_holds pool s w g f m b q y e) [
            | inl is ↦ inl (is ∙ given_back g m.frame)
            | inr z ↦ inr (book_has pool b q y z.0, (λ u. z.1 (sym h.asid ∙ u.0, sym h.page ∙ u.1)), z.2)
          ])),
      λ y.
          elim y [
            | inl e ↦ subst (λ (z : Grant). Has (book_of p) z) (sym e) (book_has p g.asid g.page (without_global g) new)
            | inr z ↦
                let e = (booked pool x).0 z.0 in
                let h = held pool x.asid x.page x e in
                let same = law.elsewhere x.asid x.page h.few z.1 ∙ cond-true (has_room pool g.asid g.page) (found pool x.asid x.page) None z.2 in
                book_has p x.asid x.page x
                (grant_found p x.asid x.page (found pool x.asid x.page) h.few same
                ∙ (sym (grant_found pool x.asid x.page (found pool x.asid x.page) h.few refl) ∙ e))
          ],
    )

has_none : (x : Grant) → Has [] x → ⊥
has_none x h = let l = h.1 in omega arith

pub fences_exactly : FencesExactly
fences_exactly (Err words) t f x e =
    subst (λ (y : Store). Has (grants_of y) x ↔ (Has [] x × (covers_grant f x ≡ Bool.false))) (sym e) ((λ h. absurd (has_none x h)), (λ h. absurd (has_none x h.0)))
fences_exactly (Ok pool) (Err words) f x e = absurd e
fences_exactly (Ok pool) (Ok after) f x e =
    subst (λ (p : List ℕ). Has (book_of p) x ↔ (Has (book_of (vec_items pool.words)) x × (covers_grant f x ≡ Bool.false))) (sym e)
    (fenced_exactly (vec_items pool.words) (sound_of pool) f.address f.asid x)
