-- The words of tables after a frame was taken.
use Rattle.std.proofs.Common.{◌≡◌, ℕ, ◌+◌, ◌*◌, ◌%◌, ◌<◌, ◌≤◌, true, ltb, List, [], ◌∷◌, length, get_or, sym, ap, ◌∙◌, inl, inr, arith}
use Rattle.std.proofs.lemmas.Bool.Decides.{nat_tests}
use Rattle.std.proofs.lemmas.Bool.{cases_eq, cond-false, le-ltb}
use Rattle.layout.specs.Tables.{table, next, names, entry, word_at}
use Rattle.layout.specs.Changes.{taken}
use Rattle.layout.specs.Sound.{used, is_shaped, Shaped}
use Rattle.layout.proofs.Trees.{Indices, below_is, below_zero, table_inside, new_kept, new_others}
use Rattle.layout.proofs.Takes.{Treed, Place, used_root, used_entry, used_past, place_low, used_none, used_new, used_same, taken_at, taken_same, taken_new, taken_treed}

pub entry_some : (pool : List ℕ) (f k : ℕ) → 0 < f → entry pool f k ≡ get_or pool (f * 512 + k) 0
entry_some pool f k h = grind (arith, nat_tests)

pub entry_none : (pool : List ℕ) (f k : ℕ) → f ≡ 0 → entry pool f k ≡ 0
entry_none pool f k h = grind (arith, nat_tests)

-- a path stays in the frames in use
pub path_used : (pool : List ℕ) (n : ℕ) → Treed pool n → (a : ℕ) (ks : List ℕ) → a < 16 → Indices ks → table (names pool) a ks ≡ table (used pool) a ks
unfolding table
path_used pool n s a [] h d = sym (used_root pool a h)
path_used pool n s a (k ∷ ks) h d =
    let r = path_used pool n s a ks h d.1 in
    let f = table_inside (used pool) (next pool) s.tree s.some a ks in
    let dk = d.0 in
    elim (cases_eq (table (used pool) a ks) 0) [
      | inl x ↦ below_zero (names pool) (table (names pool) a ks) k (r ∙ x) ∙ sym (below_zero (used pool) (table (used pool) a ks) k x)
      | inr x ↦
          rw r
          (below_is (names pool) (table (used pool) a ks) k (omega arith)
          ∙ sym (used_entry pool (table (used pool) a ks * 512 + k) (omega arith) (omega arith))
          ∙ sym (below_is (used pool) (table (used pool) a ks) k (omega arith)))
    ]

pub path_inside : (pool : List ℕ) (n : ℕ) → Treed pool n → (a : ℕ) (ks : List ℕ) → a < 16 → Indices ks → table (names pool) a ks < next pool
path_inside pool n s a ks h d =
    let e = path_used pool n s a ks h d in let t = table_inside (used pool) (next pool) s.tree s.some a ks in omega arith

-- word i holds no leaf: every position at it has a path of fewer than two indices
abbrev pub Inner : List ℕ → ℕ → Type 0
Inner pool i =
    (b m : ℕ) (ms : List ℕ) → b < 16 → Indices ms → m < 512 → length ms ≤ 2 → 0 < table (used pool) b ms → table (used pool) b ms * 512 + m ≡ i
    → length ms < 2

shaped_pointer : (n f : ℕ) → n < 2 → 0 < f → is_shaped n (f * 1024 + 1) ≡ true
shaped_pointer n f h p = let e : (f * 1024 + 1) % 1024 ≡ 1 = omega arith in grind (arith, nat_tests)

module _ (pool : List ℕ) (n i : ℕ) (s : Treed pool n) (at : Place pool i) (z : names pool i ≡ 0) (free : next pool < n) where
  now_treed : Treed (taken pool i) n
  now_treed = taken_treed pool n i s at z free

  pub taken_kept : (b : ℕ) (ms : List ℕ) → b < 16 → Indices ms → 0 < table (names pool) b ms → table (names (taken pool i)) b ms ≡ table (names pool) b ms
  taken_kept b ms h d p =
      let u = path_used pool n s b ms h d in
      path_used (taken pool i) n now_treed b ms h d
      ∙ new_kept (used pool) (used (taken pool i)) (next pool) i s.tree (used_none pool n i s at z free) (used_new pool n i s at z free) (used_same pool n i s at z free) b ms (omega arith)
      ∙ sym u

  -- a word other than i is read as before; a word of the new table is 0, as where no table was
  pub taken_read : (b : ℕ) (ms : List ℕ) (m : ℕ) → b < 16 → Indices ms → m < 512
      → (0 < table (used pool) b ms → table (used pool) b ms * 512 + m ≡ i → ⊥) → word_at (taken pool i) b ms m ≡ word_at pool b ms m
  taken_read b ms m h d dm off =
      let u = path_used pool n s b ms h d in
      let v = path_used (taken pool i) n now_treed b ms h d in
      let f = table_inside (used pool) (next pool) s.tree s.some b ms in
      let o = s.some in
      let l = place_low pool n i s at z free in
      rw (u, v)
      (elim (cases_eq (table (used pool) b ms) 0) [
        | inl x ↦
            elim (new_others (used pool) (used (taken pool i)) (next pool) i s.tree (used_none pool n i s at z free) (used_new pool n i s at z free) (used_same pool n i s at z free) l (λ j q. used_past pool j (omega arith) q) b ms x) [
              | inl y ↦ entry_none (taken pool i) (table (used (taken pool i)) b ms) m y ∙ sym (entry_none pool (table (used pool) b ms) m x)
              | inr y ↦
                  entry_some (taken pool i) (table (used (taken pool i)) b ms) m (omega arith)
                  ∙ taken_new pool n i s at z free (table (used (taken pool i)) b ms * 512 + m) (omega arith) (omega arith)
                  ∙ sym (entry_none pool (table (used pool) b ms) m x)
            ]
        | inr x ↦
            let p : 0 < table (used pool) b ms = omega arith in
            let y = new_kept (used pool) (used (taken pool i)) (next pool) i s.tree (used_none pool n i s at z free) (used_new pool n i s at z free) (used_same pool n i s at z free) b ms p in
            rw y
            (entry_some (taken pool i) (table (used pool) b ms) m p
            ∙ taken_same pool n i s at z free (table (used pool) b ms * 512 + m) (off p) (λ e. omega arith) (inl (omega arith))
            ∙ sym (entry_some pool (table (used pool) b ms) m p))
      ])

  -- the word at i is read as the pointer
  taken_pointer : (b : ℕ) (ms : List ℕ) (m : ℕ) → b < 16 → Indices ms → 0 < table (used pool) b ms → table (used pool) b ms * 512 + m ≡ i
      → word_at (taken pool i) b ms m ≡ next pool * 1024 + 1
  taken_pointer b ms m h d p g =
      let w = path_used pool n s b ms h d in
      rw (taken_kept b ms h d (omega arith) ∙ w)
      (entry_some (taken pool i) (table (used pool) b ms) m p ∙ ap (λ j. get_or (taken pool i) j 0) g ∙ taken_at pool n i s at z free
      ∙ cond-false (ltb i 16) (next pool) (next pool * 1024 + 1) (le-ltb i 16 (omega arith)))

  pub taken_shaped : Inner pool i → Shaped pool → Shaped (taken pool i)
  taken_shaped off c x u =
      let t = table (used pool) x.asid x.path in
      let plain : (0 < t → t * 512 + x.place ≡ i → ⊥) → is_shaped (length x.path) (word_at (taken pool i) x.asid x.path x.place) ≡ true
      = λ ne. ap (is_shaped (length x.path)) (taken_read x.asid x.path x.place u.0 u.1 u.3 ne) ∙ c x u in
      elim (cases_eq t 0) [
        | inl f ↦ plain (λ p e. omega arith)
        | inr f ↦
            elim (cases_eq (t * 512 + x.place) i) [
              | inr g ↦ plain (λ p e. g e)
              | inl g ↦
                  ap (is_shaped (length x.path)) (taken_pointer x.asid x.path x.place u.0 u.1 (omega arith) g)
                  ∙ shaped_pointer (length x.path) (next pool) (off x.asid x.place x.path u.0 u.1 u.3 u.2 (omega arith) g) s.some
            ]
      ]
