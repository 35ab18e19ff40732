-- A frame taken for a table: what each word then holds and names.
use Rattle.std.proofs.Common.{◌≡◌, ℕ, zero, suc, ◌+◌, ◌*◌, ◌/◌, ◌%◌, ◌<◌, ◌≤◌, min, eqb, ◌-◌, ◌≢◌, ◌⊎◌, List, ◌++◌, length, get_or, take, drop, replicate, set, length-append, length-drop, length-take-le, sym, refl, ap, ◌∙◌, inl, inr, arith}
use Rattle.std.proofs.lemmas.List.{length-set, length-replicate, get_or-set_same, get_or-set_other, get_or_append_left, get_or-append_right, get_or-take, get_or-drop, get_or-replicate, ext_get_or}
use Rattle.std.proofs.lemmas.Bool.Decides.{nat_tests}
use Rattle.std.proofs.lemmas.Bool.{cases_eq, cases_lt, cases_Bool, cond-true, eq-eqb}
use Rattle.layout.specs.Tables.{frames, next, named, names}
use Rattle.layout.specs.Changes.{cleared, naming, taken, grown}
use Rattle.layout.specs.Sound.{used}
use Rattle.layout.proofs.Trees.{Tree, new_tree}

-- a pool with room for n frames whose words in use name a tree
pub record Treed (pool : List ℕ) (n : ℕ) : Type 0 where
  pub room : n * 512 ≤ length pool
  pub some : 1 ≤ next pool
  pub fits : next pool ≤ n
  pub tree : Tree (used pool) (next pool)

-- a word that may name a table: a root, or an entry in a frame in use
abbrev pub Place : List ℕ → ℕ → Type 0
Place pool i = (i < 16) ⊎ ((512 ≤ i) × (i < next pool * 512))

pub length_cleared : (pool : List ℕ) (at k : ℕ) → length (cleared pool at k) ≡ length pool
unfolding cleared
length_cleared pool at zero = refl
length_cleared pool at (suc k) = length-set (cleared pool at k) (at + k) 0 ∙ length_cleared pool at k

pub cleared_out : (pool : List ℕ) (at k j : ℕ) → (j < at) ⊎ (at + k ≤ j) → get_or (cleared pool at k) j 0 ≡ get_or pool j 0
unfolding cleared
cleared_out pool at zero j h = refl
cleared_out pool at (suc k) j h =
    let ne : j ≢ at + k = λ e. elim h [ inl x ↦ omega arith | inr x ↦ omega arith ] in
    get_or-set_other (cleared pool at k) (at + k) j 0 0 ne ∙ cleared_out pool at k j (elim h [ inl x ↦ inl x | inr x ↦ inr (omega arith) ])

pub cleared_in : (pool : List ℕ) (at k j : ℕ) → at + k ≤ length pool → at ≤ j → j < at + k → get_or (cleared pool at k) j 0 ≡ 0
unfolding cleared
cleared_in pool at zero j r l h = absurd (omega arith)
cleared_in pool at (suc k) j r l h =
    elim (cases_eq j (at + k)) [
      | inl e ↦ rw e (get_or-set_same (cleared pool at k) (at + k) 0 0 (omega (arith, length_cleared pool at k)))
      | inr e ↦ get_or-set_other (cleared pool at k) (at + k) j 0 0 e ∙ cleared_in pool at k j (omega arith) l (omega arith)
    ]

-- words from `at` on filled with zeros
module _ (pool : List ℕ) (at k : ℕ) (h : at + k ≤ length pool) where
  filled : List ℕ
  filled = take at pool ++ (replicate k 0 ++ drop k (drop at pool))

  filled_word : (i : ℕ) → get_or filled i 0 ≡ get_or (cleared pool at k) i 0
  unfolding filled
  filled_word i =
      let l = length-take-le at pool (omega arith) in
      elim (cases_lt i at) [
        | inl x ↦ get_or_append_left (take at pool) _ 0 i (omega arith) ∙ get_or-take at pool i 0 x ∙ sym (cleared_out pool at k i (inl x))
        | inr x ↦
            get_or-append_right (take at pool) _ at i 0 l x
            ∙ elim (cases_lt i (at + k)) [
              | inl y ↦
                  get_or_append_left (replicate k 0) _ 0 (i - at) (omega (arith, length-replicate {A = ℕ} k 0)) ∙ get_or-replicate k (i - at) 0 0 (omega arith)
                  ∙ sym (cleared_in pool at k i h x y)
              | inr y ↦
                  let e : at + (k + (i - at - k)) ≡ i = omega arith in
                  get_or-append_right (replicate k 0) _ k (i - at) 0 (length-replicate {A = ℕ} k 0) (omega arith)
                  ∙ get_or-drop k (drop at pool) (i - at - k) 0 ∙ get_or-drop at pool (k + (i - at - k)) 0
                  ∙ ap (λ n. get_or pool n 0) e ∙ sym (cleared_out pool at k i (inr y))
            ]
      ]

  filled_length : length filled ≡ length (cleared pool at k)
  unfolding filled
  filled_length =
      let t = length-take-le at pool (omega arith) in
      let e : at + (k + (length pool - at - k)) ≡ length pool = omega arith in
      simp (length-append, length-replicate, length-drop, t, length_cleared) e

  pub filled_cleared : (zs : List ℕ) → zs ≡ replicate k 0 → take at pool ++ (zs ++ drop k (drop at pool)) ≡ cleared pool at k
  unfolding filled
  filled_cleared zs e = rw e (ext_get_or 0 filled (cleared pool at k) filled_length (λ i l. filled_word i))

pub named_zero : (i : ℕ) → named i 0 ≡ 0
named_zero i = grind (arith, nat_tests)

pub named_naming : (i f : ℕ) → named i (naming i f) ≡ f
named_naming i f =
    elim (cases_lt i 16) [
      | inl h ↦ grind (arith, nat_tests)
      | inr h ↦ let x : (f * 1024 + 1) % 1024 ≡ 1 = omega arith in let y : (f * 1024 + 1) / 1024 ≡ f = omega arith in grind (arith, nat_tests)
    ]

pub used_root : (pool : List ℕ) (i : ℕ) → i < 16 → used pool i ≡ names pool i
used_root pool i h = grind (arith, nat_tests)

pub used_entry : (pool : List ℕ) (i : ℕ) → 512 ≤ i → i < next pool * 512 → used pool i ≡ names pool i
used_entry pool i h k = grind (arith, nat_tests)

pub used_head : (pool : List ℕ) (i : ℕ) → 16 ≤ i → i < 512 → used pool i ≡ 0
used_head pool i h k = grind (arith, nat_tests)

pub used_past : (pool : List ℕ) (i : ℕ) → 512 ≤ i → next pool * 512 ≤ i → used pool i ≡ 0
used_past pool i h k = grind (arith, nat_tests)

pub used_place : (pool : List ℕ) (i : ℕ) → Place pool i → used pool i ≡ names pool i
used_place pool i at = elim at [ inl h ↦ used_root pool i h | inr h ↦ used_entry pool i h.0 h.1 ]

pub place_named : (pool : List ℕ) (n i : ℕ) → Treed pool n → Place pool i → names pool i < n
place_named pool n i s at = let e = used_place pool i at in let h = s.tree.inside i in let f = s.fits in omega arith

pub taken_length : (pool : List ℕ) (i : ℕ) → length (taken pool i) ≡ length pool
taken_length pool i = simp (length-set, length_cleared)

-- the word that names the new table is the last one written
taken_last : (pool : List ℕ) (i : ℕ) → i < length pool → get_or (taken pool i) i 0 ≡ naming i (next pool)
taken_last pool i h =
    get_or-set_same (set (cleared pool (next pool * 512) 512) 16 (next pool + 1)) i (naming i (next pool)) 0 (simp (length-set, length_cleared) h)

-- what word i names after the frame was taken
pub grown_names : (pool p : List ℕ) (i r : ℕ) → i < length pool → r ≡ next pool → p ≡ taken pool i → r ≡ names p i
grown_names pool p i r h e q = rw (e, q) (sym (ap (named i) (taken_last pool i h) ∙ named_naming i (next pool)))

pub taken_frames : (pool p : List ℕ) (i : ℕ) → p ≡ taken pool i → frames p ≡ frames pool
taken_frames pool p i q = rw q (ap (λ m. min 512 (m / 512)) (taken_length pool i))

pub grown_taken : (pool p : List ℕ) (i : ℕ) → p ≡ taken pool i → names pool i ≡ 0 → p ≡ grown pool i
grown_taken pool p i q z = q ∙ sym (cond-true (eqb (names pool i) 0) (taken pool i) pool (eq-eqb (names pool i) 0 z))

pub grown_length : (pool : List ℕ) (i : ℕ) → length (grown pool i) ≡ length pool
grown_length pool i = elim (cases_Bool (eqb (names pool i) 0)) [ inl e ↦ rw e (taken_length pool i) | inr e ↦ rw e refl ]

module _ (pool : List ℕ) (n i : ℕ) (s : Treed pool n) (at : Place pool i) (z : names pool i ≡ 0) (free : next pool < n) where
  pub place_low : i < next pool * 512
  place_low = let r = s.some in elim at [ inl h ↦ omega arith | inr h ↦ h.1 ]

  long : next pool * 512 + 512 ≤ length pool
  long = let r = s.room in omega arith

  not_16 : i ≡ 16 → ⊥
  not_16 e = elim at [ inl h ↦ omega arith | inr h ↦ omega arith ]

  -- the words but i and 16
  taken_word : (j : ℕ) → (j ≡ i → ⊥) → (j ≡ 16 → ⊥) → get_or (taken pool i) j 0 ≡ get_or (cleared pool (next pool * 512) 512) j 0
  taken_word j a b =
      get_or-set_other (set (cleared pool (next pool * 512) 512) 16 (next pool + 1)) i j (naming i (next pool)) 0 a
      ∙ get_or-set_other (cleared pool (next pool * 512) 512) 16 j (next pool + 1) 0 b

  pub taken_next : next (taken pool i) ≡ suc (next pool)
  taken_next =
      get_or-set_other (set (cleared pool (next pool * 512) 512) 16 (next pool + 1)) i 16 (naming i (next pool)) 0 (λ e. not_16 (sym e))
      ∙ get_or-set_same (cleared pool (next pool * 512) 512) 16 (next pool + 1) 0 (let l = long in omega (arith, length_cleared pool (next pool * 512) 512))
      ∙ omega arith

  pub taken_at : get_or (taken pool i) i 0 ≡ naming i (next pool)
  taken_at = taken_last pool i (let l = long in let k = place_low in omega arith)

  pub taken_names : names (taken pool i) i ≡ next pool
  taken_names = ap (named i) taken_at ∙ named_naming i (next pool)

  pub taken_same : (j : ℕ) → (j ≡ i → ⊥) → (j ≡ 16 → ⊥) → (j < next pool * 512) ⊎ (next pool * 512 + 512 ≤ j) → get_or (taken pool i) j 0 ≡ get_or pool j 0
  taken_same j a b h = taken_word j a b ∙ cleared_out pool (next pool * 512) 512 j h

  pub taken_new : (j : ℕ) → next pool * 512 ≤ j → j < next pool * 512 + 512 → get_or (taken pool i) j 0 ≡ 0
  taken_new j a b =
      let k = place_low in let m = s.some in
      taken_word j (λ e. omega arith) (λ e. omega arith) ∙ cleared_in pool (next pool * 512) 512 j long a b

  pub used_none : used pool i ≡ 0
  used_none = used_place pool i at ∙ z

  pub used_new : used (taken pool i) i ≡ next pool
  used_new =
      let m = taken_next in
      elim at [ inl h ↦ used_root (taken pool i) i h ∙ taken_names | inr h ↦ used_entry (taken pool i) i h.0 (omega arith) ∙ taken_names ]

  pub used_same : (j : ℕ) → (j ≡ i → ⊥) → used (taken pool i) j ≡ used pool j
  used_same j a =
      let m = taken_next in let o = s.some in
      elim (cases_lt j 16) [
        | inl x ↦ used_root (taken pool i) j x ∙ ap (named j) (taken_same j a (λ e. omega arith) (inl (omega arith))) ∙ sym (used_root pool j x)
        | inr x ↦
            elim (cases_lt j 512) [
              | inl y ↦ used_head (taken pool i) j x y ∙ sym (used_head pool j x y)
              | inr y ↦
                  elim (cases_lt j (next pool * 512)) [
                    | inl u ↦
                        used_entry (taken pool i) j y (omega arith) ∙ ap (named j) (taken_same j a (λ e. omega arith) (inl u)) ∙ sym (used_entry pool j y u)
                    | inr u ↦
                        elim (cases_lt j (next pool * 512 + 512)) [
                          | inl v ↦ used_entry (taken pool i) j y (omega arith) ∙ ap (named j) (taken_new j u v) ∙ named_zero j ∙ sym (used_past pool j y u)
                          | inr v ↦ used_past (taken pool i) j y (omega arith) ∙ sym (used_past pool j y u)
                        ]
                  ]
            ]
      ]

  pub taken_treed : Treed (taken pool i) n
  taken_treed =
      let m = taken_next in let l = taken_length pool i in let r = s.room in
      record {
        room = omega arith;
        some = omega arith;
        fits = omega arith;
        tree = rw taken_next (new_tree (used pool) (used (taken pool i)) (next pool) i s.tree used_none used_new used_same);
      }
