-- A leaf word written or cleared, a root dropped, and a reset.
use Rattle.std.proofs.Common.{◌≡◌, ℕ, ◌+◌, ◌*◌, ◌/◌, ◌%◌, ◌<◌, ◌≤◌, true, ◌⊎◌, List, length, set, sym, refl, ap, ◌∙◌, inl, inr, arith}
use Rattle.std.proofs.lemmas.List.{length-set, get_or-set_same, get_or-set_other}
use Rattle.std.proofs.lemmas.Bool.Decides.{nat_tests}
use Rattle.std.proofs.lemmas.Bool.{cases_eq, cases_lt}
use Rattle.stages.specs.Stages.{is_canonical}
use Rattle.layout.specs.Tables.{table, next, named, names, word_at, index, path_of, leaf_table, leaf_place}
use Rattle.layout.specs.Changes.{cleared, reset, written, dropped}
use Rattle.layout.specs.Sound.{used, is_shaped, Shaped}
use Rattle.layout.proofs.Trees.{Indices, place_eq, one_path, less_tree, kept, none_below}
use Rattle.layout.proofs.Takes.{Treed, length_cleared, cleared_in, named_zero, used_root, used_entry, used_head, used_past}
use Rattle.layout.proofs.Walks.{entry_some, entry_none, path_used, path_inside}
use Rattle.layout.proofs.Grows.{indices_of, leaf_word}

-- a word other than 16 is set, and then names nothing
module _ (pool : List ℕ) (n i w : ℕ) (s : Treed pool n) (ne : 16 ≡ i → ⊥) where
  set_next : next (set pool i w) ≡ next pool
  set_next = get_or-set_other pool i 16 w 0 ne

  set_used : (j : ℕ) → (j ≡ i → ⊥) → used (set pool i w) j ≡ used pool j
  set_used j h = rw (set_next, get_or-set_other pool i j w 0 h)

  set_treed : used (set pool i w) i ≡ 0 → Treed (set pool i w) n
  set_treed z =
      let m = set_next in let l = length-set pool i w in let r = s.room in let o = s.some in let f = s.fits in
      record {
        room = omega arith;
        some = omega arith;
        fits = omega arith;
        tree = less_tree (used pool) (used (set pool i w)) (next pool) (next (set pool i w)) s.tree
            (λ j. elim (cases_eq j i) [ inl e ↦ inr (rw e z) | inr e ↦ inl (set_used j e) ]) (omega arith) (omega arith);
      }

  -- where the path to a table stays, a word of it other than i stays
  set_read : (b : ℕ) (ms : List ℕ) (m : ℕ) → table (names (set pool i w)) b ms ≡ table (names pool) b ms
      → (0 < table (names pool) b ms → table (names pool) b ms * 512 + m ≡ i → ⊥) → word_at (set pool i w) b ms m ≡ word_at pool b ms m
  set_read b ms m e off =
      let f = table (names pool) b ms in
      rw e
      (elim (cases_eq f 0) [
        | inl x ↦ entry_none (set pool i w) f m x ∙ sym (entry_none pool f m x)
        | inr x ↦
            entry_some (set pool i w) f m (omega arith) ∙ get_or-set_other pool i (f * 512 + m) w 0 (off (omega arith)) ∙ sym (entry_some pool f m (omega arith))
      ])

-- canonical pages with the same indices are one page
pub same_page : (p q : ℕ) → is_canonical p ≡ true → is_canonical q ≡ true → path_of p ≡ path_of q → index p 0 ≡ index q 0 → p ≡ q
same_page p q cp cq e l =
    let m : index p 1 ≡ index q 1 = cc in
    let h : index p 2 ≡ index q 2 = cc in
    let x : p % 134217728 ≡ q % 134217728 = omega arith in
    let hp : (p / 67108864 ≡ 0) ⊎ (p / 67108864 ≡ 67108863) = grind (arith, nat_tests) in
    let hq : (q / 67108864 ≡ 0) ⊎ (q / 67108864 ≡ 67108863) = grind (arith, nat_tests) in
    elim hp [
      | inl u ↦ elim hq [ inl v ↦ omega arith | inr v ↦ omega arith ]
      | inr u ↦ elim hq [ inl v ↦ omega arith | inr v ↦ omega arith ]
    ]

-- no leaf names a table
named_leaf : (i w : ℕ) → 16 ≤ i → (w % 1024 ≡ 1 → ⊥) → named i w ≡ 0
named_leaf i w h p = grind (arith, nat_tests)

-- a word that is no pointer is written at the leaf of a page
module _ (pool : List ℕ) (n : ℕ) (s : Treed pool n) (a page w : ℕ) (ha : a < 16) (there : 0 < leaf_table pool a page) (leaf : w % 1024 ≡ 1 → ⊥) where
  in_use : leaf_table pool a page < next pool
  in_use = path_inside pool n s a (path_of page) ha (indices_of page)

  not_16 : 16 ≡ leaf_place pool a page → ⊥
  not_16 e = omega arith

  in_pool : leaf_place pool a page < length pool
  in_pool = let r = s.room in let f = s.fits in let u = in_use in omega arith

  written_treed : Treed (written pool a page w) n
  written_treed =
      let i = leaf_place pool a page in
      let m = set_next pool n i w s not_16 in
      let u = in_use in
      set_treed pool n i w s not_16
      (used_entry (set pool i w) i (omega arith) (omega arith) ∙ ap (named i) (get_or-set_same pool i w 0 in_pool) ∙ named_leaf i w (omega arith) leaf)

  -- a position at the word is that of the leaf
  at_leaf : (b : ℕ) (ms : List ℕ) (m : ℕ) → b < 16 → Indices ms → m < 512 → 0 < table (names pool) b ms → table (names pool) b ms * 512 + m ≡ leaf_place pool a page
      → (b ≡ a) × (ms ≡ path_of page) × (m ≡ index page 0)
  at_leaf b ms m hb d dm p e =
      let v = path_used pool n s a (path_of page) ha (indices_of page) in
      let u = path_used pool n s b ms hb d in
      let q = place_eq (table (names pool) b ms) m (leaf_table pool a page) (index page 0) dm (omega arith) e in
      let y = one_path (used pool) (next pool) s.tree b a ms (path_of page) hb ha d (indices_of page) (omega arith) (sym u ∙ q.0 ∙ v) in
      (y.0, y.1, q.1)

  -- every table stays
  written_table : (b : ℕ) (ms : List ℕ) → b < 16 → Indices ms → length ms ≤ 2 → table (names (written pool a page w)) b ms ≡ table (names pool) b ms
  written_table b ms hb d l =
      let i = leaf_place pool a page in
      path_used (set pool i w) n written_treed b ms hb d
      ∙ kept (used pool) (used (set pool i w)) i (set_used pool n i w s not_16) b (λ e. omega arith) ms
      (λ m ns k dn p e.
      let u = path_used pool n s b ns hb dn.1 in
      let x = at_leaf b ns m hb dn.1 dn.0 (omega arith) (rw u e) in
      let y : length ns ≡ 2 = ap length x.1 in
      omega arith)
      d
      ∙ sym (path_used pool n s b ms hb d)

  pub written_here : leaf_word (written pool a page w) a page ≡ w
  written_here =
      rw (written_table a (path_of page) ha (indices_of page) (omega arith))
      (entry_some (written pool a page w) (leaf_table pool a page) (index page 0) there ∙ get_or-set_same pool (leaf_place pool a page) w 0 in_pool)

  written_read : (b : ℕ) (ms : List ℕ) (m : ℕ) → b < 16 → Indices ms → m < 512 → length ms ≤ 2
      → ((b ≡ a) × (ms ≡ path_of page) × (m ≡ index page 0) → ⊥) → word_at (written pool a page w) b ms m ≡ word_at pool b ms m
  written_read b ms m hb d dm l ne =
      set_read pool n (leaf_place pool a page) w s not_16 b ms m (written_table b ms hb d l) (λ p e. ne (at_leaf b ms m hb d dm p e))

  pub written_others : (b q : ℕ) → b < 16 → is_canonical page ≡ true → is_canonical q ≡ true → ((b ≡ a) × (q ≡ page) → ⊥)
      → leaf_word (written pool a page w) b q ≡ leaf_word pool b q
  written_others b q hb cp cq ne =
      written_read b (path_of q) (index q 0) hb (indices_of q) (omega arith) (omega arith)
      (λ x. ne (x.0, same_page q page cq cp x.1 x.2))

  written_shaped : is_shaped 2 w ≡ true → Shaped pool → Shaped (written pool a page w)
  written_shaped lw c x u =
      let other : ((x.asid ≡ a) × (x.path ≡ path_of page) × (x.place ≡ index page 0) → ⊥)
      → is_shaped (length x.path) (word_at (written pool a page w) x.asid x.path x.place) ≡ true
      = λ ne. ap (is_shaped (length x.path)) (written_read x.asid x.path x.place u.0 u.1 u.3 u.2 ne) ∙ c x u in
      let t = table (names pool) x.asid x.path in
      elim (cases_eq t 0) [
        | inl z ↦
            ap (is_shaped (length x.path)) (set_read pool n (leaf_place pool a page) w s not_16 x.asid x.path x.place
            (written_table x.asid x.path u.0 u.1 u.2) (λ p e. omega arith)) ∙ c x u
        | inr z ↦
            elim (cases_eq (t * 512 + x.place) (leaf_place pool a page)) [
              | inr y ↦
                  ap (is_shaped (length x.path)) (set_read pool n (leaf_place pool a page) w s not_16 x.asid x.path x.place
                  (written_table x.asid x.path u.0 u.1 u.2) (λ p e. y e)) ∙ c x u
              | inl y ↦
                  let e = at_leaf x.asid x.path x.place u.0 u.1 u.3 (omega arith) y in
                  let h : word_at (written pool a page w) x.asid x.path x.place ≡ w = rw (e.0, e.1, e.2) written_here in
                  rw (h, e.1) lw
            ]
      ]

  pub written_sound : is_shaped 2 w ≡ true → Shaped pool → Treed (written pool a page w) n × Shaped (written pool a page w)
  written_sound lw c = (written_treed, written_shaped lw c)

-- an ASID's root is cleared
module _ (pool : List ℕ) (n : ℕ) (s : Treed pool n) (a : ℕ) (ha : a < 16) where
  none : names (dropped pool a) a ≡ 0
  none = ap (named a) (get_or-set_same pool a 0 0 (let r = s.room in let f = s.fits in let o = s.some in omega arith)) ∙ named_zero a

  pub dropped_treed : Treed (dropped pool a) n
  dropped_treed = set_treed pool n a 0 s (λ e. omega arith) (used_root (set pool a 0) a ha ∙ none)

  pub dropped_here : (ms : List ℕ) (m : ℕ) → word_at (dropped pool a) a ms m ≡ 0
  dropped_here ms m = entry_none (dropped pool a) (table (names (dropped pool a)) a ms) m (none_below (names (dropped pool a)) a none ms)

  pub dropped_others : (b : ℕ) (ms : List ℕ) (m : ℕ) → b < 16 → Indices ms → (b ≡ a → ⊥) → word_at (dropped pool a) b ms m ≡ word_at pool b ms m
  dropped_others b ms m hb d ne =
      set_read pool n a 0 s (λ e. omega arith) b ms m
      (path_used (set pool a 0) n dropped_treed b ms hb d
      ∙ kept (used pool) (used (set pool a 0)) a (set_used pool n a 0 s (λ e. omega arith)) b ne ms (λ m ns l dn p e. omega arith) d
      ∙ sym (path_used pool n s b ms hb d))
      (λ p e. omega arith)

  pub dropped_shaped : Shaped pool → Shaped (dropped pool a)
  dropped_shaped c x u =
      elim (cases_eq x.asid a) [
        | inl e ↦ let h : word_at (dropped pool a) x.asid x.path x.place ≡ 0 = rw e (dropped_here x.path x.place) in rw h refl
        | inr e ↦ ap (is_shaped (length x.path)) (dropped_others x.asid x.path x.place u.0 u.1 e) ∙ c x u
      ]

pub reset_length : (pool : List ℕ) → length (reset pool) ≡ length pool
reset_length pool = simp (length-set, length_cleared)

module _ (pool : List ℕ) (n : ℕ) (some : 1 ≤ n) (room : n * 512 ≤ length pool) where
  pub reset_next : next (reset pool) ≡ 1
  reset_next = get_or-set_same (cleared pool 0 16) 16 1 0 (omega (arith, length_cleared pool 0 16))

  reset_root : (a : ℕ) → a < 16 → names (reset pool) a ≡ 0
  reset_root a h =
      ap (named a) (get_or-set_other (cleared pool 0 16) 16 a 1 0 (λ e. omega arith) ∙ cleared_in pool 0 16 a (omega arith) (omega arith) (omega arith))
      ∙ named_zero a

  reset_used : (j : ℕ) → used (reset pool) j ≡ 0
  reset_used j =
      let m = reset_next in
      elim (cases_lt j 16) [
        | inl x ↦ used_root (reset pool) j x ∙ reset_root j x
        | inr x ↦ elim (cases_lt j 512) [ inl y ↦ used_head (reset pool) j x y | inr y ↦ used_past (reset pool) j y (omega arith) ]
      ]

  pub reset_treed : Treed (reset pool) n
  reset_treed =
      let m = reset_next in let l = reset_length pool in
      record {
        room = omega arith;
        some = omega arith;
        fits = omega arith;
        tree = record { inside = λ i. let u = reset_used i in omega arith; apart = λ i j p q. let u = reset_used i in absurd (omega arith) };
      }

  pub reset_read : (b : ℕ) (ms : List ℕ) (m : ℕ) → b < 16 → word_at (reset pool) b ms m ≡ 0
  reset_read b ms m h = entry_none (reset pool) (table (names (reset pool)) b ms) m (none_below (names (reset pool)) b (reset_root b h) ms)

  pub reset_shaped : Shaped (reset pool)
  reset_shaped x u = let h = reset_read x.asid x.path x.place u.0 in rw h refl
