-- The walk of a sound pool finds the leaf word of a page.
use Rattle.std.proofs.Common.{◌≡◌, ℕ, suc, ◌+◌, ◌*◌, ◌/◌, ◌%◌, ◌^◌, ◌<◌, ◌≤◌, true, false, cond, eqb, ltb, ◌⊎◌, List, [], ◌∷◌, length, get_or, Some, None, Ok, Err, Option, sym, refl, ap, ◌∙◌, inl, inr, arith}
use Rattle.std.proofs.lemmas.Bool.{cases_eq, cond-true, cond-false, eq-eqb, ne_eqb, eqb-true, ltb-true, lt-ltb, le-ltb, and_parts, not-true}
use Rattle.entry.specs.declared.entries.Entry.{Entry}
use Rattle.entry.specs.Bits.{bit, bits}
use Rattle.entry.specs.Entry.{is_global, is_pointer, frame_of, stops}
use Rattle.table.specs.Walk.{word_of, walk_from}
use Rattle.table.proofs.Descents.{at_stop, at_pointer, at_leaf}
use Rattle.stages.specs.Stages.{is_canonical}
use Rattle.layout.specs.Tables.{frames, table, next, named, names, word_at, index, path_of}
use Rattle.layout.specs.Sound.{is_leaf, is_shaped, Sound}
use Rattle.layout.specs.Finds.{pool_reads, entry_of, found}
use Rattle.layout.proofs.Trees.{Indices, below_is}
use Rattle.layout.proofs.Walks.{entry_some, entry_none, path_inside}
use Rattle.layout.proofs.Grows.{indices_of, leaf_word}
use Rattle.layout.proofs.Inserts.{treed_of}

-- the entry that a leaf word is: none where it is 0
abbrev pub leaf_entry : ℕ → Option Entry
leaf_entry w = cond (eqb w 0) None (Some (record { word = w }))

-- a pointer of the pool is one that a walk follows above level 0
module _ (w : ℕ) (v : w % 1024 ≡ 1) (s : w / 1024 < 512) where
  off : (k : ℕ) → w / 2 ^ k % 2 ≡ 0 → bit k w ≡ false
  off k e = ne_eqb (w / 2 ^ k % 2) 1 (λ x. omega arith)

  valid : bit 0 w ≡ true
  valid = eq-eqb (w / 2 ^ 0 % 2) 1 (omega arith)

  short : eqb (bits 54 10 w) 0 ≡ true
  short = eq-eqb (bits 54 10 w) 0 (omega arith)

  follows : (level : ℕ) → 0 < level → stops level w ≡ false
  follows level p =
      let z : eqb level 0 ≡ false = ne_eqb level 0 (λ e. omega arith) in
      rw (valid, off 1 (omega arith), off 2 (omega arith), short, off 3 (omega arith), off 4 (omega arith), off 6 (omega arith), off 7 (omega arith), z) refl

  points : is_pointer w ≡ true
  points = rw (off 1 (omega arith), off 3 (omega arith)) refl

  plain : is_global w ≡ false
  plain = off 5 (omega arith)

  leads : frame_of w ≡ w / 1024
  leads = omega arith

-- an entry above the leaves, by what it names
named_entry : (i w : ℕ) → 16 ≤ i → w % 1024 ≡ 1 → named i w ≡ w / 1024
named_entry i w h e = rw (le-ltb i 16 h, eq-eqb (w % 1024) 1 e) refl

module _ (pool : List ℕ) (g : Sound pool) (a : ℕ) (ha : a < 16) where
  inside : (ks : List ℕ) → Indices ks → table (names pool) a ks < next pool
  inside ks d = path_inside pool (frames pool) (treed_of pool g) a ks ha d

  reads_word : (ks : List ℕ) (k : ℕ) → Indices ks → k < 512 → 0 < table (names pool) a ks
      → pool_reads pool (table (names pool) a ks * 512 + k) ≡ Ok (word_at pool a ks k)
  reads_word ks k d dk p =
      let t = inside ks d in let f = g.2 in let l = g.0 in
      let i = table (names pool) a ks * 512 + k in
      cond-true (ltb i (length pool)) (Ok (get_or pool i 0)) (Err (record {})) (lt-ltb i (length pool) (omega arith))
      ∙ ap (λ x. Ok x) (sym (entry_some pool (table (names pool) a ks) k p))

  shape : (ks : List ℕ) (k : ℕ) → Indices ks → k < 512 → length ks ≤ 2 → is_shaped (length ks) (word_at pool a ks k) ≡ true
  shape ks k d dk l = g.5 (record { asid = a; path = ks; place = k }) (ha, d, l, dk)

  -- an entry of an upper table is 0, or a pointer to the next table
  next_table : (ks : List ℕ) (k : ℕ) → k < 512 → 0 < table (names pool) a ks → table (names pool) a (k ∷ ks) ≡ named 512 (word_at pool a ks k)
  unfolding table
  next_table ks k dk p =
      let f = table (names pool) a ks in
      below_is (names pool) f k p
      ∙ (rw (le-ltb (f * 512 + k) 16 (omega arith)) refl)
      ∙ ap (named 512) (sym (entry_some pool f k p))

  module _ (page level : ℕ) (above : 0 < level) (ks : List ℕ) (k : ℕ) (d : Indices ks) (dk : k < 512) (l : length ks < 2) (t : 0 < table (names pool) a ks)
      (at : word_of 2 9 page level (table (names pool) a ks) ≡ table (names pool) a ks * 512 + k) where
    -- what the walk from this table comes to
    pub goes_down : ((table (names pool) a (k ∷ ks) ≡ 0) × (entry_of (walk_from (pool_reads pool) 2 9 page (suc level) (table (names pool) a ks) false) ≡ None))
        ⊎ ((0 < table (names pool) a (k ∷ ks))
        × (walk_from (pool_reads pool) 2 9 page (suc level) (table (names pool) a ks) false ≡ walk_from (pool_reads pool) 2 9 page level (table (names pool) a (k ∷ ks)) false))
    goes_down =
        let f = table (names pool) a ks in
        let w = word_at pool a ks k in
        let r : pool_reads pool (word_of 2 9 page level f) ≡ Ok w = ap (pool_reads pool) at ∙ reads_word ks k d dk t in
        let e = next_table ks k dk t in
        let sh = shape ks k d dk (omega arith) in
        elim (cases_eq w 0) [
          | inl z ↦
              inl (
                e ∙ ap (named 512) z,
                ap entry_of (at_stop (pool_reads pool) 2 9 page level f false 0 (r ∙ ap (λ x. Ok x) z) refl),
              )
          | inr z ↦
              let c : ltb (length ks) 2 ≡ true = lt-ltb (length ks) 2 l in
              let pt = and_parts (eqb (w % 1024) 1) (ltb 1 w) (rw (ne_eqb w 0 z, c) at sh) in
              let v : w % 1024 ≡ 1 = eqb-true (w % 1024) 1 pt.0 in
              let o : 1 < w = ltb-true 1 w pt.1 in
              let m : table (names pool) a (k ∷ ks) ≡ w / 1024 = e ∙ named_entry 512 w (omega arith) v in
              let i = inside (k ∷ ks) (dk, d) in
              let b = g.2 in
              let s : w / 1024 < 512 = omega arith in
              inr (
                omega arith,
                at_pointer (pool_reads pool) 2 9 page level f false w r (follows w v s level above) (points w v s)
                    ∙ rw (plain w v s, leads w v s, m) refl,
              )
        ]

  ends : (page : ℕ) → 0 < table (names pool) a (path_of page)
      → entry_of (walk_from (pool_reads pool) 2 9 page 1 (table (names pool) a (path_of page)) false) ≡ leaf_entry (leaf_word pool a page)
  ends page t =
      let f = table (names pool) a (path_of page) in
      let w = leaf_word pool a page in
      let r : pool_reads pool (word_of 2 9 page 0 f) ≡ Ok w = reads_word (path_of page) (index page 0) (indices_of page) (omega arith) t in
      let sh = shape (path_of page) (index page 0) (indices_of page) (omega arith) (omega arith) in
      elim (cases_eq w 0) [
        | inl z ↦ ap entry_of (at_stop (pool_reads pool) 2 9 page 0 f false 0 (r ∙ ap (λ x. Ok x) z) refl) ∙ sym (ap leaf_entry z)
        | inr z ↦
            let lf : is_leaf w ≡ true = rw (ne_eqb w 0 z) at sh in
            let x = and_parts _ _ lf in
            let y = and_parts _ _ x.1 in
            ap entry_of (at_leaf (pool_reads pool) 2 9 page 0 f false w r (not-true _ x.0) (not-true _ y.0))
            ∙ sym (cond-false (eqb w 0) None (Some (record { word = w })) (ne_eqb w 0 z))
      ]

  gone : (page : ℕ) → table (names pool) a (path_of page) ≡ 0 → leaf_word pool a page ≡ 0
  gone page z = entry_none pool (table (names pool) a (path_of page)) (index page 0) z

  gone_above : (k m : ℕ) → table (names pool) a (k ∷ []) ≡ 0 → table (names pool) a (m ∷ k ∷ []) ≡ 0
  unfolding table
  gone_above k m z = rw (eq-eqb _ 0 z) refl

  gone_root : (k m : ℕ) → table (names pool) a [] ≡ 0 → table (names pool) a (m ∷ k ∷ []) ≡ 0
  unfolding table
  gone_root k m z = rw (eq-eqb _ 0 z) refl

  root_table : get_or pool a 0 ≡ table (names pool) a []
  unfolding table
  root_table = rw (lt-ltb a 16 ha) refl

  pub found_word : (page : ℕ) → is_canonical page ≡ true → found pool a page ≡ leaf_entry (leaf_word pool a page)
  found_word page c =
      let f = table (names pool) a [] in
      let none : table (names pool) a (path_of page) ≡ 0 → None ≡ leaf_entry (leaf_word pool a page) = λ z. sym (ap leaf_entry (gone page z)) in
      let d = indices_of page in
      rw (c, root_table)
      (elim (cases_eq f 0) [
        | inl z ↦ cond-true (eqb f 0) None _ (eq-eqb f 0 z) ∙ none (gone_root (index page 2) (index page 1) z)
        | inr z ↦
            cond-false (eqb f 0) None _ (ne_eqb f 0 z)
            ∙ elim (goes_down page 2 (omega arith) [] (index page 2) tt d.1.0 (omega arith) (omega arith) refl) [
              | inl x ↦ x.1 ∙ none (gone_above (index page 2) (index page 1) x.0)
              | inr x ↦
                  ap entry_of x.1
                  ∙ elim (goes_down page 1 (omega arith) (index page 2 ∷ []) (index page 1) d.1 d.0 (omega arith) x.0 refl) [
                    | inl y ↦ y.1 ∙ none y.0
                    | inr y ↦ ap entry_of y.1 ∙ ends page y.0
                  ]
            ]
      ])

pub found_not : (pool : List ℕ) (a page : ℕ) → is_canonical page ≡ false → found pool a page ≡ None
found_not pool a page c = rw c refl
