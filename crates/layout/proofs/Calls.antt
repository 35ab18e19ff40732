-- What code that walks, grows and clears the tables step by step needs of the definitions.
use Rattle.std.proofs.Common.{◌≡◌, ℕ, ◌+◌, ◌*◌, ◌/◌, ◌^◌, ◌<◌, ◌≤◌, min, Bool, true, false, not, eqb, ltb, List, [], ◌∷◌, ◌++◌, length, get_or, take, set, Some, None, Option, is_some, sym, refl, ap, ◌∙◌, inl, inr, arith}
use Rattle.std.specs.Int.{from_bool}
use Rattle.std.proofs.lemmas.List.{take_at}
use Rattle.std.proofs.lemmas.Option.{none-some}
use Rattle.std.proofs.lemmas.Bool.{cases_eq, false≢true, and_parts, lt-ltb, ltb-true, leb-true, le-leb, ne_eqb, eq-eqb, cond-true, cond-false}
use Rattle.entry.specs.declared.entries.Entry.{Entry}
use Rattle.entry.specs.Entry.{stops, is_pointer, frame_of}
use Rattle.stages.specs.Stages.{is_canonical}
use Rattle.layout.specs.Tables.{frames, next, IsFrame, names, below, table, index, path_of, leaf_table}
use Rattle.layout.specs.Changes.{grown, built, lack_of, missing, has_room, ready, inserted, removed}
use Rattle.layout.specs.Sound.{is_leaf, Sound}
use Rattle.layout.specs.Finds.{found}
use Rattle.layout.proofs.Trees.{Indices}
use Rattle.layout.proofs.Takes.{place_named}
use Rattle.layout.proofs.Walks.{path_inside}
use Rattle.layout.proofs.Grows.{indices_of, leaf_word, Path, ready_root, ready_entry, path_next, built_path, built_length, missing_least}
use Rattle.layout.proofs.Inserts.{treed_of, ready_roomy}
use Rattle.layout.specs.Laws.{LeavesApart}
use Rattle.layout.proofs.Holds.{leaves_apart}
use Rattle.layout.proofs.Found.{leaf_entry, found_word}

-- the tables on the way to a leaf, one after the other
module _ (pool : List ℕ) (a page k2 k1 f2 f1 f0 : ℕ) (ha : a < 16) (e2 : f2 ≡ get_or pool a 0) (h2 : k2 ≡ index page 2) (e1 : f1 ≡ below (names pool) f2 k2)
    (h1 : k1 ≡ index page 1) (e0 : f0 ≡ below (names pool) f1 k1) where
  root : f2 ≡ names pool a
  root = e2 ∙ sym (cond-true (ltb a 16) (get_or pool a 0) _ (lt-ltb a 16 ha))

  pub steps : f0 ≡ leaf_table pool a page
  unfolding table
  steps = e0 ∙ rw (h1, e1, h2, root) refl

  pub counts : (m2 m1 m0 : ℕ) → m2 ≡ lack_of f2 → m1 ≡ lack_of f1 → m0 ≡ lack_of f0 → m0 + (m1 + m2) ≡ missing pool a (path_of page)
  unfolding missing table
  counts m2 m1 m0 c2 c1 c0 = rw (c0, c1, c2, e0, e1, root, h1, h2) refl

-- a table that is there, or not, counted
pub lack_of-table : (f : ℕ) → 0 < f → lack_of f ≡ 0
lack_of-table f h = cond-false (eqb f 0) 1 0 (ne_eqb f 0 (λ e. omega arith))

pub lack_of-frame : (n : ℕ) (frame : Option ℕ) (none : Bool) → IsFrame n frame → is_some frame ≡ not none → from_bool none ≡ lack_of n
lack_of-frame n None true h e = sym (cond-true (eqb n 0) 1 0 (eq-eqb n 0 h))
lack_of-frame n None false h e = absurd (false≢true e)
lack_of-frame n (Some f) true h e = absurd (false≢true (sym e))
lack_of-frame n (Some f) false h e = sym (lack_of-table n (omega arith))

-- what a call that grows word i needs
abbrev pub Grows : List ℕ → ℕ → Type 0
Grows p i = (i < length p) × (names p i < frames p) × (names p i ≡ 0 → next p < frames p)

module _ (pool : List ℕ) (a page : ℕ) (g : Sound pool) (ha : a < 16) (room : has_room pool a page ≡ true) where
  enough : next pool + missing pool a (path_of page) ≤ frames pool
  enough = leb-true _ _ room

  pub grows_root : Grows pool a
  grows_root =
      let l = g.0 in
      let m = missing_least pool a (index page 2) [] in
      let n = missing_least pool a (index page 1) (index page 2 ∷ []) in
      let e = enough in
      (omega arith, place_named pool (frames pool) a (treed_of pool g) (inl ha), (ready_root pool (frames pool) a ha (omega arith)).free)

  first : (p : List ℕ) (r : ℕ) → p ≡ grown pool a → r ≡ names p a → (p ≡ built pool a []) × (r ≡ table (names p) a [])
  unfolding built table
  first p r e n = (e, n)

  module _ (k : ℕ) (ks : List ℕ) (d : Indices (k ∷ ks)) (l : length ks < 2) (free : next pool + missing pool a (k ∷ ks) ≤ frames pool)
      (p : List ℕ) (r : ℕ) (e : p ≡ built pool a ks) (n : r ≡ table (names p) a ks) where
    path : Path pool (built pool a ks) (frames pool) a ks
    path = let m = missing_least pool a k ks in built_path pool (frames pool) (treed_of pool g) a ha ks d.1 (omega arith) (omega arith)

    grows_next : Grows p (r * 512 + k)
    grows_next =
        let y = ready_entry pool (built pool a ks) (frames pool) a ha k ks d path l free in
        let x = built_length pool a ks in
        let f : frames (built pool a ks) ≡ frames pool = ap (λ m. min 512 (m / 512)) x in
        let t = path.extends.treed in
        let i = path_inside (built pool a ks) (frames pool) t a ks ha d.1 in
        let dk = d.0 in let o = t.fits in let b = t.room in
        let c = place_named (built pool a ks) (frames pool) _ t y.at in
        rw (n, e) (omega arith, omega arith, (λ z. let h = y.free z in omega arith))

    next_table : (q : List ℕ) (s : ℕ) → q ≡ grown p (r * 512 + k) → s ≡ names q (r * 512 + k) → (q ≡ built pool a (k ∷ ks)) × (s ≡ table (names q) a (k ∷ ks))
    unfolding built
    next_table q s h m =
        let x : q ≡ built pool a (k ∷ ks) = h ∙ rw (n, e) refl in
        (x, m ∙ rw (n, e, x) (sym (path_next pool (built pool a ks) (frames pool) a ha k ks d path l free)))

  -- the three tables, the root table first
  module _ (p : List ℕ) (r k : ℕ) (e : p ≡ grown pool a) (n : r ≡ names p a) (hk : k ≡ index page 2) where
    free : next pool + missing pool a (index page 2 ∷ []) ≤ frames pool
    free = let m = missing_least pool a (index page 1) (index page 2 ∷ []) in let x = enough in omega arith

    pub grows_middle : Grows p (r * 512 + k)
    grows_middle = let x = first p r e n in rw hk (grows_next (index page 2) [] (indices_of page).1 (omega arith) free p r x.0 x.1)

    module _ (q : List ℕ) (s j : ℕ) (f : q ≡ grown p (r * 512 + k)) (m : s ≡ names q (r * 512 + k)) (hj : j ≡ index page 1) where
      second : (q ≡ built pool a (index page 2 ∷ [])) × (s ≡ table (names q) a (index page 2 ∷ []))
      second =
          let x = first p r e n in
          next_table (index page 2) [] (indices_of page).1 (omega arith) free p r x.0 x.1 q s
          (f ∙ ap (λ i. grown p (r * 512 + i)) hk) (m ∙ ap (λ i. names q (r * 512 + i)) hk)

      pub grows_low : Grows q (s * 512 + j)
      grows_low = let x = second in rw hj (grows_next (index page 1) (index page 2 ∷ []) (indices_of page) (omega arith) enough q s x.0 x.1)

      pub built_all : (t : List ℕ) (u : ℕ) → t ≡ grown q (s * 512 + j) → u ≡ names t (s * 512 + j)
          → (t ≡ built pool a (path_of page)) × (u ≡ leaf_table t a page) × (u * 512 + 512 ≤ length t)
      built_all t u h w =
          let x = second in
          let y = next_table (index page 1) (index page 2 ∷ []) (indices_of page) (omega arith) enough q s x.0 x.1 t u
          (h ∙ ap (λ i. grown q (s * 512 + i)) hj) (w ∙ ap (λ i. names t (s * 512 + i)) hj) in
          let b = (built_path pool (frames pool) (treed_of pool g) a ha (path_of page) (indices_of page) (omega arith) enough).extends.treed in
          let i = path_inside (built pool a (path_of page)) (frames pool) b a (path_of page) ha (indices_of page) in
          let o = b.fits in let z = b.room in
          (y.0, y.1, rw (y.1, y.0) (omega arith))

-- a pool made ready has room
pub ready_room : (pool p : List ℕ) (a page : ℕ) → Sound pool → p ≡ ready pool a page → has_room p a page ≡ true
ready_room pool p a page g e = rw e (le-leb _ _ (ready_roomy pool a page g).room)

-- the last step of an insertion, where d are the words of the pool made ready, as a slice, and b those with the tables built; and that of a removal
pub insert_made : (pool p d b past : List ℕ) (n a page w f k : ℕ) → p ≡ ready pool a page → d ≡ p → length d ≡ n → length b ≡ length d → b ≡ built d a (path_of page)
    → f ≡ leaf_table b a page → k ≡ index page 0 → set (take n (b ++ past)) (f * 512 + k) w ≡ inserted pool a page w
insert_made pool p d b past n a page w f k e s l m t g h = rw (take_at b past n (m ∙ l), h, g, t, s, e) refl

pub remove_made : (pool : List ℕ) (a page f k : ℕ) → f ≡ leaf_table pool a page → 0 < f → k ≡ index page 0 → set pool (f * 512 + k) 0 ≡ removed pool a page
remove_made pool a page f k e z h =
    rw (h, e) (sym (cond-false (eqb (leaf_table pool a page) 0) pool _ (ne_eqb (leaf_table pool a page) 0 (λ x. omega arith))))

-- what is found is a leaf of a frame of 16 bits
pub found_small : (pool : List ℕ) (a page : ℕ) (e : Entry) → Sound pool → a < 16 → is_canonical page ≡ true → Some e ≡ found pool a page → frame_of e.word < 2 ^ 16
found_small pool a page e g ha c h =
    let w = leaf_word pool a page in
    let x : Some e ≡ leaf_entry w = h ∙ found_word pool g a ha page c in
    elim (cases_eq w 0) [
      | inl z ↦
          let y : Some e ≡ None = x ∙ cond-true (eqb w 0) None (Some (record { word = w })) (eq-eqb w 0 z) in
          absurd (none-some e (sym y))
      | inr z ↦
          let y : Some e ≡ Some (record { word = w }) = x ∙ cond-false (eqb w 0) None (Some (record { word = w })) (ne_eqb w 0 z) in
          let u : e ≡ record { word = w } = cc in
          let sh = g.5 (record { asid = a; path = path_of page; place = index page 0 }) (ha, indices_of page, omega arith, omega arith) in
          let lf : is_leaf w ≡ true = rw (ne_eqb w 0 z) at sh in
          let p = and_parts (not (is_pointer w)) (ltb (frame_of w) (2 ^ 16)) (and_parts (not (stops 0 w)) _ lf).1 in
          rw u (ltb-true (frame_of w) (2 ^ 16) p.1)
    ]

pub same_leaves : (p q : List ℕ) → q ≡ p → Sound p → LeavesApart q
same_leaves p q e g = rw e (leaves_apart p g)
