-- What every call leaves is sound, and the leaf words that it leaves.
use Rattle.std.proofs.Common.{◌≡◌, ℕ, ◌+◌, ◌*◌, ◌/◌, ◌%◌, ◌<◌, ◌≤◌, min, true, eqb, List, length, refl, ap, ◌∙◌, inl, inr, arith}
use Rattle.std.proofs.lemmas.List.{length-set}
use Rattle.std.proofs.lemmas.Bool.Decides.{nat_tests}
use Rattle.std.proofs.lemmas.Bool.{cases_eq, cases_Bool, cond-true, cond-false, eq-eqb, ne_eqb, leb-true, or_right}
use Rattle.stages.specs.Stages.{is_canonical}
use Rattle.layout.specs.Tables.{frames, next, index, path_of, leaf_table, leaf_place}
use Rattle.layout.specs.Changes.{reset, built, missing, has_room, ready, written, inserted, removed, dropped}
use Rattle.layout.specs.Sound.{is_leaf, Shaped, Sound}
use Rattle.layout.proofs.Takes.{Treed}
use Rattle.layout.proofs.Walks.{entry_none}
use Rattle.layout.proofs.Grows.{indices_of, leaf_word, Path, built_path, built_length, missing_most}
use Rattle.layout.proofs.Writes.{written_sound, written_here, written_others, dropped_treed, dropped_shaped, reset_next, reset_length, reset_treed, reset_shaped, reset_read}

pub treed_of : (pool : List ℕ) → Sound pool → Treed pool (frames pool)
treed_of pool g =
    let l = g.0 in
    record { room = omega arith; some = g.1; fits = g.2; tree = record { inside = g.3; apart = λ i j p q. g.4 i j (p, q) } }

-- what is a tree of the same length is sound
pub sound_from : (pool p : List ℕ) → 4 ≤ frames pool → length p ≡ length pool → Treed p (frames pool) → Shaped p → Sound p
sound_from pool p l e s c =
    let x : frames p ≡ frames pool = ap (λ m. min 512 (m / 512)) e in
    (rw x l, s.some, rw x s.fits, s.tree.inside, (λ i j h. s.tree.apart i j h.0 h.1), c)

pub reset_sound : (pool : List ℕ) → 4 ≤ frames pool → Sound (reset pool)
reset_sound pool l =
    let r : frames pool * 512 ≤ length pool = omega arith in
    sound_from pool (reset pool) l (reset_length pool) (reset_treed pool (frames pool) (omega arith) r) (reset_shaped pool (frames pool) (omega arith) r)

pub reset_none : (pool : List ℕ) → 4 ≤ frames pool → (b q : ℕ) → b < 16 → leaf_word (reset pool) b q ≡ 0
reset_none pool l b q h = reset_read pool (frames pool) (omega arith) (omega arith) b (path_of q) (index q 0) h

pub dropped_sound : (pool : List ℕ) (a : ℕ) → Sound pool → a < 16 → Sound (dropped pool a)
dropped_sound pool a g h =
    let s = treed_of pool g in
    sound_from pool (dropped pool a) g.0 (length-set pool a 0) (dropped_treed pool (frames pool) s a h) (dropped_shaped pool (frames pool) s a h g.5)

-- a leaf is no pointer, and not 0
pub leaf_plain : (w : ℕ) → is_leaf w ≡ true → (w % 1024 ≡ 1 → ⊥) × (w ≡ 0 → ⊥)
leaf_plain w h = (λ e. grind (arith, nat_tests), λ e. grind (arith, nat_tests))

-- the pool with room for a leaf
pub record Roomy (pool p : List ℕ) (a page : ℕ) : Type 0 where
  pub sound : Sound p
  pub long : length p ≡ length pool
  pub room : next p + missing p a (path_of page) ≤ frames p

pub ready_roomy : (pool : List ℕ) (a page : ℕ) → Sound pool → Roomy pool (ready pool a page) a page
ready_roomy pool a page g =
    elim (cases_Bool (has_room pool a page)) [
      | inl e ↦ rw e (record { sound = g; long = refl; room = leb-true _ _ e })
      | inr e ↦
          let l = g.0 in
          let x : frames (reset pool) ≡ frames pool = ap (λ m. min 512 (m / 512)) (reset_length pool) in
          let m = reset_next pool (frames pool) (omega arith) (omega arith) in
          let c = missing_most (reset pool) a (path_of page) in
          rw e (record { sound = reset_sound pool l; long = reset_length pool; room = omega arith })
    ]

module _ (pool : List ℕ) (a page w : ℕ) (g : Sound pool) (ha : a < 16) (lw : is_leaf w ≡ true) where
  roomy : Roomy pool (ready pool a page) a page
  roomy = ready_roomy pool a page g

  path : Path (ready pool a page) (built (ready pool a page) a (path_of page)) (frames (ready pool a page)) a (path_of page)
  path = let r = roomy in built_path (ready pool a page) (frames (ready pool a page)) (treed_of (ready pool a page) r.sound) a ha (path_of page) (indices_of page) (omega arith) r.room

  plain : (w % 1024 ≡ 1 → ⊥)
  plain = (leaf_plain w lw).0

  pub inserted_sound : Sound (inserted pool a page w)
  inserted_sound =
      let r = roomy in
      let y = path in
      let p = built (ready pool a page) a (path_of page) in
      let s = written_sound p (frames (ready pool a page)) y.extends.treed a page w ha y.there plain (or_right (eqb w 0) (is_leaf w) lw) (y.extends.shaped r.sound.5) in
      sound_from (ready pool a page) (written p a page w) r.sound.0 (length-set p (leaf_place p a page) w ∙ built_length (ready pool a page) a (path_of page)) s.0 s.1

  pub inserted_here : leaf_word (inserted pool a page w) a page ≡ w
  inserted_here = let y = path in written_here (built (ready pool a page) a (path_of page)) (frames (ready pool a page)) y.extends.treed a page w ha y.there plain

  pub inserted_others : (b m : ℕ) → b < 16 → is_canonical page ≡ true → is_canonical m ≡ true → ((b ≡ a) × (m ≡ page) → ⊥)
      → leaf_word (inserted pool a page w) b m ≡ leaf_word (ready pool a page) b m
  inserted_others b m hb cp cm ne =
      let y = path in
      written_others (built (ready pool a page) a (path_of page)) (frames (ready pool a page)) y.extends.treed a page w ha y.there plain b m hb cp cm ne
      ∙ y.extends.leaves b m hb

-- the pool without the leaf of a page
pub record Lacks (pool p : List ℕ) (a page : ℕ) : Type 0 where
  pub sound : Sound p
  pub here : leaf_word p a page ≡ 0
  pub others : (b m : ℕ) → b < 16 → is_canonical page ≡ true → is_canonical m ≡ true → ((b ≡ a) × (m ≡ page) → ⊥) → leaf_word p b m ≡ leaf_word pool b m

pub removed_lacks : (pool : List ℕ) (a page : ℕ) → Sound pool → a < 16 → Lacks pool (removed pool a page) a page
removed_lacks pool a page g ha =
    let f = leaf_table pool a page in
    let p = written pool a page 0 in
    elim (cases_eq f 0) [
      | inl z ↦
          let e : removed pool a page ≡ pool = cond-true (eqb f 0) pool p (eq-eqb f 0 z) in
          rw e (record { sound = g; here = entry_none pool f (index page 0) z; others = λ b m hb cp cm ne. refl })
      | inr z ↦
          let e : removed pool a page ≡ p = cond-false (eqb f 0) pool p (ne_eqb f 0 z) in
          let n = frames pool in
          let t : 0 < f = omega arith in
          let no : 0 % 1024 ≡ 1 → ⊥ = λ x. omega arith in
          let s = treed_of pool g in
          let w = written_sound pool n s a page 0 ha t no refl g.5 in
          rw e
          (record {
            sound = sound_from pool p g.0 (length-set pool (leaf_place pool a page) 0) w.0 w.1;
            here = written_here pool n s a page 0 ha t no;
            others = written_others pool n s a page 0 ha t no;
          })
    ]
