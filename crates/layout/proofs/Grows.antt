-- The tables on a path, taken one after the other where they are missing.
use Rattle.std.proofs.Common.{◌≡◌, ℕ, suc, ◌+◌, ◌*◌, ◌<◌, ◌≤◌, cond, eqb, List, [], ◌∷◌, length, get_or, refl, ap, ◌∙◌, inl, inr, arith}
use Rattle.std.proofs.lemmas.Bool.Decides.{nat_tests}
use Rattle.std.proofs.lemmas.Bool.{cases_eq, cond-true, cond-false, eq-eqb, ne_eqb}
use Rattle.layout.specs.Tables.{table, next, names, word_at, index, path_of}
use Rattle.layout.specs.Changes.{taken, grown, built, missing}
use Rattle.layout.specs.Sound.{used, Shaped}
use Rattle.layout.proofs.Trees.{Indices, below_is, place_eq, one_path}
use Rattle.layout.proofs.Takes.{Treed, Place, place_low, grown_length, taken_next, taken_names, taken_same, taken_treed}
use Rattle.layout.proofs.Walks.{Inner, path_used, path_inside, taken_kept, taken_read, taken_shaped}

pub indices_of : (page : ℕ) → Indices (path_of page)
indices_of page = (omega arith, (omega arith, tt))

-- the word that holds the leaf of a page; 0 where there is no table
abbrev pub leaf_word : List ℕ → ℕ → ℕ → ℕ
leaf_word pool asid page = word_at pool asid (path_of page) (index page 0)

-- p has every table of the pool, the same leaves, and the same words past n frames
pub record Extends (pool p : List ℕ) (n : ℕ) : Type 0 where
  pub treed : Treed p n
  pub keeps : (b : ℕ) (ms : List ℕ) → b < 16 → Indices ms → 0 < table (names pool) b ms → table (names p) b ms ≡ table (names pool) b ms
  pub leaves : (b q : ℕ) → b < 16 → leaf_word p b q ≡ leaf_word pool b q
  pub shaped : Shaped pool → Shaped p
  pub rest : (j : ℕ) → n * 512 ≤ j → get_or p j 0 ≡ get_or pool j 0

extends_trans : (p q r : List ℕ) (n : ℕ) → Extends p q n → Extends q r n → Extends p r n
extends_trans p q r n x y =
    record {
      treed = y.treed;
      keeps = λ b ms h d z. let e = x.keeps b ms h d z in y.keeps b ms h d (omega arith) ∙ e;
      leaves = λ b m h. y.leaves b m h ∙ x.leaves b m h;
      shaped = λ c. y.shaped (x.shaped c);
      rest = λ j l. y.rest j l ∙ x.rest j l;
    }

-- word i may come to name a table
pub record Ready (p : List ℕ) (n i : ℕ) : Type 0 where
  pub at : Place p i
  pub inner : Inner p i
  pub free : names p i ≡ 0 → next p < n

-- word i names a table after at most one frame was taken
record Step (pool p : List ℕ) (n i : ℕ) : Type 0 where
  extends : Extends pool p n
  most : next p ≤ suc (next pool)
  still : (names pool i ≡ 0 → ⊥) → next p ≡ next pool
  there : 0 < names p i

grown_step : (pool : List ℕ) (n i : ℕ) → Treed pool n → Ready pool n i → Step pool (grown pool i) n i
grown_step pool n i s r =
    let at = r.at in
    elim (cases_eq (names pool i) 0) [
      | inl z ↦
          let e : cond (eqb (names pool i) 0) (taken pool i) pool ≡ taken pool i = cond-true (eqb (names pool i) 0) (taken pool i) pool (eq-eqb (names pool i) 0 z) in
          let f = r.free z in
          let m = taken_next pool n i s at z f in
          let o = s.some in
          let w = taken_names pool n i s at z f in
          rw e
          (record {
            extends =
                record {
                  treed = taken_treed pool n i s at z f;
                  keeps = taken_kept pool n i s at z f;
                  leaves = λ b q h. taken_read pool n i s at z f b (path_of q) (index q 0) h (indices_of q) (omega arith)
                      (λ p g. let y : length (path_of q) < 2 = r.inner b (index q 0) (path_of q) h (indices_of q) (omega arith) (omega arith) p g in omega arith);
                  shaped = taken_shaped pool n i s at z f r.inner;
                  rest = λ j l. let k = place_low pool n i s at z f in taken_same pool n i s at z f j (λ y. omega arith) (λ y. omega arith) (inr (omega arith));
                };
            most = omega arith;
            still = λ y. absurd (y z);
            there = omega arith;
          })
      | inr z ↦
          let e : cond (eqb (names pool i) 0) (taken pool i) pool ≡ pool = cond-false (eqb (names pool i) 0) (taken pool i) pool (ne_eqb (names pool i) 0 z) in
          rw e
          (record {
            extends = record { treed = s; keeps = λ b ms h d p. refl; leaves = λ b q h. refl; shaped = λ c. c; rest = λ j l. refl };
            most = omega arith;
            still = λ y. refl;
            there = omega arith;
          })
    ]

missing_root : (pool : List ℕ) (a : ℕ) → names pool a ≡ 0 → missing pool a [] ≡ 1
unfolding missing
missing_root pool a z = grind (arith, nat_tests)

missing_more : (pool : List ℕ) (a k : ℕ) (ks : List ℕ) → table (names pool) a (k ∷ ks) ≡ 0 → missing pool a (k ∷ ks) ≡ suc (missing pool a ks)
unfolding missing
missing_more pool a k ks z = grind (arith, nat_tests)

pub missing_least : (pool : List ℕ) (a k : ℕ) (ks : List ℕ) → missing pool a ks ≤ missing pool a (k ∷ ks)
unfolding missing
missing_least pool a k ks = grind (arith, nat_tests)

pub missing_most : (pool : List ℕ) (a : ℕ) (ks : List ℕ) → missing pool a ks ≤ suc (length ks)
unfolding missing
missing_most pool a [] = grind (arith, nat_tests)
missing_most pool a (k ∷ ks) = let r = missing_most pool a ks in grind (arith, nat_tests)

-- p is the pool with the tables on a path
pub record Path (pool p : List ℕ) (n a : ℕ) (ks : List ℕ) : Type 0 where
  pub extends : Extends pool p n
  pub most : next p ≤ next pool + missing pool a ks
  pub there : 0 < table (names p) a ks

pub ready_root : (pool : List ℕ) (n a : ℕ) → a < 16 → next pool + missing pool a [] ≤ n → Ready pool n a
ready_root pool n a ha room =
    record {
      at = inl ha;
      inner = λ b m ms hb d dm l p e. absurd (omega arith);
      free = λ z. let m = missing_root pool a z in omega arith;
    }

path_root : (pool : List ℕ) (n : ℕ) → Treed pool n → (a : ℕ) → a < 16 → next pool + missing pool a [] ≤ n → Path pool (grown pool a) n a []
unfolding table
path_root pool n s a ha room =
    let st = grown_step pool n a s (ready_root pool n a ha room) in
    record {
      extends = st.extends;
      most = elim (cases_eq (names pool a) 0) [
        | inl z ↦ let m = missing_root pool a z in let x = st.most in omega arith
        | inr z ↦ let x = st.still z in omega arith
      ];
      there = st.there;
    }

module _ (pool p : List ℕ) (n a : ℕ) (ha : a < 16) (k : ℕ) (ks : List ℕ) (d : Indices (k ∷ ks)) (w : Path pool p n a ks) (l : length ks < 2)
    (room : next pool + missing pool a (k ∷ ks) ≤ n) where
  -- a table that was there is there still
  still_none : names p (table (names p) a ks * 512 + k) ≡ 0 → table (names pool) a (k ∷ ks) ≡ 0
  unfolding table
  still_none z =
      let b = below_is (names p) (table (names p) a ks) k w.there in
      elim (cases_eq (table (names pool) a (k ∷ ks)) 0) [
        | inl y ↦ y
        | inr y ↦ let e = w.extends.keeps a (k ∷ ks) ha d (omega arith) in absurd (omega arith)
      ]

  pub ready_entry : Ready p n (table (names p) a ks * 512 + k)
  ready_entry =
      let dk = d.0 in
      let sp = w.extends.treed in
      let f = path_used p n sp a ks ha d.1 in
      let t = path_inside p n sp a ks ha d.1 in
      let th = w.there in
      let wm = w.most in
      record {
        at = inr (omega arith, omega arith);
        inner = λ b m ms hb dms dm lm p0 e.
            let u = place_eq (table (used p) b ms) m (table (names p) a ks) k dm dk e in
            let v = one_path (used p) (next p) sp.tree b a ms ks hb ha dms d.1 p0 (u.0 ∙ f) in
            let x : length ms ≡ length ks = ap length v.1 in
            omega arith;
        free = λ z. let m = missing_more pool a k ks (still_none z) in omega arith;
      }

  entry_step : Step p (grown p (table (names p) a ks * 512 + k)) n (table (names p) a ks * 512 + k)
  entry_step = grown_step p n (table (names p) a ks * 512 + k) w.extends.treed ready_entry

  -- the path leads through the table that it led to before
  pub path_next : table (names (grown p (table (names p) a ks * 512 + k))) a (k ∷ ks)
      ≡ names (grown p (table (names p) a ks * 512 + k)) (table (names p) a ks * 512 + k)
  unfolding table
  path_next =
      let e = entry_step.extends.keeps a ks ha d.1 w.there in
      rw e (below_is (names (grown p (table (names p) a ks * 512 + k))) (table (names p) a ks) k w.there)

  path_more : Path pool (grown p (table (names p) a ks * 512 + k)) n a (k ∷ ks)
  path_more =
      let i = table (names p) a ks * 512 + k in
      let wm = w.most in
      let ml = missing_least pool a k ks in
      let st = entry_step in
      let q = grown p i in
      let e = path_next in
      let sth = st.there in
      record {
        extends = extends_trans pool p q n w.extends st.extends;
        most = elim (cases_eq (names p i) 0) [
          | inl z ↦ let m = missing_more pool a k ks (still_none z) in let x = st.most in omega arith
          | inr z ↦ let x = st.still z in omega arith
        ];
        there = omega arith;
      }

pub built_path : (pool : List ℕ) (n : ℕ) → Treed pool n → (a : ℕ) → a < 16 → (ks : List ℕ) → Indices ks → length ks ≤ 2
    → next pool + missing pool a ks ≤ n → Path pool (built pool a ks) n a ks
unfolding built
built_path pool n s a ha [] d l room = path_root pool n s a ha room
built_path pool n s a ha (k ∷ ks) d l room =
    let ml = missing_least pool a k ks in
    let w = built_path pool n s a ha ks d.1 (omega arith) (omega arith) in
    path_more pool (built pool a ks) n a ha k ks d w (omega arith) room

pub built_length : (pool : List ℕ) (a : ℕ) (ks : List ℕ) → length (built pool a ks) ≡ length pool
unfolding built
built_length pool a [] = grown_length pool a
built_length pool a (k ∷ ks) = grown_length (built pool a ks) (table (names (built pool a ks)) a ks * 512 + k) ∙ built_length pool a ks
