-- Trees of tables, by what each word names: a table is reached by one path, and what a change at one word does to the paths.
use Rattle.std.proofs.Common.{◌≡◌, ℕ, suc, ◌+◌, ◌*◌, ◌<◌, ◌≤◌, ◌⊎◌, List, [], ◌∷◌, length, sym, refl, ap, ◌∙◌, inl, inr, arith}
use Rattle.std.specs.List.{AllByRecursion}
use Rattle.std.proofs.lemmas.Bool.Decides.{nat_tests}
use Rattle.std.proofs.lemmas.Bool.{cases_eq}
use Rattle.layout.specs.Tables.{below, table}

-- the indices of a path
abbrev pub Indices : List ℕ → Type 0
Indices path = AllByRecursion (λ k. k < 512) path

-- every word names a frame below n, and no two words name one
pub record Tree (g : ℕ → ℕ) (n : ℕ) : Type 0 where
  pub inside : (i : ℕ) → g i < n
  pub apart : (i j : ℕ) → 0 < g i → g i ≡ g j → i ≡ j

pub below_zero : (g : ℕ → ℕ) (f k : ℕ) → f ≡ 0 → below g f k ≡ 0
below_zero g f k h = grind (arith, nat_tests)

pub below_is : (g : ℕ → ℕ) (f k : ℕ) → 0 < f → below g f k ≡ g (f * 512 + k)
below_is g f k h = grind (arith, nat_tests)

pub below_some : (g : ℕ → ℕ) (f k : ℕ) → 0 < below g f k → (0 < f) × (below g f k ≡ g (f * 512 + k))
below_some g f k h = (grind (arith, nat_tests), grind (arith, nat_tests))

-- entries of two tables lie at one word only if the tables and the indices are the same
pub place_eq : (f k e m : ℕ) → k < 512 → m < 512 → f * 512 + k ≡ e * 512 + m → (f ≡ e) × (k ≡ m)
place_eq f k e m hk hm p = (omega arith, omega arith)

pub table_inside : (g : ℕ → ℕ) (n : ℕ) → Tree g n → 0 < n → (a : ℕ) (ks : List ℕ) → table g a ks < n
unfolding table
table_inside g n t p a [] = t.inside a
table_inside g n t p a (k ∷ ks) =
    elim (cases_eq (table g a ks) 0) [
      | inl x ↦ let y = below_zero g (table g a ks) k x in omega arith
      | inr x ↦ let y = below_is g (table g a ks) k (omega arith) in let z = t.inside (table g a ks * 512 + k) in omega arith
    ]

-- a table is reached from one ASID by one path
pub one_path : (g : ℕ → ℕ) (n : ℕ) → Tree g n → (a b : ℕ) (ks ms : List ℕ) → a < 16 → b < 16 → Indices ks → Indices ms
    → 0 < table g a ks → table g a ks ≡ table g b ms → (a ≡ b) × (ks ≡ ms)
unfolding table
one_path g n t a b [] [] ha hb hk hm p e = (t.apart a b p e, refl)
one_path g n t a b [] (m ∷ ms) ha hb hk hm p e =
    let q = below_some g (table g b ms) m (omega (arith, e)) in
    let r = t.apart a (table g b ms * 512 + m) p (e ∙ q.1) in
    absurd (omega arith)
one_path g n t a b (k ∷ ks) [] ha hb hk hm p e =
    let q = below_some g (table g a ks) k p in
    let r = t.apart b (table g a ks * 512 + k) (omega arith) (sym e ∙ q.1) in
    absurd (omega arith)
one_path g n t a b (k ∷ ks) (m ∷ ms) ha hb hk hm p e =
    let q = below_some g (table g a ks) k p in
    let r = below_some g (table g b ms) m (omega (arith, e)) in
    let s = t.apart (table g a ks * 512 + k) (table g b ms * 512 + m) (omega arith) (sym q.1 ∙ e ∙ r.1) in
    let u = place_eq (table g a ks) k (table g b ms) m hk.0 hm.0 s in
    let v = one_path g n t a b ks ms ha hb hk.1 hm.1 q.0 u.0 in
    let x = u.1 in let y = v.1 in (v.0, cc)

-- from an ASID without a root table no path leads anywhere
pub none_below : (g : ℕ → ℕ) (a : ℕ) → g a ≡ 0 → (ks : List ℕ) → table g a ks ≡ 0
unfolding table
none_below g a z [] = z
none_below g a z (k ∷ ks) = below_zero g (table g a ks) k (none_below g a z ks)

-- word i, which named none, comes to name the new frame n
module _ (g h : ℕ → ℕ) (n i : ℕ) (t : Tree g n) (z : g i ≡ 0) (e : h i ≡ n) (same : (j : ℕ) → (j ≡ i → ⊥) → h j ≡ g j) where
  new_cases : (j : ℕ) → ((j ≡ i) × (h j ≡ n)) ⊎ (h j ≡ g j)
  new_cases j = elim (cases_eq j i) [ inl p ↦ inl (p, ap h p ∙ e) | inr p ↦ inr (same j p) ]

  pub new_tree : Tree h (suc n)
  new_tree =
      record {
        inside = λ j. let r = t.inside j in elim (new_cases j) [ inl p ↦ omega arith | inr p ↦ omega arith ];
        apart = λ j k p q.
            let c = t.inside j in let d = t.inside k in
            elim (new_cases j) [
              | inl x ↦ elim (new_cases k) [ inl y ↦ x.0 ∙ sym y.0 | inr y ↦ absurd (omega arith) ]
              | inr x ↦ elim (new_cases k) [ inl y ↦ absurd (omega arith) | inr y ↦ t.apart j k (omega arith) (sym x ∙ q ∙ y) ]
            ];
      }

  -- the tables that were there are there still
  pub new_kept : (b : ℕ) (ms : List ℕ) → 0 < table g b ms → table h b ms ≡ table g b ms
  unfolding table
  new_kept b [] p = same b (λ e. let x : g b ≡ g i = ap g e in omega arith)
  new_kept b (m ∷ ms) p =
      let q = below_some g (table g b ms) m p in
      let r = new_kept b ms q.0 in
      let s = same (table g b ms * 512 + m) (λ e. let x : g (table g b ms * 512 + m) ≡ g i = ap g e in omega arith) in
      rw r (below_is h (table g b ms) m q.0 ∙ (s ∙ sym q.1))

  -- the others are missing still, or are the new one
  pub new_others : i < n * 512 → ((j : ℕ) → n * 512 ≤ j → g j ≡ 0) → (b : ℕ) (ms : List ℕ) → table g b ms ≡ 0
      → (table h b ms ≡ 0) ⊎ (table h b ms ≡ n)
  unfolding table
  new_others lt past b [] p = elim (new_cases b) [ inl x ↦ inr x.1 | inr x ↦ inl (x ∙ p) ]
  new_others lt past b (m ∷ ms) p =
      elim (cases_eq (table g b ms) 0) [
        | inl x ↦
            elim (new_others lt past b ms x) [
              | inl y ↦ inl (below_zero h (table h b ms) m y)
              | inr y ↦
                  elim (cases_eq (table h b ms) 0) [
                    | inl c ↦ inl (below_zero h (table h b ms) m c)
                    | inr c ↦
                        let v = same (table h b ms * 512 + m) (λ e. omega arith) in
                        inl (below_is h (table h b ms) m (omega arith) ∙ v ∙ past (table h b ms * 512 + m) (omega arith))
                  ]
            ]
        | inr x ↦
            let q : 0 < table g b ms = omega arith in
            let r = new_kept b ms q in
            let s = below_is g (table g b ms) m q in
            let u = below_is h (table h b ms) m (omega arith) ∙ ap (λ f. h (f * 512 + m)) r in
            elim (new_cases (table g b ms * 512 + m)) [ inl y ↦ inr (u ∙ y.1) | inr y ↦ inl (u ∙ y ∙ sym s ∙ p) ]
      ]

-- words that name what they named, or nothing, are a tree still
pub less_tree : (g h : ℕ → ℕ) (n m : ℕ) → Tree g n → ((j : ℕ) → (h j ≡ g j) ⊎ (h j ≡ 0)) → n ≤ m → 0 < m → Tree h m
less_tree g h n m t c l p =
    record {
      inside = λ j. let r = t.inside j in elim (c j) [ inl x ↦ omega arith | inr x ↦ omega arith ];
      apart = λ j k u q.
          elim (c j) [
            | inr x ↦ absurd (omega arith)
            | inl x ↦ elim (c k) [ inr y ↦ absurd (omega arith) | inl y ↦ t.apart j k (omega arith) (sym x ∙ q ∙ y) ]
          ];
    }

-- a change at word i is not seen by a path that does not read it
pub kept : (g h : ℕ → ℕ) (i : ℕ) → ((j : ℕ) → (j ≡ i → ⊥) → h j ≡ g j) → (b : ℕ) → (b ≡ i → ⊥) → (ms : List ℕ)
    → ((m : ℕ) (ns : List ℕ) → length ns < length ms → Indices (m ∷ ns) → 0 < table g b ns → table g b ns * 512 + m ≡ i → ⊥) → Indices ms
    → table h b ms ≡ table g b ms
unfolding table
kept g h i same b ne [] off d = same b ne
kept g h i same b ne (m ∷ ms) off d =
    let r = kept g h i same b ne ms (λ k ns l. off k ns (omega arith)) d.1 in
    elim (cases_eq (table g b ms) 0) [
      | inl x ↦ below_zero h (table h b ms) m (r ∙ x) ∙ sym (below_zero g (table g b ms) m x)
      | inr x ↦
          let q : 0 < table g b ms = omega arith in
          below_is h (table h b ms) m (omega arith) ∙ ap (λ f. h (f * 512 + m)) r
          ∙ same (table g b ms * 512 + m) (off m ms (omega arith) d q) ∙ sym (below_is g (table g b ms) m q)
    ]
