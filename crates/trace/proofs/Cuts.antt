-- Cutting a text at its first mark.
use Rattle.std.proofs.Common.{◌≡◌, ℕ, suc, ◌+◌, ◌<◌, List, [], ◌∷◌, ◌++◌, length, get_or, take, drop, sym, refl, ap, ◌∙◌, subst, arith}
use Rattle.std.proofs.lemmas.List.{drop_more, take-append-drop, get_or-take, length-take-le, length-append}
use Rattle.std.proofs.ByRecursion.{All-from_get_or}
use Rattle.std.specs.List.{AllWithin, HoldsAt}
use Rattle.trace.specs.declared.marks.Mark.{Mark}
use Rattle.trace.specs.Marks.{Is, Lacks, CutAs}

-- there is only one way to cut
pub cut_once : (m : Mark) (v w : List ℕ) (t u : ℕ) (r s : List ℕ) → v ++ (t ∷ r) ≡ w ++ (u ∷ s) → Lacks m v → Is m t → Lacks m w → Is m u
    → (v ≡ w) × (t ≡ u) × (r ≡ s)
cut_once m [] [] t u r s e pv pt pw pu = (refl, cc, cc)
cut_once m [] (y ∷ w) t u r s e pv pt pw pu = let q : t ≡ y = cc in absurd (pw.0 (subst (Is m) q pt))
cut_once m (x ∷ v) [] t u r s e pv pt pw pu = let q : u ≡ x = cc in absurd (pv.0 (subst (Is m) q pu))
cut_once m (x ∷ v) (y ∷ w) t u r s e pv pt pw pu =
    let q : x ≡ y = cc in
    let e' : v ++ (t ∷ r) ≡ w ++ (u ∷ s) = cc in
    let i = cut_once m v w t u r s e' pv.1 pt pw.1 pu in
    let i0 = i.0 in
    (cc, i.1, i.2)

-- the first mark cuts
pub cut_first : (m : Mark) (xs : List ℕ) (n : ℕ) → (n < length xs) × HoldsAt (Is m) xs n × AllWithin (λ b. Is m b → ⊥) xs 0 n
    → CutAs m xs (take n xs) (get_or xs n 0) (drop (n + 1) xs)
cut_first m xs n f = record {
  whole = sym (take-append-drop n xs) ∙ ap (λ l. take n xs ++ l) (drop_more xs n 0 f.0);
  plain = All-from_get_or (λ b. Is m b → ⊥) (take n xs) 0 (λ i h p.
      let l : i < n = omega (arith, length-take-le n xs (omega (arith, f.0))) in
      f.2 i 0 (omega arith) l (subst (Is m) (get_or-take n xs i 0 l) p));
  marked = f.1 0;
}

pub lacks_all : (m : Mark) (xs : List ℕ) → AllWithin (λ b. Is m b → ⊥) xs 0 (length xs) → Lacks m xs
lacks_all m xs none = All-from_get_or (λ b. Is m b → ⊥) xs 0 (λ i h p. none i 0 (omega arith) h p)

-- with no mark there is no cut
lacks_mid : (m : Mark) (v r : List ℕ) (t : ℕ) → Lacks m (v ++ (t ∷ r)) → Is m t → ⊥
lacks_mid m [] r t lacks p = lacks.0 p
lacks_mid m (x ∷ v) r t lacks p = lacks_mid m v r t lacks.1 p

pub cut_never : (m : Mark) (xs v r : List ℕ) (t : ℕ) → Lacks m xs → xs ≡ v ++ (t ∷ r) → Is m t → ⊥
cut_never m xs v r t lacks e p = lacks_mid m v r t (subst (Lacks m) e lacks) p

pub length_cut : (v r : List ℕ) (t : ℕ) → length (v ++ (t ∷ r)) ≡ length v + 1 + length r
length_cut v r t = length-append v (t ∷ r) ∙ omega arith

-- what follows a cut
pub drop_cut : (v r : List ℕ) (t : ℕ) → drop (length v + 1) (v ++ (t ∷ r)) ≡ r
drop_cut [] r t = refl
drop_cut (x ∷ v) r t =
    let e : suc (length v) + 1 ≡ suc (length v + 1) = omega arith in
    ap (λ k. drop k ((x ∷ v) ++ (t ∷ r))) e ∙ drop_cut v r t
