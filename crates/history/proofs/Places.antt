-- Places of a list.
use Rattle.std.proofs.Common.{◌≡◌, ℕ, zero, suc, ◌<◌, List, [], ◌∷◌, length, Some, refl, arith}
use Rattle.std.specs.List.{slice_get}

module _ {X : Type 0} where
  -- nothing stands in the empty list
  pub nth_none : (k : ℕ) (x : X) → slice_get [] k ≡ Some x → ⊥
  nth_none k x e = cc

  -- what stands at a place stands inside
  pub nth_inside : (xs : List X) (k : ℕ) (x : X) → slice_get xs k ≡ Some x → k < length xs
  nth_inside [] k x e = absurd (nth_none k x e)
  nth_inside (y ∷ ys) zero x e = omega arith
  nth_inside (y ∷ ys) (suc k) x e = let l = nth_inside ys k x e in omega arith

  -- something stands at each place inside
  pub nth_there : (xs : List X) (k : ℕ) → k < length xs → (x : X) × (slice_get xs k ≡ Some x)
  nth_there [] k l = absurd (omega arith)
  nth_there (y ∷ ys) zero l = (y, refl)
  nth_there (y ∷ ys) (suc k) l = nth_there ys k (omega arith)
