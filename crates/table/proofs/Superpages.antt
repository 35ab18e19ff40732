-- The bound of a superpage's frame.
use Rattle.std.proofs.Common.{◌≡◌, ℕ, ◌+◌, ◌%◌, ◌^◌, ◌<◌, inl, inr, mod-eq_of_lt, arith}
use native.Mathlib.Nat.{mod-le}
use Rattle.std.proofs.lemmas.Nat.{mod_below, pow_pos}
use Rattle.std.proofs.lemmas.Bool.{cases_lt}

-- a frame of 44 bits whose low k bits are all 0, with the low k bits of a page of 52 bits in their place
pub joined_fits : (f p k : ℕ) → f < 2 ^ 44 → p < 2 ^ 52 → f % 2 ^ k ≡ 0 → f + p % 2 ^ k < 2 ^ 52
joined_fits f p k hf hp e =
    elim (cases_lt f (2 ^ k)) [
      | inl h ↦ let z : f % 2 ^ k ≡ f = mod-eq_of_lt h in let m = mod-le p (2 ^ k) in omega arith
      | inr h ↦ let m = mod_below p (2 ^ k) (pow_pos k) in omega arith
    ]
