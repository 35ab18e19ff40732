-- Fields of 64-bit numbers past their last bit.
use mathlib.Core.Path.{◌≡◌, sym}
use Prim.Native.Nat.{ℕ, ◌/◌, ◌%◌, ◌^◌, ◌<◌, ◌≤◌}
use native.Mathlib.Nat.{lt_of_lt_of_le, div-eq_of_lt, mod-eq_of_lt}
use lib.Pow.{pow_mono}

below_power : (n i j : ℕ) → n < 2 ^ i → i ≤ j → n < 2 ^ j
below_power n i j h k = lt_of_lt_of_le h (pow_mono k)

pub high_past : (n count : ℕ) → n < 2 ^ 64 → 64 ≤ count → 0 ≡ n / 2 ^ count
high_past n count h k = sym (div-eq_of_lt (below_power n 64 count h k))

pub low_past : (n count : ℕ) → n < 2 ^ 64 → 64 ≤ count → n ≡ n % 2 ^ count
low_past n count h k = sym (mod-eq_of_lt (below_power n 64 count h k))
