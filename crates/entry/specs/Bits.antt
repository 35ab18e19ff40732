-- Bits and fields of a number.
use Rattle.std.specs.Prelude.{Bool, ℕ, ◌/◌, ◌%◌, ◌^◌, ◌==◌}

-- bit k of n
abbrev pub bit : ℕ → ℕ → Bool
bit k n = n / 2 ^ k % 2 == 1

-- the field of n that begins at bit low and has count bits
abbrev pub bits : ℕ → ℕ → ℕ → ℕ
bits low count n = n / 2 ^ low % 2 ^ count
