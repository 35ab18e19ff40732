-- Numbers in decimal, with no leading zero: `decimal n` is what a number n is printed as.
use Rattle.std.specs.Prelude.{◌≡◌, ℕ, ◌<◌, ◌≤◌, List, Some, None, decimal, Option, ◌≢◌}

-- what a reader of a number from 1 to a limit answers: the number, or that none of them is written so
abbrev pub ReadsDecimal : ℕ → List ℕ → Option ℕ → Type 0
ReadsDecimal limit bs (Some n) = (0 < n) × (n ≤ limit) × (bs ≡ decimal n)
ReadsDecimal limit bs None = (n : ℕ) → 0 < n → n ≤ limit → bs ≢ decimal n
