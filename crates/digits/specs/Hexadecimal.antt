-- Numbers as lowercase hexadecimal digits, a fixed number of them.
use Rattle.std.specs.Prelude.{◌≡◌, ℕ, zero, suc, ◌/◌, ◌%◌, ◌^◌, ◌<◌, ◌≤◌, List, [], ◌∷◌, ◌++◌, length, Some, None, Option, ◌≢◌}
-- the character of a digit below 16: '0' to '9', and then 'a' to 'f'
pub use Rattle.std.specs.Char.{digit_char}

-- the last k digits of n, the most significant first
unfoldable pub hex_of : ℕ → ℕ → List ℕ
hex_of zero n = []
hex_of (suc k) n = hex_of k (n / 16) ++ (digit_char (n % 16) ∷ [])

-- what a reader of one digit answers: its value, or that it is no digit
abbrev pub ReadsDigit : ℕ → Option ℕ → Type 0
ReadsDigit b (Some d) = (d < 16) × (b ≡ digit_char d)
ReadsDigit b None = (d : ℕ) → d < 16 → b ≢ digit_char d

-- what a reader of at most 16 digits answers: the number, which fits as many digits, or that no number is written so
abbrev pub ReadsHex : List ℕ → Option ℕ → Type 0
ReadsHex bs (Some n) = (length bs ≤ 16) × (bs ≡ hex_of (length bs) n) × (n < 16 ^ length bs)
ReadsHex bs None = (k n : ℕ) → k ≤ 16 → bs ≢ hex_of k n
