-- An access of one word: its page, its word, and its alignment.
use Rattle.std.specs.Prelude.{Bool, ℕ, ◌/◌, ◌%◌, ◌^◌, ◌==◌}
use Rattle.access.specs.declared.accesses.Access.{Access}

-- the page of the address: its bits 63 to 12
abbrev pub page_of : Access → ℕ
page_of a = a.address / 2 ^ 12

-- which of the 512 words of its page the access is for
abbrev pub word_of : Access → ℕ
word_of a = a.address / 8 % 512

-- the address is a multiple of 8
abbrev pub is_aligned : Access → Bool
is_aligned a = a.address % 8 == 0
