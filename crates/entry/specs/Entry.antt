-- A table entry: its flags, its frame number, and what it says at a level of a walk.
use Rattle.std.specs.Prelude.{Bool, not, ◌&&◌, ◌||◌, cond, ℕ, ◌*◌, ◌%◌, ◌^◌, ◌==◌}
use Rattle.entry.specs.Bits.{bit, bits}

-- the eight flags, V R W X U G A D from bit 0 on; bits 8 and 9 are ignored
abbrev pub is_valid : ℕ → Bool
is_valid w = bit 0 w

abbrev pub is_readable : ℕ → Bool
is_readable w = bit 1 w

abbrev pub is_writable : ℕ → Bool
is_writable w = bit 2 w

abbrev pub is_executable : ℕ → Bool
is_executable w = bit 3 w

abbrev pub is_user : ℕ → Bool
is_user w = bit 4 w

abbrev pub is_global : ℕ → Bool
is_global w = bit 5 w

abbrev pub is_accessed : ℕ → Bool
is_accessed w = bit 6 w

abbrev pub is_dirty : ℕ → Bool
is_dirty w = bit 7 w

-- the frame number, bits 53 to 10
abbrev pub frame_of : ℕ → ℕ
frame_of w = bits 10 44 w

-- V is 0, or R is 0 where W is 1, or one of the bits 63 to 54 is set
abbrev pub is_malformed : ℕ → Bool
is_malformed w = not (is_valid w) || (not (is_readable w) && is_writable w || not (bits 54 10 w == 0))

-- R and X are both 0: the entry points to a table of the next lower level
abbrev pub is_pointer : ℕ → Bool
is_pointer w = not (is_readable w) && not (is_executable w)

-- U, A or D is set, which a pointer must not have
abbrev pub is_marked : ℕ → Bool
is_marked w = is_user w || (is_accessed w || is_dirty w)

-- the low 9 × level bits of the frame number are not all 0, as those of a leaf must be
abbrev pub is_misaligned : ℕ → ℕ → Bool
is_misaligned level w = not (frame_of w % 2 ^ (9 * level) == 0)

-- a walk that meets the entry at this level stops there with a fault
abbrev pub stops : ℕ → ℕ → Bool
stops level w = is_malformed w || cond (is_pointer w) (is_marked w || level == 0) (is_misaligned level w)
