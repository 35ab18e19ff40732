-- What holds of a pool between calls.
use Rattle.std.specs.Prelude.{◌≡◌, ℕ, ◌*◌, ◌%◌, ◌^◌, ◌<◌, ◌≤◌, Bool, true, cond, not, ◌&&◌, ◌||◌, List, length, ◌==◌, nat_le, nat_lt}
use Rattle.std.specs.List.{AllByRecursion}
use Rattle.entry.specs.Entry.{stops, is_pointer, frame_of}
use Rattle.layout.specs.Tables.{frames, next, names, word_at}

-- what word i names where it counts: in a root, or in a frame in use
abbrev pub used : List ℕ → ℕ → ℕ
used pool i = cond (nat_lt i 16 || (nat_le 512 i && nat_lt i (next pool * 512))) (names pool i) 0

-- every table lies in a frame in use
abbrev pub Inside : List ℕ → Type 0
Inside pool = (i : ℕ) → used pool i < next pool

-- no two words name one table
abbrev pub Apart : List ℕ → Type 0
Apart pool = (i j : ℕ) → (0 < used pool i) × (used pool i ≡ used pool j) → i ≡ j

-- a leaf of level 0 that a walk accepts, of a frame whose number has 16 bits
abbrev pub is_leaf : ℕ → Bool
is_leaf w = not (stops 0 w) && (not (is_pointer w) && nat_lt (frame_of w) (2 ^ 16))

-- a pointer to a frame other than 0: its only flag is V
abbrev pub is_table_pointer : ℕ → Bool
is_table_pointer w = w % 1024 == 1 && nat_lt 1 w

-- what a word may hold, by the length of the path to its table: 0, or a pointer where the path is shorter than two, else a leaf
abbrev pub is_shaped : ℕ → ℕ → Bool
is_shaped long w = w == 0 || cond (nat_lt long 2) (is_table_pointer w) (is_leaf w)

-- a word of a table: the ASID, the path to the table, and the index in it
pub record Position : Type 0 where
  pub asid : ℕ
  pub path : List ℕ
  pub place : ℕ

abbrev pub Lies : Position → Type 0
Lies x = (x.asid < 16) × AllByRecursion (λ k. k < 512) x.path × (length x.path ≤ 2) × (x.place < 512)

-- every word of every table holds what it may
abbrev pub Shaped : List ℕ → Type 0
Shaped pool = (x : Position) → Lies x → is_shaped (length x.path) (word_at pool x.asid x.path x.place) ≡ true

-- a pool that works
abbrev pub Sound : List ℕ → Type 0
Sound pool = (4 ≤ frames pool) × (1 ≤ next pool) × (next pool ≤ frames pool) × Inside pool × Apart pool × Shaped pool
