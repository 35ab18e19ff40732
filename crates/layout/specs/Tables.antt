-- Tables in a pool of words: where they lie, and which words lead to them.
--
-- A pool is cut into frames of 512 words; at most its first 512 whole frames are used.
-- Words 0 to 15 hold the frame of the root table of each ASID, 0 for none. Word 16 holds the next unused frame. Each table fills one frame.
-- A path is the list of the indices that lead from a root table to another table, the last one first.
use Rattle.std.specs.Prelude.{ℕ, ◌+◌, ◌*◌, ◌/◌, ◌%◌, ◌≡◌, ◌<◌, min, cond, List, [], ◌∷◌, length, Option, MatchOption, ◌==◌, nat_lt, slice_index}
use Rattle.table.specs.Walk.{index_of}

-- the number of frames that are used
abbrev pub frames : List ℕ → ℕ
frames pool = min 512 (length pool / 512)

-- the next unused frame
abbrev pub next : List ℕ → ℕ
next pool = slice_index pool 16

-- the frame that the word w at index i names: the number of a root table, or the frame of a pointer, whose only flag is V; 0 for none
abbrev pub named : ℕ → ℕ → ℕ
named i w = cond (nat_lt i 16) w (cond (w % 1024 == 1) (w / 1024) 0)

-- the frame of this number: 0 is that of none
abbrev pub IsFrame : ℕ → Option ℕ → Type 0
IsFrame n frame = MatchOption frame (n ≡ 0) (λ f. (f ≡ n) × (0 < f))

abbrev pub names : List ℕ → ℕ → ℕ
names pool i = named i (slice_index pool i)

-- the frame that entry k of the table at frame f names, where g tells what each word names; 0 where there is no table
abbrev pub below : (ℕ → ℕ) → ℕ → ℕ → ℕ
below g f k = cond (f == 0) 0 (g (f * 512 + k))

-- the table that a path leads to from the root table of an ASID; 0 for none
unfoldable pub table : (ℕ → ℕ) → ℕ → List ℕ → ℕ
table g asid [] = g asid
table g asid (k ∷ path) = below g (table g asid path) k

-- word k of the table at frame f; 0 where there is no table
abbrev pub entry : List ℕ → ℕ → ℕ → ℕ
entry pool f k = cond (f == 0) 0 (slice_index pool (f * 512 + k))

-- word k of the table that a path leads to
abbrev pub word_at : List ℕ → ℕ → List ℕ → ℕ → ℕ
word_at pool asid path k = entry pool (table (names pool) asid path) k

-- the index of a page in a table of this level
abbrev pub index : ℕ → ℕ → ℕ
index page level = index_of 2 9 page level

-- the path to the table that has the leaf of a page
abbrev pub path_of : ℕ → List ℕ
path_of page = index page 1 ∷ index page 2 ∷ []

abbrev pub leaf_table : List ℕ → ℕ → ℕ → ℕ
leaf_table pool asid page = table (names pool) asid (path_of page)

-- the word that holds the leaf of a page, where that table is there
abbrev pub leaf_place : List ℕ → ℕ → ℕ → ℕ
leaf_place pool asid page = leaf_table pool asid page * 512 + index page 0
