-- What each call leaves in the pool, word by word.
use Rattle.std.specs.Prelude.{ℕ, zero, suc, ◌+◌, ◌*◌, Bool, cond, List, [], ◌∷◌, ◌==◌, nat_le, nat_lt, slice_set}
use Rattle.layout.specs.Tables.{frames, next, names, table, path_of, leaf_table, leaf_place}

-- count words from start on set to 0
unfoldable pub cleared : List ℕ → ℕ → ℕ → List ℕ
cleared pool start zero = pool
cleared pool start (suc count) = slice_set (cleared pool start count) (start + count) 0

-- no ASID has a root table, and frame 1 is the next unused one; all other words stay
abbrev pub reset : List ℕ → List ℕ
reset pool = slice_set (cleared pool 0 16) 16 1

-- what the word at index i holds to name a frame
abbrev pub naming : ℕ → ℕ → ℕ
naming i f = cond (nat_lt i 16) f (f * 1024 + 1)

-- the next unused frame taken for a table: it is zeroed, word i names it, and the next unused frame is one further
abbrev pub taken : List ℕ → ℕ → List ℕ
taken pool i = slice_set (slice_set (cleared pool (next pool * 512) 512) 16 (next pool + 1)) i (naming i (next pool))

-- the same where word i names no table
abbrev pub grown : List ℕ → ℕ → List ℕ
grown pool i = cond (names pool i == 0) (taken pool i) pool

-- the tables on a path, the root table first, each taken where it is missing
unfoldable pub built : List ℕ → ℕ → List ℕ → List ℕ
built pool asid [] = grown pool asid
built pool asid (k ∷ path) = grown (built pool asid path) (table (names (built pool asid path)) asid path * 512 + k)

-- 1 for a table that is missing
abbrev pub lack_of : ℕ → ℕ
lack_of f = cond (f == 0) 1 0

-- how many of them are missing
unfoldable pub missing : List ℕ → ℕ → List ℕ → ℕ
missing pool asid [] = lack_of (names pool asid)
missing pool asid (k ∷ path) = lack_of (table (names pool) asid (k ∷ path)) + missing pool asid path

-- enough frames are unused for them
abbrev pub has_room : List ℕ → ℕ → ℕ → Bool
has_room pool asid page = nat_le (next pool + missing pool asid (path_of page)) (frames pool)

-- a pool with room for them: this one, or this one reset
abbrev pub ready : List ℕ → ℕ → ℕ → List ℕ
ready pool asid page = cond (has_room pool asid page) pool (reset pool)

-- the leaf word of a page written, where its table is there
abbrev pub written : List ℕ → ℕ → ℕ → ℕ → List ℕ
written pool asid page w = slice_set pool (leaf_place pool asid page) w

-- a leaf word put in for a page: room is made, missing tables are taken, and the word is written
abbrev pub inserted : List ℕ → ℕ → ℕ → ℕ → List ℕ
inserted pool asid page w = written (built (ready pool asid page) asid (path_of page)) asid page w

-- the leaf word of a page cleared, where its table is there
abbrev pub removed : List ℕ → ℕ → ℕ → List ℕ
removed pool asid page = cond (leaf_table pool asid page == 0) pool (written pool asid page 0)

-- the same in the tables of the ASIDs below n
unfoldable pub removed_below : List ℕ → ℕ → ℕ → List ℕ
removed_below pool page zero = pool
removed_below pool page (suc n) = removed (removed_below pool page n) n page

-- the root of an ASID cleared
abbrev pub dropped : List ℕ → ℕ → List ℕ
dropped pool asid = slice_set pool asid 0
