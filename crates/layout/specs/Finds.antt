-- What a look-up finds in a pool: the walk of the tables of an ASID.
use Rattle.std.specs.Prelude.{ℕ, cond, List, length, Some, None, Ok, Err, Option, Result, ◌==◌, nat_lt, slice_index}
use Rattle.entry.specs.declared.entries.Entry.{Entry}
use Rattle.table.specs.declared.walks.Leaf.{Leaf}
use Rattle.table.specs.declared.walks.WalkFault.{WalkFault}
use Rattle.table.specs.Walk.{walk_of}
use Rattle.stages.specs.Stages.{is_canonical}
use Rattle.layout.specs.declared.sources.OutsidePool.{OutsidePool}

-- the pool as a source of table words
abbrev pub pool_reads : List ℕ → ℕ → Result ℕ OutsidePool
pool_reads pool i = cond (nat_lt i (length pool)) (Ok (slice_index pool i)) (Err (record {}))

-- the entry that a walk ends at
abbrev pub entry_of : Result Leaf (WalkFault OutsidePool) → Option Entry
entry_of (Ok leaf) = Some leaf.entry
entry_of (Err fault) = None

-- the walk from a root table, of three levels
abbrev pub walked_to : List ℕ → ℕ → ℕ → Option Entry
walked_to pool root page = entry_of (walk_of (pool_reads pool) 2 9 root page)

-- the leaf of a page under an ASID: none without a root table, and none for a page that is not canonical
abbrev pub found : List ℕ → ℕ → ℕ → Option Entry
found pool asid page = cond (is_canonical page) (cond (slice_index pool asid == 0) None (walked_to pool (slice_index pool asid) page)) None
