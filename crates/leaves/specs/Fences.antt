-- What a guest fence does to a pool.
use Rattle.std.specs.Prelude.{ℕ, ◌/◌, ◌^◌, cond, List, Some, None, Option, nat_lt}
use Rattle.stages.specs.Stages.{is_canonical}
use Rattle.layout.specs.Changes.{reset, removed, removed_below, dropped}

-- the leaf of a page cleared under one ASID or under all
abbrev pub unmapped : List ℕ → ℕ → Option ℕ → List ℕ
unmapped pool page None = removed_below pool page 16
unmapped pool page (Some asid) = cond (nat_lt asid 16) (removed pool asid page) pool

-- every page of one ASID or of all
abbrev pub emptied : List ℕ → Option ℕ → List ℕ
emptied pool None = reset pool
emptied pool (Some asid) = cond (nat_lt asid 16) (dropped pool asid) pool

-- the pool after a fence of an address or of all, and of an ASID or of all
abbrev pub fenced : List ℕ → Option ℕ → Option ℕ → List ℕ
fenced pool None asid = emptied pool asid
fenced pool (Some address) asid = cond (is_canonical (address / 2 ^ 12)) (unmapped pool (address / 2 ^ 12) asid) pool
