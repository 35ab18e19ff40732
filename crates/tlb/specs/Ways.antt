-- One set: four ways, each empty or with a grant, and the number of the way to replace next.
use Rattle.std.specs.Prelude.{ℕ, ◌+◌, ◌%◌, Bool, true, false, cond, ◌&&◌, List, map, Some, None, Option, ◌==◌, slice_index_or, slice_set}
use Rattle.std.specs.List.{flat_map, position}
use Rattle.std.specs.Option.{option_to_list}
use Rattle.access.specs.declared.accesses.Access.{Access}
use Rattle.translator.specs.declared.grants.Grant.{Grant}
use Rattle.translator.specs.declared.fences.Fence.{Fence}
use Rattle.translator.specs.Grants.{serves}
use Rattle.translator.specs.Fences.{covers_grant}
use Rattle.tlb.specs.declared.ways.Set.{Set}

-- the way holds a grant that can answer the access under this ASID
abbrev pub is_serving : ℕ → Access → Option Grant → Bool
is_serving asid a None = false
is_serving asid a (Some g) = serves asid a g

-- the way holds a grant of the same page with an equal ASID, global or not
abbrev pub is_alike : Grant → Option Grant → Bool
is_alike g None = false
is_alike g (Some h) = h.page == g.page && h.asid == g.asid

-- the way is empty
abbrev pub is_empty : Option Grant → Bool
is_empty None = true
is_empty (Some g) = false

-- the grant of a way, by its place
abbrev pub way_at : List (Option Grant) → Option ℕ → Option Grant
way_at ways None = None
way_at ways (Some i) = slice_index_or ways i None

-- the grant of the first way that can answer
abbrev pub first_serving : ℕ → Access → List (Option Grant) → Option Grant
first_serving asid a ways = way_at ways (position (is_serving asid a) ways)

-- the grants in the ways, in order; empty ways are left out
abbrev pub standing : List (Option Grant) → List Grant
standing ways = flat_map option_to_list ways

-- the set with a grant in the way i, and the counter as given
abbrev pub with_way : ℕ → Grant → ℕ → Set → Set
with_way i g next s = record { ways = slice_set s.ways i (Some g); next = next }

-- a grant goes to the first way that is alike, else to the first empty way, else to the next way; only then the counter moves
abbrev pub filled_by : Option ℕ → Option ℕ → Grant → Set → Set
filled_by (Some alike) empty g s = with_way alike g s.next s
filled_by None (Some empty) g s = with_way empty g s.next s
filled_by None None g s = with_way s.next g ((s.next + 1) % 4) s

-- the set after a grant was put into it
abbrev pub filled : Grant → Set → Set
filled g s = filled_by (position (is_alike g) s.ways) (position is_empty s.ways) g s

-- a fence empties a way whose grant it covers, and leaves any other
abbrev pub spared : Fence → Option Grant → Option Grant
spared f None = None
spared f (Some g) = cond (covers_grant f g) None (Some g)

-- the set after a fence, its counter as it was
abbrev pub cleared : Fence → Set → Set
cleared f s = record { ways = map (spared f) s.ways; next = s.next }
