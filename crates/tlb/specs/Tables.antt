-- Sixteen sets: a page belongs to the set of its number mod 16.
use Rattle.std.specs.Prelude.{◌≡◌, ℕ, ◌%◌, ◌<◌, cond, List, [], map, get_or, replicate, Some, None, Option, slice_index_or, slice_set}
use Rattle.std.specs.List.{flat_map, ContainsAt as Has}
use Rattle.access.specs.declared.accesses.Access.{Access}
use Rattle.access.specs.Accesses.{page_of}
use Rattle.registers.specs.Registers.{asid_of}
use Rattle.stages.specs.Stages.{World}
use Rattle.translator.specs.declared.grants.Grant.{Grant}
use Rattle.translator.specs.declared.fences.Fence.{Fence}
use Rattle.translator.specs.Grants.{consults}
use Rattle.tlb.specs.declared.ways.Set.{Set}
use Rattle.tlb.specs.Ways.{standing, first_serving, filled, cleared}

-- what a look past the last set gives
abbrev pub no_set : Set
no_set = record { ways = []; next = 0 }

-- the set of a page
abbrev pub set_of : List Set → ℕ → Set
set_of sets page = slice_index_or sets (page % 16) no_set

-- the book: set by set, way by way
abbrev pub book_of : List Set → List Grant
book_of sets = flat_map (λ s. standing s.ways) sets

-- every way empty, every counter 0
abbrev pub empty_sets : List Set
empty_sets = replicate 16 (record { ways = replicate 4 None; next = 0 })

-- each grant stands in the set of its page
abbrev pub Placed : List Set → Type 0
Placed sets = (i : ℕ) (g : Grant) → Has (standing (get_or sets i no_set).ways) g → g.page % 16 ≡ i

-- each counter names a way
abbrev pub Ready : List Set → Type 0
Ready sets = (i : ℕ) → (get_or sets i no_set).next < 4

-- the grant that answers an access, where grants are consulted: that of the first way that can, in the set of the page
abbrev pub hit : World → Access → List Set → Option Grant
hit w a sets = cond (consults w a) (first_serving (asid_of w.guest) a (set_of sets (page_of a)).ways) None

-- the sets after a grant, if there is one, was stored in the set of its own page
abbrev pub stored : Option Grant → List Set → List Set
stored None sets = sets
stored (Some g) sets = slice_set sets (g.page % 16) (filled g (set_of sets g.page))

-- the sets after a guest fence: each way that it covers is empty
abbrev pub sets_after : Fence → List Set → List Set
sets_after f sets = map (cleared f) sets

-- the fence that covers every grant: what a host fence empties
abbrev pub everything : Fence
everything = record { address = None; asid = None }
