-- The worked example of a buffer that remembers: a guest clears its own table entry, and loads before a fence and after it.
use Rattle.std.specs.Prelude.{◌≡◌, ℕ, List, [], ◌∷◌}
use Rattle.table.specs.declared.walks.WalkFault.TheVariants.{Stopped}
use Rattle.access.specs.declared.accesses.Kind.TheVariants.{Load}
use Rattle.fault.specs.declared.faults.GuestFault.TheVariants.{Walk}
use Rattle.fault.specs.declared.faults.Fault.{Fault}
use Rattle.translator.specs.declared.nested.Nested.{Nested}
use Rattle.tlb.specs.declared.layers.Tlb.{Tlb}
use Rattle.tlb.specs.Tables.{everything, empty_sets}
use Rattle.tlb.specs.Layer.{sets_of}
use Rattle.piles.specs.Piles.{tlb_members}
use Rattle.calls.specs.declared.GuestCall.TheVariants as guest_call
use Rattle.calls.specs.declared.Call.{Call}
use Rattle.calls.specs.declared.Call.TheVariants.{Guest}
use Rattle.calls.specs.declared.Answer.{Answer}
use Rattle.calls.specs.declared.Answer.TheVariants.{Done, Word, Faulted}
use Rattle.history.specs.Moments.{Moment, start}
use Rattle.history.specs.Runs.{Played}
use Rattle.history_examples.specs.Editing.{enter, root, load, store}

-- the guest's table is frame 1 and its only entry maps page p to frame p, so the store at 0x1000 clears that entry
abbrev pub editing : List Call
editing = enter ∷ root ∷ load 8 ∷ store 0x1000 0 ∷ load 8 ∷ Guest (guest_call.Fence everything) ∷ load 8 ∷ []

-- a load at 8 whose walk stops at level 2: the entry is cleared
abbrev pub stopped : Fault
stopped = record { kind = Load; address = 8; reason = Walk (Stopped 2) }

-- before the fence the buffer still answers from frame 0; after it the walk faults
abbrev pub remembering : List Answer
remembering = Done ∷ Done ∷ Word 0 ∷ Done ∷ Word 0 ∷ Done ∷ Faulted stopped ∷ []

-- every machine over an empty buffer, in a memory of these words, gives the calls these answers
abbrev pub Remembers : List ℕ → Type 0
Remembers ws =
    (s : Tlb Nested) (xs : List Answer) (end : Moment) (t : Tlb Nested) → sets_of s ≡ empty_sets
    → Played tlb_members (start ws) s editing xs end t → xs ≡ remembering
