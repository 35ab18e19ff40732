-- A guest that edits its own table under a load: the list of its calls is not settled, and with a fence it is.
use Rattle.std.specs.Prelude.{◌≡◌, ℕ, false, List, [], ◌∷◌, replicate, ◌≢◌, slice_set}
use Rattle.table.specs.declared.walks.WalkFault.TheVariants.{Stopped}
use Rattle.access.specs.declared.accesses.Kind.TheVariants.{Load}
use Rattle.access.specs.declared.accesses.Mode.TheVariants.{Supervisor}
use Rattle.fault.specs.declared.faults.GuestFault.TheVariants.{Walk}
use Rattle.calls.specs.declared.Target.{Target}
use Rattle.calls.specs.declared.HostCall.TheVariants as host_call
use Rattle.calls.specs.declared.GuestCall.TheVariants as guest_call
use Rattle.calls.specs.declared.Call.{Call}
use Rattle.calls.specs.declared.Call.TheVariants.{Host, Guest}
use Rattle.calls.specs.declared.Answer.{Answer}
use Rattle.calls.specs.declared.Answer.TheVariants.{Done, Word, Faulted}
use Rattle.history.specs.Moments.{start}
use Rattle.history.specs.Plain.{plain_answers, plain_end}
use Rattle.history.specs.Settled.{plain_at, AllSettled, Faithful}
use Rattle.history.specs.Vocabulary.{fence_all}

-- two frames of 0, but for the word 512, the first of frame 1: a leaf of level 2 with V R W A D and frame 0
unfoldable pub words : List ℕ
words = slice_set (replicate 1024 0) 512 0xC7

abbrev pub enter : Call
enter = Host host_call.Enter

-- Sv39 with ASID 1 and the first table in frame 1, so that the leaf takes page 0 to frame 0 and page 1 to frame 1, the table itself
abbrev pub root : Call
root = Guest (guest_call.Root 0x8000100000000001)

abbrev pub target : ℕ → Target
target address = record { mode = Supervisor; sum = false; mxr = false; address = address }

abbrev pub load : ℕ → Call
load address = Guest (guest_call.Load (target address))

abbrev pub store : ℕ → ℕ → Call
store address new = Guest (guest_call.Store (target address) new)

-- a load of page 0, a store of 0 over the leaf, and the same load again
abbrev pub unfenced : List Call
unfenced = enter ∷ root ∷ load 8 ∷ store 0x1000 0 ∷ load 8 ∷ []

-- the same with a fence of everything before the last load
abbrev pub fenced : List Call
fenced = enter ∷ root ∷ load 8 ∷ store 0x1000 0 ∷ Guest (guest_call.Fence fence_all) ∷ load 8 ∷ []

-- what the plain machine answers: the last load stops at level 2
abbrev pub FencedAnswers : Type 0
FencedAnswers =
    plain_answers (start words) fenced
    ≡ Done ∷ Done ∷ Word 0 ∷ Done ∷ Done ∷ Faulted (record { kind = Load; address = 8; reason = Walk (Stopped 2) }) ∷ []

-- without the fence the last load is not settled
abbrev pub UnfencedUnsettled : Type 0
UnfencedUnsettled = AllSettled (plain_at (start words) unfenced) unfenced → ⊥

-- with it every access is
abbrev pub FencedSettled : Type 0
FencedSettled = AllSettled (plain_at (start words) fenced) fenced

-- the answers of a machine that still remembers page 0 at the last load
abbrev pub stale : List Answer
stale = Done ∷ Done ∷ Word 0 ∷ Done ∷ Word 0 ∷ []

-- without the fence they are a faithful run's, and not the plain machine's: so the theorem cannot do without settled accesses
abbrev pub UnfencedStale : Type 0
UnfencedStale =
    Faithful (start words) unfenced stale (plain_end (start words) unfenced) × (stale ≢ plain_answers (start words) unfenced)
