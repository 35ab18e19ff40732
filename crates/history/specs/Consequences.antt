-- What follows for faithful runs and settled accesses: where nothing stale can be seen.
use Rattle.std.specs.Prelude.{◌≡◌, ℕ, suc, ◌<◌, ◌≤◌, ◌⊎◌, List, length, Some, Err}
use Rattle.std.specs.List.{slice_get}
use Rattle.access.specs.declared.accesses.Access.{Access}
use Rattle.fault.specs.declared.faults.Fault.{Fault}
use Rattle.translator.specs.Rules.{walked_to}
use Rattle.calls.specs.declared.HostCall.TheVariants as host_call
use Rattle.calls.specs.declared.GuestCall.TheVariants as guest_call
use Rattle.calls.specs.declared.Call.{Call}
use Rattle.calls.specs.declared.Call.TheVariants.{Host, Guest}
use Rattle.calls.specs.declared.Answer.{Answer}
use Rattle.calls.specs.declared.Answer.TheVariants.{Faulted}
use Rattle.history.specs.Moments.{host, guest, Moment}
use Rattle.history.specs.Asks.{reach, asks}
use Rattle.history.specs.Settled.{Plainly, AllSettled, Faithful}
use Rattle.history.specs.Vocabulary.{fence_all}

-- the call, made at m, is an accepted fence of everything: a host fence, or a guest fence of every address and every ASID
abbrev pub FencesAll : Moment → Call → Type 0
FencesAll m c = ((m.side ≡ host) × (c ≡ Host host_call.Fence)) ⊎ ((m.side ≡ guest) × (c ≡ Guest (guest_call.Fence fence_all)))

-- words and roots are the same at every moment from i to k
abbrev pub Still : (ℕ → Moment) → ℕ → ℕ → Type 0
Still at i k = (j : ℕ) → i ≤ j → j ≤ k → (at j).world ≡ (at k).world

-- after an accepted fence of everything each call goes as in the plain machine, as long as words and roots are the same
abbrev pub FencesRefresh : Type 0
FencesRefresh =
    (m : Moment) (cs : List Call) (xs : List Answer) (end : Moment) (run : Faithful m cs xs end) (j k : ℕ) (c d : Call) (x : Answer)
    → slice_get cs j ≡ Some c → FencesAll (run.at j) c → j < k → Still run.at (suc j) k
    → slice_get cs k ≡ Some d → slice_get xs k ≡ Some x → Plainly (run.at k) d x (run.at (suc k))

-- so the next call always does
abbrev pub NextIsPlain : Type 0
NextIsPlain =
    (m : Moment) (cs : List Call) (xs : List Answer) (end : Moment) (run : Faithful m cs xs end) (j : ℕ) (c d : Call) (x : Answer)
    → slice_get cs j ≡ Some c → FencesAll (run.at j) c
    → slice_get cs (suc j) ≡ Some d → slice_get xs (suc j) ≡ Some x → Plainly (run.at (suc j)) d x (run.at (suc (suc j)))

-- a fault is never remembered: an access that answers a fault answers the walk's own at its moment, and leaves words and roots as they are
abbrev pub FaultsAreWalked : Type 0
FaultsAreWalked =
    (m : Moment) (cs : List Call) (xs : List Answer) (end : Moment) (run : Faithful m cs xs end) (k : ℕ) (c : Call) (a : Access) (new : ℕ) (fault : Fault)
    → slice_get cs k ≡ Some c → asks (run.at k) c ≡ reach a new → slice_get xs k ≡ Some (Faulted fault)
    → (walked_to (run.at k).world a ≡ Err fault) × ((run.at (suc k)).world ≡ (run.at k).world)

-- where words and roots are always the same, every access is settled
abbrev pub StillIsSettled : Type 0
StillIsSettled = (at : ℕ → Moment) (cs : List Call) → ((k : ℕ) → k < length cs → Still at 0 k) → AllSettled at cs
