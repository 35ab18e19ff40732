-- The plain machine: it walks always and remembers nothing.
use Rattle.std.specs.Prelude.{ℕ, ◌+◌, ◌*◌, ◌/◌, ◌%◌, Bool, true, cond, ◌&&◌, List, [], ◌∷◌, length, Some, None, Ok, Err, Option, Result, ◌==◌, nat_le, nat_lt, slice_index, slice_set}
use Rattle.refusal.specs.declared.Refusal.{Refusal}
use Rattle.refusal.specs.declared.Refusal.TheVariants.{GuestRoot, HostRoot, HostAddress, OtherSide, FenceAsid, Unreadable as BadLine}
use Rattle.access.specs.declared.accesses.Kind.{Kind}
use Rattle.access.specs.declared.accesses.Kind.TheVariants.{Load, Store, Fetch}
use Rattle.access.specs.declared.accesses.Access.{Access}
use Rattle.fault.specs.declared.faults.Fault.{Fault}
use Rattle.access.specs.Accesses.{word_of}
use Rattle.registers.specs.Registers.{is_guest_root, is_host_root}
use Rattle.stages.specs.Stages.{World}
use Rattle.translator.specs.Rules.{walked_to}
use Rattle.calls.specs.declared.HostCall.{HostCall}
use Rattle.calls.specs.declared.HostCall.TheVariants as host_call
use Rattle.calls.specs.declared.GuestCall.{GuestCall}
use Rattle.calls.specs.declared.GuestCall.TheVariants as guest_call
use Rattle.calls.specs.declared.Call.{Call}
use Rattle.calls.specs.declared.Call.TheVariants.{Host, Guest, Unreadable}
use Rattle.calls.specs.declared.Answer.{Answer}
use Rattle.calls.specs.declared.Answer.TheVariants.{Done, Word, Faulted, Refused}
use Rattle.calls.specs.Targets.{access_of}
use Rattle.history.specs.Moments.{Side, host, guest, Moment, host_at, guest_at, with_words, with_guest, with_host}

-- the word of a memory that an access goes to in a frame
abbrev pub place_of : Access → ℕ → ℕ
place_of a frame = frame * 512 + word_of a

-- a load or a fetch answers the word, a store replaces it
abbrev pub done_by : Kind → World → ℕ → ℕ → Answer × Moment
done_by Load w i new = (Word (slice_index w.words i), guest_at w)
done_by Store w i new = (Done, guest_at (with_words w (slice_set w.words i new)))
done_by Fetch w i new = (Word (slice_index w.words i), guest_at w)

-- an access done at a frame, new being the word to store
abbrev pub done_at : World → Access → ℕ → ℕ → Answer × Moment
done_at w a new frame = done_by a.kind w (place_of a frame) new

-- an access done as a translation says
abbrev pub landed : World → Access → ℕ → Result ℕ Fault → Answer × Moment
landed w a new (Ok frame) = done_at w a new frame
landed w a new (Err fault) = (Faulted fault, guest_at w)

-- an access of the plain machine: by the walk
abbrev pub plain_access : World → Access → ℕ → Answer × Moment
plain_access w a new = landed w a new (walked_to w a)

-- the call is accepted if a test passes, else refused, with no change
abbrev pub accepted : Bool → Refusal → Moment → Answer × Moment → Answer × Moment
accepted test refusal m done = cond test done (Refused refusal, m)

-- a host address is a multiple of 8 and lies inside the memory
abbrev pub is_host_address : World → ℕ → Bool
is_host_address w address = address % 8 == 0 && nat_lt (address / 8) (length w.words)

-- the ASID of a fence is all, or at most 15
abbrev pub is_fence_asid : Option ℕ → Bool
is_fence_asid None = true
is_fence_asid (Some asid) = nat_le asid 15

abbrev pub on_host : World → HostCall → Answer × Moment
on_host w (host_call.Load address) = accepted (is_host_address w address) HostAddress (host_at w) (Word (slice_index w.words (address / 8)), host_at w)
on_host w (host_call.Store address new) =
    accepted (is_host_address w address) HostAddress (host_at w) (Done, host_at (with_words w (slice_set w.words (address / 8) new)))
on_host w (host_call.Root register) = accepted (is_host_root register) HostRoot (host_at w) (Done, host_at (with_host w register))
on_host w host_call.Fence = (Done, host_at w)
on_host w host_call.Enter = (Done, guest_at w)

abbrev pub on_guest : World → GuestCall → Answer × Moment
on_guest w (guest_call.Load target) = plain_access w (access_of Load target) 0
on_guest w (guest_call.Store target new) = plain_access w (access_of Store target) new
on_guest w (guest_call.Fetch target) = plain_access w (access_of Fetch target) 0
on_guest w (guest_call.Fence fence) = accepted (is_fence_asid fence.asid) FenceAsid (guest_at w) (Done, guest_at w)
on_guest w (guest_call.Root register) = accepted (is_guest_root register) GuestRoot (guest_at w) (Done, guest_at (with_guest w register))
on_guest w guest_call.Leave = (Done, host_at w)

abbrev pub plain_by : Side → World → Call → Answer × Moment
plain_by host w (Host c) = on_host w c
plain_by host w (Guest c) = (Refused OtherSide, host_at w)
plain_by host w Unreadable = (Refused BadLine, host_at w)
plain_by guest w (Host c) = (Refused OtherSide, guest_at w)
plain_by guest w (Guest c) = on_guest w c
plain_by guest w Unreadable = (Refused BadLine, guest_at w)

-- what the plain machine answers to a call, and the moment after it
abbrev pub plain : Moment → Call → Answer × Moment
plain m c = plain_by m.side m.world c

unfoldable pub plain_answers : Moment → List Call → List Answer
plain_answers m [] = []
plain_answers m (c ∷ cs) = (plain m c).0 ∷ plain_answers (plain m c).1 cs

unfoldable pub plain_end : Moment → List Call → Moment
plain_end m [] = m
plain_end m (c ∷ cs) = plain_end (plain m c).1 cs
