-- What an accepted call asks of a translator. A refused call asks nothing.
use Rattle.std.specs.Prelude.{ℕ, cond}
use Rattle.access.specs.declared.accesses.Kind.TheVariants.{Load, Store, Fetch}
use Rattle.access.specs.declared.accesses.Access.{Access}
use Rattle.translator.specs.declared.fences.Fence.{Fence}
use Rattle.calls.specs.declared.HostCall.{HostCall}
use Rattle.calls.specs.declared.HostCall.TheVariants as host_call
use Rattle.calls.specs.declared.GuestCall.{GuestCall}
use Rattle.calls.specs.declared.GuestCall.TheVariants as guest_call
use Rattle.calls.specs.declared.Call.{Call}
use Rattle.calls.specs.declared.Call.TheVariants.{Host, Guest, Unreadable}
use Rattle.calls.specs.Targets.{access_of}
use Rattle.history.specs.Moments.{Side, host, guest, Moment}
use Rattle.history.specs.Plain.{is_fence_asid}

-- nothing, an access with the word to store, a guest fence, or a host fence
pub data Ask : Type 0 where
  nothing : Ask
  reach : Access → ℕ → Ask
  forget : Fence → Ask
  clear : Ask

abbrev pub host_asks : HostCall → Ask
host_asks (host_call.Load address) = nothing
host_asks (host_call.Store address new) = nothing
host_asks (host_call.Root register) = nothing
host_asks host_call.Fence = clear
host_asks host_call.Enter = nothing

abbrev pub guest_asks : GuestCall → Ask
guest_asks (guest_call.Load target) = reach (access_of Load target) 0
guest_asks (guest_call.Store target new) = reach (access_of Store target) new
guest_asks (guest_call.Fetch target) = reach (access_of Fetch target) 0
guest_asks (guest_call.Fence fence) = cond (is_fence_asid fence.asid) (forget fence) nothing
guest_asks (guest_call.Root register) = nothing
guest_asks guest_call.Leave = nothing

abbrev pub asks_by : Side → Call → Ask
asks_by host (Host c) = host_asks c
asks_by host (Guest c) = nothing
asks_by host Unreadable = nothing
asks_by guest (Host c) = nothing
asks_by guest (Guest c) = guest_asks c
asks_by guest Unreadable = nothing

abbrev pub asks : Moment → Call → Ask
asks m c = asks_by m.side c
