-- No two calls whose numbers fit their digits share a text.
use Rattle.std.specs.Prelude.{◌≡◌, ◌^◌, ◌<◌, ◌≢◌}
use Rattle.calls.specs.declared.HostCall.{HostCall}
use Rattle.calls.specs.declared.HostCall.TheVariants as host
use Rattle.calls.specs.declared.GuestCall.{GuestCall}
use Rattle.calls.specs.declared.GuestCall.TheVariants as guest
use Rattle.values.specs.Reads.{Fits}
use Rattle.reader.specs.Texts.{host_text, guest_text}

-- each number of a call fits its digits
abbrev pub HostFits : HostCall → Type 0
HostFits (host.Load a) = a < 16 ^ 16
HostFits (host.Store a d) = (a < 16 ^ 16) × (d < 16 ^ 16)
HostFits (host.Root r) = r < 16 ^ 16
HostFits host.Fence = Unit {0}
HostFits host.Enter = Unit {0}

abbrev pub GuestFits : GuestCall → Type 0
GuestFits (guest.Load t) = t.address < 16 ^ 16
GuestFits (guest.Store t d) = (t.address < 16 ^ 16) × (d < 16 ^ 16)
GuestFits (guest.Fetch t) = t.address < 16 ^ 16
GuestFits (guest.Fence f) = Fits 16 f.address × Fits 4 f.asid
GuestFits (guest.Root r) = r < 16 ^ 16
GuestFits guest.Leave = Unit {0}

-- one text stands for one call
pub record OneText : Type 0 where
  pub hosts : (c d : HostCall) → HostFits c → HostFits d → host_text c ≡ host_text d → c ≡ d
  pub guests : (c d : GuestCall) → GuestFits c → GuestFits d → guest_text c ≡ guest_text d → c ≡ d
  pub apart : (c : HostCall) (d : GuestCall) → host_text c ≢ guest_text d
