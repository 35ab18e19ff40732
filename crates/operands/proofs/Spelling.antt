-- How the calls of each side are spelled.
use Rattle.std.proofs.Common.{refl}
use Rattle.calls.specs.declared.HostCall.TheVariants as host
use Rattle.calls.specs.declared.GuestCall.TheVariants as guest
use Rattle.operands.specs.Texts.{host_letter, host_rest, guest_letter, guest_rest}
use Rattle.operands.specs.Reads.{Spelled}
use Rattle.operands.proofs.Shapes.{host_even, guest_even}
use Rattle.operands.proofs.Plains.{host_plain, guest_plain}

pub host_spelled : Spelled host_letter host_rest
host_spelled = record {
  one = elim [ host.Load a ↦ refl | host.Store a d ↦ refl | host.Root r ↦ refl | host.Fence ↦ refl | host.Enter ↦ refl ];
  plain = host_plain;
  even = host_even;
}

pub guest_spelled : Spelled guest_letter guest_rest
guest_spelled = record {
  one = elim [ guest.Load t ↦ refl | guest.Store t d ↦ refl | guest.Fetch t ↦ refl | guest.Fence f ↦ refl | guest.Root r ↦ refl | guest.Leave ↦ refl ];
  plain = guest_plain;
  even = guest_even;
}
