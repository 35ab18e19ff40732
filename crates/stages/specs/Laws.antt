-- Both stages Bare: an access goes to the address itself.
use Rattle.std.specs.Prelude.{◌≡◌, true, false, None, Ok, Err}
use Rattle.memory.specs.Words.{outside}
use Rattle.access.specs.declared.accesses.Access.{Access}
use Rattle.fault.specs.declared.faults.HostFault.TheVariants.{Word}
use Rattle.fault.specs.declared.faults.GuestFault.TheVariants.{Host}
use Rattle.access.specs.Accesses.{page_of, word_of, is_aligned}
use Rattle.registers.specs.Registers.{is_paged}
use Rattle.stages.specs.Host.{unreached, is_inside}
use Rattle.stages.specs.Stages.{World, fault_of, translate_of}

-- inside the memory it goes to the frame and the word of its own address; outside, that address is what was not reached
pub record BareIsIdentity (w : World) (a : Access) : Type 0 where
  pub inside : is_inside w.words (page_of a) ≡ true → translate_of w a ≡ Ok (record { frame = page_of a; word = word_of a; guest = None; host = None })
  pub outside : is_inside w.words (page_of a) ≡ false → translate_of w a ≡ Err (fault_of a (Host (unreached a.address (Word outside))))

abbrev pub BothBare : Type 0
BothBare = (w : World) (a : Access) → is_paged w.guest ≡ false → is_paged w.host ≡ false → is_aligned a ≡ true → BareIsIdentity w a
