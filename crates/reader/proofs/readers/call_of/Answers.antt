use Rattle.operands.proofs.Spelling.{host_spelled, guest_spelled}
use Rattle.reader.proofs.readers.call_of.Goals as goal

pub side_call-requires : goal.side_call-requires
side_call-requires c = host_spelled

pub side_call-requires-in_default : goal.side_call-requires-in_default
side_call-requires-in_default c = guest_spelled
