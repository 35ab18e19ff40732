use Rattle.std.proofs.Common.{rules}
use Rattle.translator.specs.Grants.{first_of}
use Rattle.tlb_tests.proofs.onces.Once.answering.Goals as goal

pub returns : goal.returns
unfolding first_of
returns c = search rules
