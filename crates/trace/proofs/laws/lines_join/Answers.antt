use Rattle.trace.proofs.Cutting.{lines_join}
use Rattle.trace.proofs.laws.lines_join.Goals as goal

pub returns : goal.returns
returns c = lines_join
