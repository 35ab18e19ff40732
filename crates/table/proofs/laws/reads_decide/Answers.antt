use Rattle.table.proofs.WordsRead.{decide}
use Rattle.table.proofs.laws.reads_decide.Goals as goal

pub returns : goal.returns
returns g c = decide _
