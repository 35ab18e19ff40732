use Rattle.history.proofs.Fullests.{grants_true}
use Rattle.history.proofs.laws.grants_true.Goals as goal

pub returns : goal.returns
returns c = grants_true
