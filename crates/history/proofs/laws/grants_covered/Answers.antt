use Rattle.history.proofs.Covering.{grants_covered}
use Rattle.history.proofs.laws.grants_covered.Goals as goal

pub returns : goal.returns
returns c = grants_covered
