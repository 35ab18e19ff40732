use Rattle.history.proofs.Covering.{moments_covered}
use Rattle.history.proofs.laws.moments_covered.Goals as goal

pub returns : goal.returns
returns c = moments_covered
