use Rattle.history.proofs.Bearing.{moments_bear}
use Rattle.history.proofs.laws.moments_bear.Goals as goal

pub returns : goal.returns
returns c = moments_bear
