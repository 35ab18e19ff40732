use Rattle.history.proofs.Consequences.{fences_refresh}
use Rattle.history.proofs.laws.fences_refresh.Goals as goal

pub returns : goal.returns
returns c = fences_refresh
