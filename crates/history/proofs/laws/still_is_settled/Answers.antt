use Rattle.history.proofs.Consequences.{still_is_settled}
use Rattle.history.proofs.laws.still_is_settled.Goals as goal

pub returns : goal.returns
returns c = still_is_settled
