use Rattle.history.proofs.Consequences.{next_is_plain}
use Rattle.history.proofs.laws.next_is_plain.Goals as goal

pub returns : goal.returns
returns c = next_is_plain
