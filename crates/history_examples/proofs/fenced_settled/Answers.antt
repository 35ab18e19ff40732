use Rattle.history_examples.proofs.Edited.{fenced_settled}
use Rattle.history_examples.proofs.fenced_settled.Goals as goal

pub returns : goal.returns
returns c = fenced_settled
