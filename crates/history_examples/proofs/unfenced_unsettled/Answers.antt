use Rattle.history_examples.proofs.Edited.{unfenced_unsettled}
use Rattle.history_examples.proofs.unfenced_unsettled.Goals as goal

pub returns : goal.returns
returns c = unfenced_unsettled
