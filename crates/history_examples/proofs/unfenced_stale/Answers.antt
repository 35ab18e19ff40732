use Rattle.history_examples.proofs.Edited.{unfenced_stale}
use Rattle.history_examples.proofs.unfenced_stale.Goals as goal

pub returns : goal.returns
returns c = unfenced_stale
