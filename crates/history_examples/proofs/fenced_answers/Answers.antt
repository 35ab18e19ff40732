use Rattle.history_examples.proofs.Edited.{fenced_answers}
use Rattle.history_examples.proofs.fenced_answers.Goals as goal

pub returns : goal.returns
returns c = fenced_answers
