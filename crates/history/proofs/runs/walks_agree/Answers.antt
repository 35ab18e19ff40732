use Rattle.history.proofs.Theorem.{walks_agree}
use Rattle.history.proofs.runs.walks_agree.Goals as goal

pub returns : goal.returns
returns g c = walks_agree g.T.Translator
