use Rattle.history.proofs.Theorem.{runs_agree}
use Rattle.history.proofs.runs.runs_agree.Goals as goal

pub returns : goal.returns
returns g c =
    runs_agree g.T.Translator
    g.met.T.Translator.answered g.met.T.Translator.fenced g.met.T.Translator.cleared
