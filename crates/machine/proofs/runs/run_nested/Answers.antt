use Rattle.std.proofs.Common.{ap, ◌∙◌, rules}
use Rattle.std.proofs.lemmas.Result.{IfOk-weaker}
use Rattle.translator.specs.Walks.{walked_to_lem}
use Rattle.history.proofs.Theorem.{walks_agree}
use Rattle.machine.proofs.runs.run_nested.Goals as goal

pub returns : goal.returns
returns g c =
    record {
      agrees = IfOk-weaker _ _ _ (λ e p. walks_agree _ (λ s t w a r h. ap (λ x. x.outcome) h ∙ walked_to_lem w a) _ _ _ _ _ _ p.2) c.run.ensures.played;
      unchanged = search rules;
      kept = c.run.ensures.kept;
    }
