use Rattle.std.proofs.Common.{◌≡◌, ◌↔◌, Ok, Result, sym, ◌∙◌, rules}
use Rattle.access.specs.declared.accesses.Access.{Access}
use Rattle.stages.specs.declared.outcomes.Translation.{Translation}
use Rattle.fault.specs.declared.faults.Fault.{Fault}
use Rattle.stages.specs.Stages.{World, translate_of}
use Rattle.stages.specs.Paths.{Granted}
use Rattle.stages.proofs.Grants.{granted}
use Rattle.stages.proofs.worlds.World.translate.Goals as goal

-- what equals the walk is granted as the walk is
as_walked : (w : World) (a : Access) (r : Result Translation Fault) → r ≡ translate_of w a → (t : Translation) → (r ≡ Ok t) ↔ Granted w a t
as_walked w a r e t = (λ h. (granted w a t).0 (sym e ∙ h), λ h. e ∙ (granted w a t).1 h)

pub returns-clause-answer : goal.returns-clause-answer
unfolding translate_of
returns-clause-answer g c = search rules

pub returns-clause-granted : goal.returns-clause-granted
returns-clause-granted g c = as_walked _ _ _ (returns-clause-answer g c)
