-- The agreement theorem.
use Rattle.std.proofs.Common.{◌≡◌, suc, [], sym, refl}
use Rattle.access.specs.declared.accesses.Access.{Access}
use Rattle.stages.specs.Stages.{World}
use Rattle.translator.specs.declared.fences.Fence.{Fence}
use Rattle.translator.specs.declared.replies.Reply.{Reply}
use Rattle.translator.specs.declared.translators.Translator.{Ghosts}
use Rattle.translator.specs.Rules.{walked_to, Answered, Fenced}
use Rattle.calls.specs.declared.Call.{Call}
use Rattle.calls.specs.declared.Answer.{Answer}
use Rattle.history.specs.Moments.{Moment}
use Rattle.history.specs.Asks.{Ask, nothing, reach, forget, clear, asks}
use Rattle.history.specs.Settled.{Plainly}
use Rattle.history.specs.Runs.{StepBy}
use Rattle.history.specs.Theorem.{RunsAgree, WalksAgree}
use Rattle.history.proofs.Traces.{traced}
use Rattle.history.proofs.Reaches.{reach_plainly}
use Rattle.history.proofs.Soundness.{faithful}
use Rattle.history.proofs.Agreement.{plain_run, settled_agrees}

module _ {S : Type 0} (T : Ghosts S)
    (answered : (s t : S) (w : World) (a : Access) (r : Reply) → T.answers s w a r t → Answered (T.book s) w a r (T.book t))
    (fenced : (s t : S) (f : Fence) → T.forgets s f t → Fenced (T.book s) f (T.book t)) (cleared : (s t : S) → T.clears s t → T.book t ≡ []) where
  pub runs_agree : RunsAgree T
  runs_agree m s cs xs end t r =
      let f = faithful T answered fenced cleared m s cs xs end t r in
      (f, settled_agrees m cs xs end f.moments)

module _ {S : Type 0} (T : Ghosts S) where
  walks_plainly : ((s t : S) (w : World) (a : Access) (r : Reply) → T.answers s w a r t → r.outcome ≡ walked_to w a)
      → (q : Ask) (m : Moment) (s : S) (c : Call) (x : Answer) (n : Moment) (t : S) → asks m c ≡ q → StepBy T q m s c x n t → Plainly m c x n
  walks_plainly walks nothing m s c x n t e step = step.0
  walks_plainly walks (reach a new) m s c x n t e step =
      reach_plainly m c a new step.0.outcome x n e (sym (walks s t m.world a step.0 step.1)) step.2 step.3
  walks_plainly walks (forget f) m s c x n t e step = step.0
  walks_plainly walks clear m s c x n t e step = step.0

  pub walks_agree : WalksAgree T
  walks_agree walks m s cs xs end t r =
      let run = traced T m s cs xs end t r in
      plain_run run.at m cs xs end run.first run.last run.many
      (λ k c x e f. walks_plainly walks (asks (run.at k) c) (run.at k) (run.state k) c x (run.at (suc k)) (run.state (suc k)) refl (run.steps k c x e f))
