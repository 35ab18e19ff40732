-- Runs of a machine over a translator, by what one call does to that translator.
use Rattle.std.specs.Prelude.{◌≡◌, ℕ, List, [], ◌∷◌}
use Rattle.access.specs.declared.accesses.Access.{Access}
use Rattle.stages.specs.Stages.{World}
use Rattle.translator.specs.declared.fences.Fence.{Fence}
use Rattle.translator.specs.declared.replies.Reply.{Reply}
use Rattle.translator.specs.declared.translators.Translator.{Ghosts}
use Rattle.calls.specs.declared.Call.{Call}
use Rattle.calls.specs.declared.Answer.{Answer}
use Rattle.history.specs.Moments.{Moment}
use Rattle.history.specs.Plain.{landed}
use Rattle.history.specs.Asks.{Ask, nothing, reach, forget, clear, asks}
use Rattle.history.specs.Settled.{Plainly}

-- T is what a translator says of its calls: what an access, a fence and a host fence do to it
module _ {S : Type 0} (T : Ghosts S) where
  -- an access: the translator's reply, and what the machine makes of its outcome
  abbrev pub Reached : Moment → S → Access → ℕ → Answer → Moment → S → Type 0
  Reached m s a new x n t =
      (r : Reply) × T.answers s m.world a r t × (x ≡ (landed m.world a new r.outcome).0) × (n ≡ (landed m.world a new r.outcome).1)

  abbrev pub StepBy : Ask → Moment → S → Call → Answer → Moment → S → Type 0
  StepBy nothing m s c x n t = Plainly m c x n × (t ≡ s)
  StepBy (reach a new) m s c x n t = Reached m s a new x n t
  StepBy (forget f) m s c x n t = Plainly m c x n × T.forgets s f t
  StepBy clear m s c x n t = Plainly m c x n × T.clears s t

  -- one call, from a moment and a translator to the next
  abbrev pub Step : Moment → S → Call → Answer → Moment → S → Type 0
  Step m s c x n t = StepBy (asks m c) m s c x n t

  -- calls in a row
  unfoldable pub Ran : Moment → S → List Call → List Answer → Moment → S → Type 0
  Ran m s [] [] end t = (m ≡ end) × (s ≡ t)
  Ran m s [] (x ∷ xs) end t = ⊥
  Ran m s (c ∷ cs) [] end t = ⊥
  Ran m s (c ∷ cs) (x ∷ xs) end t = (n : Moment) × (u : S) × Step m s c x n u × Ran n u cs xs end t

  -- a machine is made with one host fence, and then takes its calls
  abbrev pub Played : Moment → S → List Call → List Answer → Moment → S → Type 0
  Played m s cs xs end t = (u : S) × T.clears s u × Ran m u cs xs end t
