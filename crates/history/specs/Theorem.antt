-- The agreement theorem, of what one call does to a translator.
use Rattle.std.specs.Prelude.{◌≡◌, ℕ, suc, List, length, Some}
use Rattle.std.specs.List.{slice_get}
use Rattle.access.specs.declared.accesses.Access.{Access}
use Rattle.stages.specs.Stages.{World}
use Rattle.translator.specs.declared.fences.Fence.{Fence}
use Rattle.translator.specs.declared.replies.Reply.{Reply}
use Rattle.translator.specs.declared.translators.Translator.{Ghosts}
use Rattle.translator.specs.Rules.{walked_to}
use Rattle.calls.specs.declared.Call.{Call}
use Rattle.calls.specs.declared.Answer.{Answer}
use Rattle.history.specs.Moments.{Moment}
use Rattle.history.specs.Plain.{plain_answers, plain_end}
use Rattle.history.specs.Settled.{plain_at, AllSettled, Faithful}
use Rattle.history.specs.Runs.{Step, Ran, Played}

-- the answers and the end are the plain machine's
pub record Agrees (m : Moment) (cs : List Call) (xs : List Answer) (end : Moment) : Type 0 where
  pub answers : xs ≡ plain_answers m cs
  pub ending : end ≡ plain_end m cs

-- T is what a translator says of its calls: what an access, a fence and a host fence do to it
module _ {S : Type 0} (T : Ghosts S) where
  -- a faithful run whose moments are the machine's own: the translator's states stand beside them, from the one that making leaves
  -- to the last, and each call is a step of that translator from its moment and state to the next
  pub record FaithfulRun (m : Moment) (s : S) (cs : List Call) (xs : List Answer) (end : Moment) (t : S) : Type 0 where
    pub moments : Faithful m cs xs end
    pub state : ℕ → S
    pub made : T.clears s (state 0)
    pub left : state (length cs) ≡ t
    pub steps : (k : ℕ) (c : Call) (x : Answer) → slice_get cs k ≡ Some c → slice_get xs k ≡ Some x
        → Step T (moments.at k) (state k) c x (moments.at (suc k)) (state (suc k))

  -- every run is faithful, and where every access is settled at the plain machine's moments it agrees with the plain machine
  abbrev pub RunsAgree : Type 0
  RunsAgree =
      (m : Moment) (s : S) (cs : List Call) (xs : List Answer) (end : Moment) (t : S) → Played T m s cs xs end t
      → FaithfulRun m s cs xs end t × (AllSettled (plain_at m cs) cs → Agrees m cs xs end)

  -- where every reply is the walk's own, every run agrees with the plain machine
  abbrev pub WalksAgree : Type 0
  WalksAgree =
      ((s t : S) (w : World) (a : Access) (r : Reply) → T.answers s w a r t → r.outcome ≡ walked_to w a)
      → (m : Moment) (s : S) (cs : List Call) (xs : List Answer) (end : Moment) (t : S) → Ran T m s cs xs end t → Agrees m cs xs end
