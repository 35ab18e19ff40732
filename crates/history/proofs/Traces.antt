-- A run by numbers: its own moments, the translator's states at them, and the step of each call.
use Rattle.std.proofs.Common.{◌≡◌, ℕ, zero, suc, List, [], ◌∷◌, length, Some, refl, ap}
use Rattle.std.specs.List.{slice_get}
use Rattle.translator.specs.declared.translators.Translator.{Ghosts}
use Rattle.calls.specs.declared.Call.{Call}
use Rattle.calls.specs.declared.Answer.{Answer}
use Rattle.history.specs.Moments.{Moment}
use Rattle.history.specs.Runs.{Step, Ran}
use Rattle.history.proofs.Places.{nth_none}

-- one more in front
abbrev before : {X : Type 0} → X → (ℕ → X) → ℕ → X
before x f zero = x
before x f (suc k) = f k

module _ {S : Type 0} (T : Ghosts S) where
  pub record Traced (m : Moment) (s : S) (cs : List Call) (xs : List Answer) (end : Moment) (t : S) : Type 0 where
    pub at : ℕ → Moment
    pub state : ℕ → S
    pub first : at 0 ≡ m
    pub made : state 0 ≡ s
    pub last : at (length cs) ≡ end
    pub left : state (length cs) ≡ t
    pub many : length xs ≡ length cs
    pub steps : (k : ℕ) (c : Call) (x : Answer) → slice_get cs k ≡ Some c → slice_get xs k ≡ Some x
        → Step T (at k) (state k) c x (at (suc k)) (state (suc k))

  module _ (m : Moment) (s : S) (c : Call) (cs : List Call) (x : Answer) (xs : List Answer) (end : Moment) (t : S) (n : Moment) (u : S)
      (step : Step T m s c x n u) (rest : Traced n u cs xs end t) where
    steps_on : (k : ℕ) (d : Call) (y : Answer) → slice_get (c ∷ cs) k ≡ Some d → slice_get (x ∷ xs) k ≡ Some y
        → Step T (before m rest.at k) (before s rest.state k) d y (rest.at k) (rest.state k)
    steps_on zero d y e f =
        let p : c ≡ d = cc in
        let q : x ≡ y = cc in
        rw (rest.first, rest.made, ← p, ← q) step
    steps_on (suc k) d y e f = rest.steps k d y e f

    -- one more call in front
    traced_on : Traced m s (c ∷ cs) (x ∷ xs) end t
    traced_on =
        record {
          at = before m rest.at;
          state = before s rest.state;
          first = refl;
          made = refl;
          last = rest.last;
          left = rest.left;
          many = ap suc rest.many;
          steps = steps_on;
        }

  pub traced : (m : Moment) (s : S) (cs : List Call) (xs : List Answer) (end : Moment) (t : S) → Ran T m s cs xs end t → Traced m s cs xs end t
  unfolding Ran
  traced m s [] [] end t r =
      record {
        at = λ k. m;
        state = λ k. s;
        first = refl;
        made = refl;
        last = r.0;
        left = r.1;
        many = refl;
        steps = λ k c x e f. absurd (nth_none k c e);
      }
  traced m s [] (x ∷ xs) end t r = absurd r
  traced m s (c ∷ cs) [] end t r = absurd r
  traced m s (c ∷ cs) (x ∷ xs) end t r = traced_on m s c cs x xs end t r.0 r.1 r.2 (traced r.0 r.1 cs xs end t r.3)
