-- One call more at the end of a run.
use Rattle.std.proofs.Common.{List, [], ◌∷◌, ◌++◌, sym, refl, subst}
use Rattle.translator.specs.declared.translators.Translator.{Ghosts}
use Rattle.calls.specs.declared.Call.{Call}
use Rattle.calls.specs.declared.Answer.{Answer}
use Rattle.history.specs.Moments.{Moment}
use Rattle.history.specs.Runs.{Step, Ran}

module _ {S : Type 0} (T : Ghosts S) where
  -- no calls are a run
  pub ran_none : (m : Moment) (s : S) → Ran T m s [] [] m s
  unfolding Ran
  ran_none m s = (refl, refl)

  -- a run with one more step at its end is a run
  pub ran_push : (m : Moment) (s : S) (cs : List Call) (xs : List Answer) (n : Moment) (t : S) (c : Call) (x : Answer) (end : Moment) (u : S)
      → Ran T m s cs xs n t → Step T n t c x end u
      → Ran T m s (cs ++ c ∷ []) (xs ++ x ∷ []) end u
  unfolding Ran
  ran_push m s [] [] n t c x end u r p =
      let from : Step T m t c x end u = subst (λ k. Step T k t c x end u) (sym r.0) p in
      (end, u, subst (λ y. Step T m y c x end u) (sym r.1) from, (refl, refl))
  ran_push m s [] (y ∷ ys) n t c x end u r p = absurd r
  ran_push m s (d ∷ ds) [] n t c x end u r p = absurd r
  ran_push m s (d ∷ ds) (y ∷ ys) n t c x end u r p = (r.0, r.1, r.2, ran_push r.0 r.1 ds ys n t c x end u r.3 p)
