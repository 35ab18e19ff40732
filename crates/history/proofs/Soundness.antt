-- Every run of a translator that keeps the rules is faithful.
use Rattle.std.proofs.Common.{◌≡◌, ℕ, zero, suc, ◌≤◌, false, ◌⊎◌, List, [], length, Some, None, Ok, Option, sym, refl, ap, ◌∙◌, subst, inl, inr, ⊎_elim, arith}
use Rattle.std.specs.List.{slice_get, ContainsAt as Has, AllByRecursion}
use Rattle.std.proofs.ByRecursion.{All-weaker, all-has}
use Rattle.std.proofs.lemmas.Bool.{both_ways}
use Rattle.access.specs.declared.accesses.Access.{Access}
use Rattle.stages.specs.Stages.{World}
use Rattle.translator.specs.declared.grants.Grant.{Grant}
use Rattle.translator.specs.declared.fences.Fence.{Fence}
use Rattle.translator.specs.declared.replies.Reply.{Reply}
use Rattle.translator.specs.declared.translators.Translator.{Ghosts}
use Rattle.translator.specs.Grants.{answering}
use Rattle.translator.specs.Truth.{True}
use Rattle.translator.specs.Fences.{covers_grant}
use Rattle.translator.specs.Rules.{walked_to, or_walk, Answered, Fenced}
use Rattle.calls.specs.declared.Call.{Call}
use Rattle.calls.specs.declared.Answer.{Answer}
use Rattle.history.specs.Moments.{Moment}
use Rattle.history.specs.Plain.{landed}
use Rattle.history.specs.Asks.{Ask, nothing, reach, forget, clear, asks}
use Rattle.history.specs.Settled.{CoversBy, Covers, CoveredFrom, Plainly, Remembered, AllServed}
use Rattle.history.specs.Theorem.{FaithfulRun}
use Rattle.history.specs.Runs.{Reached, StepBy, Played}
use Rattle.history.proofs.Places.{nth_inside, nth_there}
use Rattle.history.proofs.Traces.{Traced, traced}
use Rattle.history.proofs.Reaches.{reach_plainly}
use Rattle.history.proofs.Origins.{Known, known_on, uncovered_now, covers_grant_lem, answering_is, answering_bears, answering_gives}

module _ {S : Type 0} (T : Ghosts S)
    (answered : (s t : S) (w : World) (a : Access) (r : Reply) → T.answers s w a r t → Answered (T.book s) w a r (T.book t))
    (fenced : (s t : S) (f : Fence) → T.forgets s f t → Fenced (T.book s) f (T.book t)) (cleared : (s t : S) → T.clears s t → T.book t ≡ []) where
  module _ (at : ℕ → Moment) (cs : List Call) (k : ℕ) (c : Call) (call : slice_get cs k ≡ Some c) where
    -- a known grant that call k does not cover stays known
    stays : (g : Grant) → ((o : Moment) → True o.world g → Covers (at k) c g.page o → ⊥) → Known at cs k g → Known at cs (suc k) g
    stays g clean known =
        let l = known.earlier in
        known_on at cs k c g known.origin call (omega arith) known.true_then known.uncovered (clean (at known.origin) known.true_then)

    -- call k leaves a book of known grants
    sound_on : (q : Ask) (s : S) (x : Answer) (n : Moment) (t : S) → asks (at k) c ≡ q → StepBy T q (at k) s c x n t
        → AllByRecursion (Known at cs k) (T.book s) → AllByRecursion (Known at cs (suc k)) (T.book t)
    sound_on nothing s x n t e step all =
        subst (λ u. AllByRecursion (Known at cs (suc k)) (T.book u)) (sym step.1)
        (All-weaker _ _ (λ g. stays g (λ o tr v. subst (λ q. CoversBy q g.page o) e v)) (T.book s) all)
    sound_on (reach a new) s x n t e step all =
        let uncovered : (g : Grant) (o : Moment) → Covers (at k) c g.page o → ⊥ = λ g o v. subst (λ q. CoversBy q g.page o) e v in
        All-weaker (λ g. Has (T.book s) g ⊎ True (at k).world g) (Known at cs (suc k))
        (λ g h. ⊎_elim (λ y. stays g (λ o tr. uncovered g o) (all-has (Known at cs k) (T.book s) g all y))
        (λ y. known_on at cs k c g k call (omega arith) y (uncovered_now at cs g.page k) (uncovered g (at k))) h)
        (T.book t) (answered s t (at k).world a step.0 step.1).kept
    sound_on (forget f) s x n t e step all =
        All-weaker (λ g. Has (T.book s) g × (covers_grant f g ≡ false)) (Known at cs (suc k))
        (λ g h. stays g (λ o tr v. both_ways _ h.1 (covers_grant_lem f o g tr (subst (λ q. CoversBy q g.page o) e v))) (all-has (Known at cs k) (T.book s) g all h.0))
        (T.book t) (fenced s t f step.1)
    sound_on clear s x n t e step all = subst (AllByRecursion (Known at cs (suc k))) (sym (cleared s t step.1)) tt

    -- an access over a book of known grants is plain or remembered
    reached : (a : Access) (new : ℕ) (s : S) (x : Answer) (t : S) → asks (at k) c ≡ reach a new → Reached T (at k) s a new x (at (suc k)) t
        → AllByRecursion (Known at cs k) (T.book s) → Plainly (at k) c x (at (suc k)) ⊎ Remembered at cs k c x
    reached a new s x t e step all = on (answering (at k).world a (T.book s)) refl
      where
        outcome : step.0.outcome ≡ or_walk (answering (at k).world a (T.book s)) (walked_to (at k).world a)
        outcome = (answered s t (at k).world a step.0 step.1).outcome

        on : (o : Option Grant) → answering (at k).world a (T.book s) ≡ o → Plainly (at k) c x (at (suc k)) ⊎ Remembered at cs k c x
        on None p =
            let walked : step.0.outcome ≡ walked_to (at k).world a = outcome ∙ ap (λ o. or_walk o (walked_to (at k).world a)) p in
            inl (reach_plainly (at k) c a new step.0.outcome x (at (suc k)) e (sym walked) step.2 step.3)
        on (Some g) p =
            let there : step.0.outcome ≡ Ok g.frame = outcome ∙ ap (λ o. or_walk o (walked_to (at k).world a)) p in
            let is = answering_is (at k).world a (Known at cs k) (T.book s) g all p in
            let known = is.0 in
            let o = at known.origin in
            inr (record {
              access = a;
              new = new;
              origin = known.origin;
              frame = g.frame;
              reaches = e;
              earlier = known.earlier;
              bears = answering_bears o (at k) a g known.true_then is.1;
              gives = answering_gives o (at k) a g known.true_then is.1;
              uncovered = subst (λ page. CoveredFrom at cs page known.origin k → ⊥) is.1.page known.uncovered;
              answer = step.2 ∙ ap (λ r. (landed (at k).world a new r).0) there;
              after = step.3 ∙ ap (λ r. (landed (at k).world a new r).1) there;
            })

    served_by : (q : Ask) (s : S) (x : Answer) (t : S) → asks (at k) c ≡ q → StepBy T q (at k) s c x (at (suc k)) t
        → AllByRecursion (Known at cs k) (T.book s) → Plainly (at k) c x (at (suc k)) ⊎ Remembered at cs k c x
    served_by nothing s x t e step all = inl step.0
    served_by (reach a new) s x t e step all = reached a new s x t e step all
    served_by (forget f) s x t e step all = inl step.0
    served_by clear s x t e step all = inl step.0

  module _ (m : Moment) (s : S) (cs : List Call) (xs : List Answer) (end : Moment) (t : S) (empty : T.book s ≡ []) (run : Traced T m s cs xs end t) where
    -- every grant in the book is known, at each moment of the run
    sound : (k : ℕ) → k ≤ length cs → AllByRecursion (Known run.at cs k) (T.book (run.state k))
    sound zero l = subst (AllByRecursion (Known run.at cs 0)) (sym (ap T.book run.made ∙ empty)) tt
    sound (suc k) l =
        let many = run.many in
        let c = nth_there cs k (omega arith) in
        let x = nth_there xs k (omega arith) in
        sound_on run.at cs k c.0 c.1 (asks (run.at k) c.0) (run.state k) x.0 (run.at (suc k)) (run.state (suc k)) refl
        (run.steps k c.0 x.0 c.1 x.1) (sound k (omega arith))

    served : AllServed run.at cs xs
    served k c x e f =
        let l = nth_inside cs k c e in
        served_by run.at cs k c e (asks (run.at k) c) (run.state k) x (run.state (suc k)) refl (run.steps k c x e f) (sound k (omega arith))

    pub faithful_from : (u : S) → T.clears u s → FaithfulRun T m u cs xs end t
    faithful_from u h =
        record {
          moments = record { at = run.at; first = run.first; last = run.last; many = run.many; served = served };
          state = run.state;
          made = subst (T.clears u) (sym run.made) h;
          left = run.left;
          steps = run.steps;
        }

  pub faithful : (m : Moment) (s : S) (cs : List Call) (xs : List Answer) (end : Moment) (t : S) → Played T m s cs xs end t
      → FaithfulRun T m s cs xs end t
  faithful m s cs xs end t r =
      faithful_from m r.0 cs xs end t (cleared s r.0 r.1) (traced T m r.0 cs xs end t r.2) s r.1
