-- What follows for faithful runs and settled accesses.
use Rattle.std.proofs.Common.{◌≡◌, ℕ, suc, List, Ok, Err, Result, sym, refl, ap, ◌∙◌, subst, inl, inr, ⊎_elim, arith}
use Rattle.std.proofs.lemmas.Bool.{cases_lt}
use Rattle.access.specs.declared.accesses.Kind.{Kind}
use Rattle.access.specs.declared.accesses.Kind.TheVariants.{Load, Store, Fetch}
use Rattle.access.specs.declared.accesses.Access.{Access}
use Rattle.fault.specs.declared.faults.Fault.{Fault}
use Rattle.access.specs.Accesses.{page_of}
use Rattle.stages.specs.Stages.{World}
use Rattle.translator.specs.Rules.{walked_to}
use Rattle.calls.specs.declared.Call.{Call}
use Rattle.calls.specs.declared.Answer.{Answer}
use Rattle.calls.specs.declared.Answer.TheVariants.{Faulted}
use Rattle.history.specs.Moments.{Moment}
use Rattle.history.specs.Plain.{place_of, done_by, landed}
use Rattle.history.specs.Settled.{Covers, Gives, Plainly, Remembered}
use Rattle.history.specs.Consequences.{FencesAll, FencesRefresh, NextIsPlain, FaultsAreWalked, StillIsSettled}
use Rattle.history.proofs.Covering.{moments_covered}
use Rattle.history.proofs.Places.{nth_inside}
use Rattle.history.proofs.Reaches.{reach_lands, reach_plainly}

-- a fence of everything covers every page of every moment
all_covered : (m : Moment) (c : Call) (page : ℕ) (o : Moment) → FencesAll m c → Covers m c page o
all_covered m c page o (inl h) = subst (λ y. Covers m y page o) (sym h.1) ((moments_covered.host_fence m page o).1 h.0)
all_covered m c page o (inr h) = subst (λ y. Covers m y page o) (sym h.1) (moments_covered.all m page o h.0)

-- an access that was remembered from a moment of the same words and roots goes as in the plain machine
still_plainly : (at : ℕ → Moment) (cs : List Call) (k : ℕ) (c : Call) (x : Answer) (r : Remembered at cs k c x) → (at r.origin).world ≡ (at k).world
    → Plainly (at k) c x (at (suc k))
still_plainly at cs k c x r same =
    let gives : Gives (at k) r.access r.frame = subst (λ w. walked_to w r.access ≡ Ok r.frame) same r.gives in
    reach_plainly (at k) c r.access r.new (Ok r.frame) x (at (suc k)) r.reaches gives r.answer r.after

pub fences_refresh : FencesRefresh
fences_refresh m cs xs end run j k c d x e fence l still f g = ⊎_elim (λ y. y) remembered (run.served k d x f g)
  where
    remembered : Remembered run.at cs k d x → Plainly (run.at k) d x (run.at (suc k))
    remembered r =
        elim (cases_lt j r.origin) [
          | inl b ↦ let before = r.earlier in still_plainly run.at cs k d x r (still r.origin (omega arith) (omega arith))
          | inr b ↦ absurd (r.uncovered (j, c, b, l, e, all_covered (run.at j) c (page_of r.access) (run.at r.origin) fence))
        ]

pub next_is_plain : NextIsPlain
next_is_plain m cs xs end run j c d x e fence f g =
    fences_refresh m cs xs end run j (suc j) c d x e fence (omega arith)
    (λ i l b. let z : i ≡ suc j = omega arith in ap (λ n. (run.at n).world) z) f g

-- an access that is done answers no fault
done_no_fault : (kind : Kind) (w : World) (i new : ℕ) (fault : Fault) → Faulted fault ≡ (done_by kind w i new).0 → ⊥
done_no_fault Load w i new fault e = cc
done_no_fault Store w i new fault e = cc
done_no_fault Fetch w i new fault e = cc

-- an answer that is a fault is the translation's, and changes neither words nor roots
landed_fault : (r : Result ℕ Fault) (w : World) (a : Access) (new : ℕ) (fault : Fault) → Faulted fault ≡ (landed w a new r).0 → (r ≡ Err fault) × ((landed w a new r).1.world ≡ w)
landed_fault (Ok frame) w a new fault e = absurd (done_no_fault a.kind w (place_of a frame) new fault e)
landed_fault (Err reason) w a new fault e = (cc, refl)

pub faults_are_walked : FaultsAreWalked
faults_are_walked m cs xs end run k c a new fault e f g = ⊎_elim plainly remembered (run.served k c (Faulted fault) e g)
  where
    plainly : Plainly (run.at k) c (Faulted fault) (run.at (suc k)) → (walked_to (run.at k).world a ≡ Err fault) × ((run.at (suc k)).world ≡ (run.at k).world)
    plainly p =
        let lands = reach_lands (run.at k) c a new f in
        let r = landed_fault (walked_to (run.at k).world a) (run.at k).world a new fault (p.0 ∙ ap (λ y. y.0) lands) in
        (r.0, ap (λ n. n.world) (p.1 ∙ ap (λ y. y.1) lands) ∙ r.1)

    remembered : Remembered run.at cs k c (Faulted fault) → (walked_to (run.at k).world a ≡ Err fault) × ((run.at (suc k)).world ≡ (run.at k).world)
    remembered r = absurd (done_no_fault r.access.kind (run.at k).world (place_of r.access r.frame) r.new fault r.answer)

pub still_is_settled : StillIsSettled
still_is_settled at cs still k c a new i frame e f l bears gives =
    let b = nth_inside cs k c e in
    inr (subst (λ w. walked_to w a ≡ Ok frame) (still k b i (omega arith) (omega arith)) gives)
