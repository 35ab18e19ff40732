-- A faithful run whose accesses are settled agrees with the plain machine.
use Rattle.std.proofs.Common.{◌≡◌, ℕ, zero, suc, ◌<◌, ◌≤◌, List, [], ◌∷◌, length, Some, Ok, sym, refl, ap, ◌∙◌, subst, inl, inr, ⊎_elim, arith}
use Rattle.std.specs.List.{slice_get}
use Rattle.std.proofs.lemmas.Bool.{cases_lt}
use Rattle.access.specs.Accesses.{page_of}
use Rattle.calls.specs.declared.Call.{Call}
use Rattle.calls.specs.declared.Answer.{Answer}
use Rattle.history.specs.Moments.{Moment}
use Rattle.history.specs.Plain.{plain, plain_answers, plain_end}
use Rattle.history.specs.Asks.{asks, reach}
use Rattle.history.specs.Settled.{Covers, Bears, Gives, Plainly, plain_at, CoveredFrom, AllSettled, Remembered, Faithful}
use Rattle.history.specs.Theorem.{Agrees}
use Rattle.history.proofs.Places.{nth_none, nth_inside, nth_there}
use Rattle.history.proofs.Reaches.{reach_plainly}

-- call k leads the plain machine from moment k to the next
plain_next : (m : Moment) (cs : List Call) (k : ℕ) (c : Call) → slice_get cs k ≡ Some c → (plain (plain_at m cs k) c).1 ≡ plain_at m cs (suc k)
unfolding plain_end
plain_next m [] k c e = absurd (nth_none k c e)
plain_next m (d ∷ ds) zero c e = let p : c ≡ d = cc in ap (λ y. (plain m y).1) p
plain_next m (d ∷ ds) (suc k) c e = plain_next (plain m d).1 ds k c e

plain_first : (m : Moment) (cs : List Call) → m ≡ plain_at m cs 0
unfolding plain_end
plain_first m cs = refl

-- calls that each go as in the plain machine, from m to the end
pub plain_run : (at : ℕ → Moment) (m : Moment) (cs : List Call) (xs : List Answer) (end : Moment) → at 0 ≡ m → at (length cs) ≡ end → length xs ≡ length cs
    → ((k : ℕ) (c : Call) (x : Answer) → slice_get cs k ≡ Some c → slice_get xs k ≡ Some x → Plainly (at k) c x (at (suc k))) → Agrees m cs xs end
unfolding plain_answers plain_end
plain_run at m [] [] end first last many each = record { answers = refl; ending = sym last ∙ first }
plain_run at m [] (x ∷ xs) end first last many each = absurd (omega arith)
plain_run at m (c ∷ cs) [] end first last many each = absurd (omega arith)
plain_run at m (c ∷ cs) (x ∷ xs) end first last many each =
    let one = each 0 c x refl refl in
    let next : at 1 ≡ (plain m c).1 = one.1 ∙ ap (λ y. (plain y c).1) first in
    let word : x ≡ (plain m c).0 = one.0 ∙ ap (λ y. (plain y c).0) first in
    let rest = plain_run (λ k. at (suc k)) (plain m c).1 cs xs end next last (omega arith) (λ k. each (suc k)) in
    let more = rest.answers in
    record { answers = cc; ending = rest.ending }

-- moments that are equal up to k
abbrev Same : (ℕ → Moment) → (ℕ → Moment) → ℕ → Type 0
Same at plains k = (i : ℕ) → i ≤ k → at i ≡ plains i

covered_same : (at plains : ℕ → Moment) (cs : List Call) (page i k : ℕ) → Same at plains k → CoveredFrom plains cs page i k → CoveredFrom at cs page i k
covered_same at plains cs page i k same v =
    let l = v.2 in
    let b = v.3 in
    let now : at v.0 ≡ plains v.0 = same v.0 (omega arith) in
    let then : at i ≡ plains i = same i (omega arith) in
    (v.0, v.1, v.2, v.3, v.4, subst (λ o. Covers (at v.0) v.1 page o) (sym then) (subst (λ n. Covers n v.1 page (plains i)) (sym now) v.5))

-- a remembered access that is settled goes as in the plain machine
settled_plainly : (at plains : ℕ → Moment) (cs : List Call) (k : ℕ) (c : Call) (x : Answer) → slice_get cs k ≡ Some c → Same at plains k → AllSettled plains cs
    → Remembered at cs k c x → Plainly (at k) c x (at (suc k))
settled_plainly at plains cs k c x e same all r =
    let l = r.earlier in
    let now : at k ≡ plains k = same k (omega arith) in
    let then : at r.origin ≡ plains r.origin = same r.origin (omega arith) in
    let bears : Bears (plains r.origin) (plains k) r.access = subst (λ o. Bears o (plains k) r.access) then (subst (λ n. Bears (at r.origin) n r.access) now r.bears) in
    let reaches : asks (plains k) c ≡ reach r.access r.new = subst (λ n. asks n c ≡ reach r.access r.new) now r.reaches in
    let gives : Gives (plains r.origin) r.access r.frame = subst (λ o. Gives o r.access r.frame) then r.gives in
    elim (all k c r.access r.new r.origin r.frame e reaches r.earlier bears gives) [
      | inl v ↦ absurd (r.uncovered (covered_same at plains cs (page_of r.access) r.origin k same v))
      | inr v ↦
          reach_plainly (at k) c r.access r.new (Ok r.frame) x (at (suc k)) r.reaches (subst (λ o. Gives o r.access r.frame) (sym now) v) r.answer r.after
    ]

module _ (m : Moment) (cs : List Call) (xs : List Answer) (end : Moment) (f : Faithful m cs xs end) (all : AllSettled (plain_at m cs) cs) where
  goes_plainly : (k : ℕ) (c : Call) (x : Answer) → slice_get cs k ≡ Some c → slice_get xs k ≡ Some x → Same f.at (plain_at m cs) k → Plainly (f.at k) c x (f.at (suc k))
  goes_plainly k c x e g same = ⊎_elim (λ y. y) (settled_plainly f.at (plain_at m cs) cs k c x e same all) (f.served k c x e g)

  same_next : (k : ℕ) → k < length cs → Same f.at (plain_at m cs) k → f.at (suc k) ≡ plain_at m cs (suc k)
  same_next k l same =
      let many = f.many in
      let c = nth_there cs k l in
      let x = nth_there xs k (omega arith) in
      (goes_plainly k c.0 x.0 c.1 x.1 same).1 ∙ ap (λ y. (plain y c.0).1) (same k (omega arith)) ∙ plain_next m cs k c.0 c.1

  -- the run's moments are the plain machine's
  same_at : (k : ℕ) → k ≤ length cs → Same f.at (plain_at m cs) k
  same_at zero l i b = let z : i ≡ 0 = omega arith in subst (λ j. f.at j ≡ plain_at m cs j) (sym z) (f.first ∙ plain_first m cs)
  same_at (suc k) l i b =
      let before : Same f.at (plain_at m cs) k = same_at k (omega arith) in
      elim (cases_lt i (suc k)) [
        | inl s ↦ before i (omega arith)
        | inr s ↦ let z : i ≡ suc k = omega arith in subst (λ j. f.at j ≡ plain_at m cs j) (sym z) (same_next k (omega arith) before)
      ]

  pub settled_agrees : Agrees m cs xs end
  settled_agrees =
      plain_run f.at m cs xs end f.first f.last f.many
      (λ k c x e g. let l = nth_inside cs k c e in goes_plainly k c x e g (same_at k (omega arith)))
