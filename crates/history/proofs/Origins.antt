-- Where the grants of a book come from: each is true at an earlier moment, with no covering fence since.
use Rattle.std.proofs.Common.{◌≡◌, ℕ, suc, ◌<◌, ◌≤◌, Bool, true, false, ◌||◌, eqb, ◌⊎◌, List, [], ◌∷◌, Some, None, sym, refl, ap, ◌∙◌, subst, inl, inr, ⊎_elim, arith}
use Rattle.std.specs.List.{slice_get, AllByRecursion}
use Rattle.std.proofs.lemmas.Bool.{cases_lt, cases_Bool, both_ways, and_parts, or_cases, eqb-true}
use Rattle.access.specs.declared.accesses.Access.{Access}
use Rattle.access.specs.Accesses.{page_of, is_aligned}
use Rattle.registers.specs.Registers.{is_paged, asid_of}
use Rattle.stages.specs.Stages.{World}
use Rattle.translator.specs.declared.grants.Grant.{Grant}
use Rattle.translator.specs.declared.fences.Fence.{Fence}
use Rattle.translator.specs.Grants.{matches, allows, serves, first_of, consults, answering}
use Rattle.translator.specs.Truth.{True}
use Rattle.translator.specs.Fences.{covers, covers_grant}
use Rattle.translator.proofs.Truths.{true_paged, true_asid, true_global, true_gives}
use Rattle.calls.specs.declared.Call.{Call}
use Rattle.history.specs.Moments.{Moment}
use Rattle.history.specs.Settled.{global_at, Covers, Bears, Gives, CoveredFrom}
use Rattle.history.specs.Vocabulary.{OfAsid}
use Rattle.history.proofs.Covering.{covers_exactly}

module _ (at : ℕ → Moment) (cs : List Call) where
  -- the grant is true at a moment before k, with no covering fence since
  pub record Known (k : ℕ) (g : Grant) : Type 0 where
    pub origin : ℕ
    pub earlier : origin < k
    pub true_then : True (at origin).world g
    pub uncovered : CoveredFrom at cs g.page origin k → ⊥

  -- a call that does not cover adds no covering fence
  pub uncovered_on : (page i k : ℕ) (c : Call) → slice_get cs k ≡ Some c → (CoveredFrom at cs page i k → ⊥) → (Covers (at k) c page (at i) → ⊥)
      → CoveredFrom at cs page i (suc k) → ⊥
  uncovered_on page i k c e before here v =
      elim (cases_lt v.0 k) [
        | inl l ↦ before (v.0, v.1, v.2, l, v.4, v.5)
        | inr l ↦
            let b = v.3 in
            let j : v.0 ≡ k = omega arith in
            let f : slice_get cs k ≡ Some v.1 = subst (λ n. slice_get cs n ≡ Some v.1) j v.4 in
            let d : v.1 ≡ c = cc in
            here (subst (λ y. Covers (at k) y page (at i)) d (subst (λ n. Covers (at n) v.1 page (at i)) j v.5))
      ]

  -- a grant that is true at a moment up to k, and that call k does not cover, is known after it
  pub known_on : (k : ℕ) (c : Call) (g : Grant) (i : ℕ) → slice_get cs k ≡ Some c → i ≤ k → True (at i).world g → (CoveredFrom at cs g.page i k → ⊥)
      → (Covers (at k) c g.page (at i) → ⊥) → Known (suc k) g
  known_on k c g i e l t before here =
      record { origin = i; earlier = omega arith; true_then = t; uncovered = uncovered_on g.page i k c e before here }

  -- no call lies between a moment and itself
  pub uncovered_now : (page k : ℕ) → CoveredFrom at cs page k k → ⊥
  uncovered_now page k v = let a = v.2 in let b = v.3 in omega arith

-- a fence that covers the page as it was where a grant was true covers the grant
pub covers_grant_lem : (f : Fence) (o : Moment) (g : Grant) → True o.world g → covers f (asid_of o.world.guest) g.page (global_at o g.page) ≡ true
    → covers_grant f g ≡ true
covers_grant_lem f o g t e =
    let of = (covers_exactly f (asid_of o.world.guest) g.page (global_at o g.page)).0 e in
    (covers_exactly f g.asid g.page g.global).1 (of.0, of_grant of.1)
  where
    -- a grant is not global where the walk is not
    not_global : global_at o g.page ≡ false → g.global ≡ false
    not_global n = ⊎_elim (λ h. absurd (both_ways _ n (true_global o.world g t h))) (λ h. h) (cases_Bool g.global)

    of_grant : OfAsid f (asid_of o.world.guest) (global_at o g.page) → OfAsid f g.asid g.global
    of_grant (inl all) = inl all
    of_grant (inr h) = inr (h.0 ∙ ap Some (sym (true_asid o.world g t)), not_global h.1)

-- the first item that passes a test passes it, and what holds of all items holds of it
first_of_lem : {X : Type 0} (test : X → Bool) (P : X → Type 0) (xs : List X) (x : X) → AllByRecursion P xs → first_of test xs ≡ Some x → P x × (test x ≡ true)
unfolding first_of
first_of_lem test P [] x all e = absurd cc
first_of_lem test P (y ∷ ys) x all e = on (test y) refl (first_of_lem test P ys x all.1)
  where
    on : (b : Bool) → test y ≡ b → (first_of test ys ≡ Some x → P x × (test x ≡ true)) → P x × (test x ≡ true)
    on true q later = let j = rw q at e in let i : y ≡ x = cc in (subst P i all.0, subst (λ z. test z ≡ true) i q)
    on false q later = later (rw q at e)

-- what it means that a grant answers an access
pub record Answering (w : World) (a : Access) (g : Grant) : Type 0 where
  pub aligned : is_aligned a ≡ true
  pub paged : is_paged w.guest ≡ true
  pub page : g.page ≡ page_of a
  pub under : (g.global ≡ true) ⊎ (g.asid ≡ asid_of w.guest)
  pub allowed : allows a g ≡ true

answering_by : (w : World) (a : Access) (g : Grant) → consults w a ≡ true → serves (asid_of w.guest) a g ≡ true → Answering w a g
answering_by w a g e s =
    let c = and_parts (is_aligned a) (is_paged w.guest) e in
    let p = and_parts (matches (asid_of w.guest) a g) (allows a g) s in
    let q = and_parts (eqb g.page (page_of a)) (g.global || eqb g.asid (asid_of w.guest)) p.0 in
    record {
      aligned = c.0;
      paged = c.1;
      page = eqb-true _ _ q.0;
      under = ⊎_elim (λ y. inl y) (λ y. inr (eqb-true _ _ y)) (or_cases g.global (eqb g.asid (asid_of w.guest)) q.1);
      allowed = p.1;
    }

-- the grant that answers is one of the book
pub answering_is : (w : World) (a : Access) (P : Grant → Type 0) (book : List Grant) (g : Grant) → AllByRecursion P book → answering w a book ≡ Some g → P g × Answering w a g
answering_is w a P book g all e = on (consults w a) refl
  where
    on : (b : Bool) → consults w a ≡ b → P g × Answering w a g
    on true q =
        let f : first_of (serves (asid_of w.guest) a) book ≡ Some g = rw q at e in
        let r = first_of_lem (serves (asid_of w.guest) a) P book g all f in
        (r.0, answering_by w a g q r.1)
    on false q = let f : None ≡ Some g = rw q at e in absurd cc

-- a moment where an answering grant was true bears on the access
pub answering_bears : (o m : Moment) (a : Access) (g : Grant) → True o.world g → Answering m.world a g → Bears o m a
answering_bears o m a g t s =
    record {
      before = true_paged o.world g t;
      now = s.paged;
      shared =
          ⊎_elim (λ y. inr (subst (λ p. global_at o p ≡ true) s.page (true_global o.world g t y))) (λ y. inl (sym (true_asid o.world g t) ∙ y)) s.under;
    }

-- and gives it the grant's frame
pub answering_gives : (o m : Moment) (a : Access) (g : Grant) → True o.world g → Answering m.world a g → Gives o a g.frame
answering_gives o m a g t s = true_gives o.world g a t s.aligned s.page s.allowed
