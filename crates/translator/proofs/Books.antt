-- The first item of joined lists, and the grant of a book that answers.
use Rattle.std.proofs.Common.{◌≡◌, ℕ, Bool, true, false, cond, List, [], ◌∷◌, ◌++◌, Some, None, Option, refl, subst, arith}
use Rattle.std.specs.List.{ContainsAt as Has, AllByRecursion}
use Rattle.std.proofs.ByRecursion.{has_get_or, has_append_right}
use Rattle.std.proofs.lemmas.Bool.{and_parts}
use Rattle.access.specs.declared.accesses.Access.{Access}
use Rattle.access.specs.Accesses.{is_aligned}
use Rattle.registers.specs.Registers.{is_paged, asid_of}
use Rattle.stages.specs.Stages.{World}
use Rattle.translator.specs.declared.grants.Grant.{Grant}
use Rattle.translator.specs.Grants.{serves, first_of, consults, answering}

-- the one, or else the other
abbrev pub or_else : {X : Type 0} → Option X → Option X → Option X
or_else None b = b
or_else (Some x) b = Some x

module _ {X : Type 0} (p : X → Bool) where
  pub first_append : (xs ys : List X) → first_of p (xs ++ ys) ≡ or_else (first_of p xs) (first_of p ys)
  unfolding first_of
  first_append [] ys = refl
  first_append (x ∷ xs) ys = by_test (p x) (first_append xs ys)
    where
      by_test : (b : Bool) → first_of p (xs ++ ys) ≡ or_else (first_of p xs) (first_of p ys)
          → cond b (Some x) (first_of p (xs ++ ys)) ≡ or_else (cond b (Some x) (first_of p xs)) (first_of p ys)
      by_test true e = refl
      by_test false e = e

  pub first_none : (xs : List X) → AllByRecursion (λ x. p x ≡ false) xs → first_of p xs ≡ None
  unfolding first_of
  first_none [] h = refl
  first_none (x ∷ xs) h = rw h.0 (first_none xs h.1)

  pub first_has : (xs : List X) (x : X) → first_of p xs ≡ Some x → Has xs x
  unfolding first_of
  first_has [] x e = let z : ◌≡◌ {A = ℕ} 0 1 = cc in absurd (omega arith)
  first_has (y ∷ xs) x e = by_test (p y) e (first_has xs x)
    where
      by_test : (b : Bool) → cond b (Some y) (first_of p xs) ≡ Some x → (first_of p xs ≡ Some x → Has xs x) → Has (y ∷ xs) x
      by_test true q later = let same : y ≡ x = cc in subst (λ (z : X). Has (y ∷ xs) z) same (has_get_or (y ∷ xs) 0 y (omega arith))
      by_test false q later = has_append_right (y ∷ []) xs x (later q)

module _ (w : World) (a : Access) where
  by_consults : (b : Bool) (x y z : Option Grant) → x ≡ or_else y z → cond b x None ≡ or_else (cond b y None) (cond b z None)
  by_consults true x y z e = e
  by_consults false x y z e = refl

  -- the first book that answers does
  pub answering_append : (xs ys : List Grant) → answering w a (xs ++ ys) ≡ or_else (answering w a xs) (answering w a ys)
  answering_append xs ys = by_consults (consults w a) _ _ _ (first_append (serves (asid_of w.guest) a) xs ys)

  when_consulted : (b : Bool) (o : Option Grant) (g : Grant) → cond b o None ≡ Some g → (b ≡ true) × (o ≡ Some g)
  when_consulted true o g e = (refl, e)
  when_consulted false o g e = let z : ◌≡◌ {A = ℕ} 0 1 = cc in absurd (omega arith)

  pub answering_has : (book : List Grant) (g : Grant) → answering w a book ≡ Some g → Has book g
  answering_has book g e = first_has (serves (asid_of w.guest) a) book g (when_consulted (consults w a) _ g e).1

  -- a grant answers under an Sv39 guest root alone
  pub answering_paged : (book : List Grant) (g : Grant) → answering w a book ≡ Some g → is_paged w.guest ≡ true
  answering_paged book g e = (and_parts (is_aligned a) (is_paged w.guest) (when_consulted (consults w a) _ g e).0).1
