-- Membership in the book, and the grant of the book that answers an access.
use Rattle.std.specs.Prelude.{◌≡◌, ℕ, zero, suc, ◌+◌, ◌/◌, ◌%◌, ◌^◌, ◌<◌, Bool, true, false, cond, ◌||◌, ◌⊎◌, List, [], ◌∷◌, Some, None, Option, ◌==◌, nat_lt}
use Rattle.std.proofs.Math.Path.{refl, ap}
use Rattle.std.proofs.Common.{sym, subst, ◌∙◌, arith}
use Rattle.std.proofs.Math.Logic.{inl, inr}
use Rattle.std.specs.List.{ContainsAt as Has, AllByRecursion}
use Rattle.std.proofs.ByRecursion.{All-append, all-has, has_append_left, has_append_right}
use Rattle.std.proofs.lemmas.Bool.{cases_eq, cases_Bool, cond-true, cond-false, lt-ltb, le-ltb, ltb-true, false_from_ne_true, eqb-true, eq-eqb, and_parts, and_from, or_cases, both_ways}
use Rattle.std.proofs.lemmas.Option.{none-some}
use Rattle.entry.specs.declared.entries.Entry.{Entry}
use Rattle.access.specs.declared.accesses.Access.{Access}
use Rattle.access.specs.Accesses.{page_of}
use Rattle.registers.specs.Registers.{asid_of}
use Rattle.stages.specs.Stages.{World, is_canonical}
use Rattle.translator.specs.declared.grants.Grant.{Grant}
use Rattle.translator.specs.Grants.{matches, allows, serves, first_of, consults, answering}
use Rattle.translator.proofs.Books.{first_none}
use Rattle.layout.specs.Finds.{found}
use Rattle.layout.proofs.Found.{found_not}
use Rattle.leaves.specs.Leaves.{grant_of, as_grant}
use Rattle.leaves.specs.Lookups.{grant_at, allowing, hit}
use Rattle.shadow.specs.Book.{up_to, page_number, listed, under, book_of, BookIsFound}

module _ {X : Type 0} where
  up_to_all : (P : X → Type 0) (f : ℕ → List X) (n : ℕ) → ((i : ℕ) → i < n → AllByRecursion P (f i)) → AllByRecursion P (up_to f n)
  unfolding up_to
  up_to_all P f zero h = tt
  up_to_all P f (suc n) h = All-append P (up_to f n) (f n) (up_to_all P f n (λ i l. h i (omega arith))) (h n (omega arith))

  up_to_has : (f : ℕ → List X) (n i : ℕ) (x : X) → i < n → Has (f i) x → Has (up_to f n) x
  unfolding up_to
  up_to_has f zero i x l h = absurd (omega arith)
  up_to_has f (suc n) i x l h =
      elim (cases_eq i n) [
        | inl e ↦ has_append_right (up_to f n) (f n) x (subst (λ (j : ℕ). Has (f j) x) e h)
        | inr e ↦ has_append_left (up_to f n) (f n) x (up_to_has f n i x (omega arith) h)
      ]

  pub up_to_none : (f : ℕ → List X) (n : ℕ) → ((i : ℕ) → i < n → f i ≡ []) → up_to f n ≡ []
  unfolding up_to
  up_to_none f zero h = refl
  up_to_none f (suc n) h = rw (up_to_none f n (λ i l. h i (omega arith)), h n (omega arith)) refl

-- a canonical page is one of those that are counted
page_at : (page : ℕ) → is_canonical page ≡ true → page_number (page % 134217728) ≡ page
page_at page c =
    let n = page % 134217728 in
    let top = page / 67108864 in
    elim (or_cases (top == 0) (top == 67108863) c) [
      | inl x ↦
          let low : top ≡ 0 = eqb-true top 0 x in
          cond-true (nat_lt n 67108864) n (n + 4503599493152768) (lt-ltb n 67108864 (omega arith)) ∙ omega arith
      | inr x ↦
          let high : top ≡ 67108863 = eqb-true top 67108863 x in
          cond-false (nat_lt n 67108864) n (n + 4503599493152768) (le-ltb n 67108864 (omega arith)) ∙ omega arith
    ]

-- what a grant that the pool holds says of itself
pub record Held (a q : ℕ) (g : Grant) : Type 0 where
  pub few : a < 16
  pub canonical : is_canonical q ≡ true
  pub asid : g.asid ≡ a
  pub page : g.page ≡ q
  pub global : g.global ≡ false

as_grant_lem : (a p : ℕ) (g : Grant) (o : Option Entry) → as_grant a p o ≡ Some g → (g.asid ≡ a) × (g.page ≡ p) × (g.global ≡ false)
as_grant_lem a p g None e = absurd (none-some g e)
as_grant_lem a p g (Some x) e =
    let y : grant_of a p x ≡ g = cc in
    (sym (ap (λ z. z.asid) y), sym (ap (λ z. z.page) y), sym (ap (λ z. z.global) y))

pub held : (pool : List ℕ) (a page : ℕ) (g : Grant) → grant_at pool a page ≡ Some g → Held a page g
held pool a page g e =
    elim (cases_Bool (nat_lt a 16)) [
      | inr n ↦ absurd (none-some g (sym (cond-false (nat_lt a 16) (as_grant a page (found pool a page)) None n) ∙ e))
      | inl l ↦
          let f = sym (cond-true (nat_lt a 16) (as_grant a page (found pool a page)) None l) ∙ e in
          elim (cases_Bool (is_canonical page)) [
            | inr n ↦ absurd (none-some g (sym (ap (as_grant a page) (found_not pool a page n)) ∙ f))
            | inl c ↦
                let x = as_grant_lem a page g (found pool a page) f in
                record { few = ltb-true a 16 l; canonical = c; asid = x.0; page = x.1; global = x.2 }
          ]
    ]

listed_all : (P : Grant → Type 0) (o : Option Grant) → ((g : Grant) → o ≡ Some g → P g) → AllByRecursion P (listed o)
listed_all P None h = tt
listed_all P (Some g) h = (h g refl, tt)

-- what holds of every grant that the pool holds, holds of the book
pub book_all : (pool : List ℕ) (P : Grant → Type 0) → ((a page : ℕ) (g : Grant) → grant_at pool a page ≡ Some g → P g) → AllByRecursion P (book_of pool)
unfolding book_of under
book_all pool P h =
    up_to_all P (under pool) 16
    (λ a l. up_to_all P (λ n. listed (grant_at pool a (page_number n))) (2 ^ 27) (λ n k. listed_all P (grant_at pool a (page_number n)) (h a (page_number n))))

pub book_has : (pool : List ℕ) (a page : ℕ) (g : Grant) → grant_at pool a page ≡ Some g → Has (book_of pool) g
unfolding book_of under
book_has pool a page g e =
    let h = held pool a page g e in
    let q = page_at page h.canonical in
    let here : Has (listed (grant_at pool a (page_number (page % 134217728)))) g = rw (q, e) (0, (omega arith), (λ d. refl)) in
    up_to_has (under pool) 16 a g h.few (up_to_has (λ n. listed (grant_at pool a (page_number n))) (2 ^ 27) (page % 134217728) g (omega arith) here)

-- the grant at its own page and ASID
own : (pool : List ℕ) (a page : ℕ) (g : Grant) → grant_at pool a page ≡ Some g → grant_at pool g.asid g.page ≡ Some g
own pool a page g e =
    let h = held pool a page g e in
    subst (λ (b : ℕ). grant_at pool b g.page ≡ Some g) (sym h.asid) (subst (λ (q : ℕ). grant_at pool a q ≡ Some g) (sym h.page) e)

pub booked : BookIsFound
booked pool g = (
  all-has (λ x. grant_at pool x.asid x.page ≡ Some x) (book_of pool) g (book_all pool (λ x. grant_at pool x.asid x.page ≡ Some x) (own pool)),
  book_has pool g.asid g.page g,
)

module _ {X : Type 0} (test : X → Bool) where
  first_from : (g : X) (xs : List X) → AllByRecursion (λ x. test x ≡ true → x ≡ g) xs → (first_of test xs ≡ Some g) ⊎ AllByRecursion (λ x. test x ≡ false) xs
  unfolding first_of
  first_from g [] a = inr tt
  first_from g (x ∷ xs) a =
      elim (cases_Bool (test x)) [
        | inl e ↦ inl (cond-true (test x) (Some x) (first_of test xs) e ∙ ap (λ y. Some y) (a.0 e))
        | inr e ↦ elim (first_from g xs a.1) [ inl y ↦ inl (cond-false (test x) (Some x) (first_of test xs) e ∙ y) | inr y ↦ inr (e, y) ]
      ]

  -- the one item that passes is the first
  first_some : (g : X) (xs : List X) → test g ≡ true → Has xs g → AllByRecursion (λ x. test x ≡ true → x ≡ g) xs → first_of test xs ≡ Some g
  first_some g xs t h a =
      elim (first_from g xs a) [ inl e ↦ e | inr e ↦ absurd (both_ways (test g) (all-has (λ x. test x ≡ false) xs g e h) t) ]

module _ (pool : List ℕ) (asid : ℕ) (a : Access) where
  -- a grant of the book that serves the access is the one at its page and ASID
  served : (b page : ℕ) (x : Grant) → grant_at pool b page ≡ Some x → serves asid a x ≡ true → (grant_at pool asid (page_of a) ≡ Some x) × (allows a x ≡ true)
  served b page x e s =
      let h = held pool b page x e in
      let p = and_parts (matches asid a x) (allows a x) s in
      let m = and_parts (x.page == page_of a) (x.global || x.asid == asid) p.0 in
      let i : x.asid ≡ asid = elim (or_cases x.global (x.asid == asid) m.1) [
        | inl g ↦ absurd (both_ways x.global h.global g)
        | inr g ↦ eqb-true x.asid asid g
      ] in
      let at : grant_at pool x.asid (page_of a) ≡ Some x = subst (λ (q : ℕ). grant_at pool x.asid q ≡ Some x) (eqb-true x.page (page_of a) m.0) (own pool b page x e) in
      (subst (λ (n : ℕ). grant_at pool n (page_of a) ≡ Some x) i at, p.1)

  serves_own : (g : Grant) → grant_at pool asid (page_of a) ≡ Some g → allows a g ≡ true → serves asid a g ≡ true
  serves_own g e al =
      let h = held pool asid (page_of a) g e in
      and_from (matches asid a g) (allows a g)
      (and_from (g.page == page_of a) (g.global || g.asid == asid) (eq-eqb g.page (page_of a) h.page)
      (rw h.global (eq-eqb g.asid asid h.asid)))
      al

  first_hit : (o : Option Grant) → grant_at pool asid (page_of a) ≡ o → first_of (serves asid a) (book_of pool) ≡ allowing a o
  first_hit None e =
      first_none (serves asid a) (book_of pool)
      (book_all pool (λ x. serves asid a x ≡ false) (λ b page x h. false_from_ne_true (serves asid a x) (λ s. none-some x (sym e ∙ (served b page x h s).0))))
  first_hit (Some g) e =
      elim (cases_Bool (allows a g)) [
        | inl al ↦
            first_some (serves asid a) g (book_of pool) (serves_own g e al) (book_has pool asid (page_of a) g e)
            (book_all pool (λ x. serves asid a x ≡ true → x ≡ g) (λ b page x h s. let q = sym (served b page x h s).0 ∙ e in cc))
            ∙ sym (cond-true (allows a g) (Some g) None al)
        | inr al ↦
            first_none (serves asid a) (book_of pool)
            (book_all pool (λ x. serves asid a x ≡ false)
            (λ b page x h. false_from_ne_true (serves asid a x)
            (λ s. let v = served b page x h s in let q : x ≡ g = (let z = sym v.0 ∙ e in cc) in both_ways (allows a g) al (subst (λ (y : Grant). allows a y ≡ true) q v.1))))
            ∙ sym (cond-false (allows a g) (Some g) None al)
      ]

-- the grant of the book that answers is the one that the pool answers with
pub answering_hit : (pool : List ℕ) (w : World) (a : Access) → answering w a (book_of pool) ≡ hit pool w.guest a
answering_hit pool w a =
    ap (λ (o : Option Grant). cond (consults w a) o None) (first_hit pool (asid_of w.guest) a (grant_at pool (asid_of w.guest) (page_of a)) refl)
