-- What is left after the first fields.
use Rattle.std.proofs.Common.{◌≡◌, ℕ, List, [], ◌∷◌, ◌++◌, length, Some, None, Option, sym, ap, ◌∙◌, refl, subst}
use Rattle.trace.specs.declared.marks.Mark.TheVariants.{Stop}
use Rattle.fields.specs.declared.tags.Tag.{Tag}
use Rattle.trace.specs.Marks.{Lacks}
use Rattle.fields.specs.Items.{Item, field_text, more_text, Plain, EndsValue}
use Rattle.values.specs.Reads.{ReadsBy}
use Rattle.operands.specs.Reads.{Takes, TakesRest, Spelled}
use Rattle.fields.proofs.Items.{ends_more, field_once, fields_once}

-- after the same fields, what is left is the rest
pub taken : {A : Type 0} (items : A → List Item) (a b : A) (on : List ℕ) {left : List ℕ} (after : List ℕ) → Takes items left (Some a) on
    → length (items a) ≡ length (items b) → Plain (items b) → EndsValue after → left ≡ more_text (items b) after → on ≡ after
taken items a b on after h n p s e = (fields_once (items a) (items b) on after n h.1 p h.2 s (sym h.0 ∙ e)).1

-- a value that is read, as what writes it
pub took : {V : Type 0} (text : V → List ℕ) (tag : Tag) (left v on : List ℕ) (r : Option V)
    → (left ≡ more_text ((tag, v) ∷ []) on) × Lacks Stop v × EndsValue on → ReadsBy text v r → Takes (λ a. (tag, text a) ∷ []) left r on
took text tag left v on (Some a) h e =
    (h.0 ∙ ap (λ l. more_text ((tag, l) ∷ []) on) e, (subst (Lacks Stop) e h.1, tt), h.2)
took text tag left v on None h none = (
  λ a after p s e.
      let same = (field_once (tag, v) (tag, text a) on after h.1 p.0 h.2 s (sym h.0 ∙ e)).0 in
      none a (ap (λ (i : Item). i.1) same),
  λ _. h.2,
)

-- the field of a value
abbrev pub one : {V : Type 0} → Tag → (V → List ℕ) → V → List Item
one tag text v = (tag, text v) ∷ []

-- the fields of a pair: those of the first, and then those of the second
abbrev pub both : {A B : Type 0} → (A → List Item) → (B → List Item) → A × B → List Item
both first second p = first p.0 ++ second p.1

more_both : (fs gs : List Item) (after : List ℕ) → more_text (fs ++ gs) after ≡ more_text fs (more_text gs after)
more_both [] gs after = refl
more_both (f ∷ fs) gs after = ap (λ l. 32 ∷ field_text f l) (more_both fs gs after)

plain_both : (fs gs : List Item) → Plain (fs ++ gs) → Plain fs × Plain gs
plain_both [] gs p = (tt, p)
plain_both (f ∷ fs) gs p = let r = plain_both fs gs p.1 in ((p.0, r.0), r.1)

module _ {A B : Type 0} (first : A → List Item) (second : B → List Item) {left : List ℕ} where
  -- where the first is not next, the two are not
  pub no_first : (on : List ℕ) → Takes first left None on → Takes (both first second) left None on
  no_first on none = (
    λ p after q s e.
        let w = plain_both (first p.0) (second p.1) q in
        none.0 p.0 (more_text (second p.1) after) w.0 (ends_more (second p.1) after s) (e ∙ more_both (first p.0) (second p.1) after),
    none.1,
  )

  -- nor are they where the second does not follow the first
  pub no_second : (a : A) (rest on : List ℕ) → ((b : A) → length (first a) ≡ length (first b)) → Takes first left (Some a) rest
      → Takes second rest None on → Takes (both first second) left None on
  no_second a rest on n h none = (
    λ p after q s e.
        let w = plain_both (first p.0) (second p.1) q in
        let more = more_text (second p.1) after in
        none.0 p.1 after w.1 s (taken first a p.0 rest more h (n p.0) w.0 (ends_more (second p.1) after s) (e ∙ more_both (first p.0) (second p.1) after)),
    λ _. none.1 h.2,
  )

-- where the fields that follow a letter are not next, no call with this letter is
module _ {C : Type 0} (letter : C → List ℕ) (rest : C → List Item) (spelled : Spelled letter rest) (Shape : List ℕ → C → Type 0) (shape : (c : C) → Shape (letter c) c) where
  pub no_call : {A : Type 0} (make : A → C) {b n : ℕ} {left : List ℕ} (on : List ℕ) → b ≡ n → ((c : C) → Shape (n ∷ []) c → (a : A) × (c ≡ make a))
      → Takes (λ a. rest (make a)) left None on → TakesRest letter rest b left None on
  no_call make on is made none = (
    λ c after l s e.
        let h = made c (subst (λ v. Shape v c) (l ∙ ap (λ x. x ∷ []) is) (shape c)) in
        none.0 h.0 after (subst (λ d. Plain (rest d)) h.1 (spelled.plain c).1) s (e ∙ ap (λ d. more_text (rest d) after) h.1),
    none.1,
  )
