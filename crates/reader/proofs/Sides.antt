-- A line and the call of one side that it is the text of.
use Rattle.std.specs.Bool.{IsTrue, then_some}
use Rattle.std.proofs.Common.{◌≡◌, ◌↔◌, ℕ, Bool, true, false, List, [], ◌∷◌, length, get_or, Some, None, sym, refl, ap, ◌∙◌, subst, arith, rules}
use Rattle.trace.specs.declared.marks.Mark.TheVariants.{Stop}
use Rattle.fields.specs.declared.tags.Tag.TheVariants.{Op}
use Rattle.trace.specs.Marks.{Lacks}
use Rattle.fields.specs.Items.{Item, more_text, EndsValue}
use Rattle.values.specs.Reads.{ReadsBy}
use Rattle.operands.specs.Reads.{Takes, TakesRest, Spelled}
use Rattle.reader.specs.Texts.{side_text, side_parts}
use Rattle.fields.proofs.Items.{lf, whole_line, field_once, fields_once, ends_more}

-- a text of one byte is that byte
one_byte : (v : List ℕ) → length v ≡ 1 → v ≡ get_or v 0 0 ∷ []
one_byte (b ∷ []) e = refl
one_byte [] e = absurd (omega (arith, e))
one_byte (b ∷ c ∷ v) e = absurd (omega (arith, e))

module _ {C : Type 0} (letter : C → List ℕ) (rest : C → List Item) (spelled : Spelled letter rest) where
  -- after a letter and before the end of a line
  module _ (b : ℕ) (left on : List ℕ) where
    -- no call with this letter is next
    pub no_rest : TakesRest letter rest b left None on → (c : C) → (b ∷ [], left) ≡ side_parts letter rest c → ⊥
    no_rest none c e = none.0 c (10 ∷ []) (sym (ap (λ p. p.0) e)) lf (ap (λ p. p.1) e)

    module _ (d : C) (read : TakesRest letter rest b left (Some d) on) where
      -- one is, up to the end of the line
      whole : on ≡ 10 ∷ [] → (b ∷ [], left) ≡ side_parts letter rest d
      whole e = let l = read.0 in let r = read.1 in cc

      -- one is, and the line goes on
      goes_on : (on ≡ 10 ∷ [] → ⊥) → (c : C) → (b ∷ [], left) ≡ side_parts letter rest c → ⊥
      goes_on more c e =
          let l : b ∷ [] ≡ letter c = ap (λ p. p.0) e in
          let r : left ≡ more_text (rest c) (10 ∷ []) = ap (λ p. p.1) e in
          let ends = read.2 (subst EndsValue (sym r) (ends_more (rest c) (10 ∷ []) lf)) in
          more (fields_once (rest d) (rest c) on (10 ∷ []) (spelled.even d c (read.0 ∙ l)) (spelled.plain d).1 (spelled.plain c).1 ends lf (sym read.1 ∙ r)).1

      -- so what the end of the line decides is the answer
      pub ended : (done : Bool) → (IsTrue done ↔ on ≡ 10 ∷ []) → ReadsBy (side_parts letter rest) (b ∷ [], left) (then_some done d)
      ended true h = whole (h.0 refl)
      ended false h = goes_on (λ e. let z : ◌≡◌ {A = Bool} false true = h.1 e in search rules)

  module _ (line : List ℕ) where
    -- the text of a call, by its letter
    parts : (c : C) → line ≡ side_text letter rest c → 32 ∷ line ≡ more_text ((Op, letter c) ∷ []) (more_text (rest c) (10 ∷ []))
    parts c e = ap (λ l. 32 ∷ l) e ∙ sym (whole_line (Op, letter c) (rest c))

    -- no letter is next
    pub no_letter : (on : List ℕ) → Takes (λ b. (Op, b ∷ []) ∷ []) (32 ∷ line) None on → (c : C) → line ≡ side_text letter rest c → ⊥
    no_letter on none c e =
        let after = more_text (rest c) (10 ∷ []) in
        let one = one_byte (letter c) (spelled.one c) in
        none.0 (get_or (letter c) 0 0) after (subst (Lacks Stop) one (spelled.plain c).0, tt) (ends_more (rest c) (10 ∷ []) lf)
        (parts c e ∙ ap (λ v. more_text ((Op, v) ∷ []) after) one)

    -- one is, and the call after it is that of the line
    module _ (b : ℕ) (on : List ℕ) (first : Takes (λ b. (Op, b ∷ []) ∷ []) (32 ∷ line) (Some b) on) (c : C) where
      pub split : line ≡ side_text letter rest c → (b ∷ [], on) ≡ side_parts letter rest c
      split e =
          let after = more_text (rest c) (10 ∷ []) in
          let o = field_once (Op, b ∷ []) (Op, letter c) on after first.1.0 (spelled.plain c).0 first.2 (ends_more (rest c) (10 ∷ []) lf)
          (sym first.0 ∙ parts c e) in
          let l : b ∷ [] ≡ letter c = ap (λ (i : Item). i.1) o.0 in
          let r = o.1 in
          cc

      pub joined : (b ∷ [], on) ≡ side_parts letter rest c → line ≡ side_text letter rest c
      joined e =
          let w : 32 ∷ line ≡ 32 ∷ side_text letter rest c =
          first.0 ∙ ap (λ (p : List ℕ × List ℕ). more_text ((Op, p.0) ∷ []) p.1) e ∙ whole_line (Op, letter c) (rest c) in
          cc
