-- What reading the next fields of a line answers, said by how they are written.
use Rattle.std.specs.Prelude.{◌≡◌, ℕ, List, [], ◌∷◌, length, Some, None, Option, ◌≢◌}
use Rattle.fields.specs.declared.tags.Tag.TheVariants.{Op}
use Rattle.fields.specs.Items.{Item, more_text, Plain, EndsValue}

-- what is left begins with a space or LF, where the text before it did
abbrev pub StillEnds : List ℕ → List ℕ → Type 0
StillEnds left on = EndsValue left → EndsValue on

-- that the next fields are none of these
abbrev pub Absent : {A : Type 0} → (A → List Item) → List ℕ → Type 0
Absent {A} items left = (a : A) (after : List ℕ) → Plain (items a) → EndsValue after → left ≢ more_text (items a) after

-- a reader of the next fields of the text `left`: what writes these fields, before the text `on` that is then left, or that nothing writes the next ones
abbrev pub Takes : {A : Type 0} → (A → List Item) → List ℕ → Option A → List ℕ → Type 0
Takes items left (Some a) on = (left ≡ more_text (items a) on) × Plain (items a) × EndsValue on
Takes items left None on = Absent items left × StillEnds left on

-- a reader of the fields after a letter: the call of one side with this letter and these fields next, or that none has them
abbrev pub TakesRest : {C : Type 0} → (C → List ℕ) → (C → List Item) → ℕ → List ℕ → Option C → List ℕ → Type 0
TakesRest letter rest b left (Some c) on = (letter c ≡ b ∷ []) × (left ≡ more_text (rest c) on) × StillEnds left on
TakesRest {C} letter rest b left None on =
    ((c : C) (after : List ℕ) → letter c ≡ b ∷ [] → EndsValue after → left ≢ more_text (rest c) after) × StillEnds left on

-- how the calls of one side are spelled
pub record Spelled {C : Type 0} (letter : C → List ℕ) (rest : C → List Item) : Type 0 where
  -- a letter is one byte
  pub one : (c : C) → length (letter c) ≡ 1
  -- no field has a space or LF
  pub plain : (c : C) → Plain ((Op, letter c) ∷ rest c)
  -- calls with one letter have equally many fields
  pub even : (c d : C) → letter c ≡ letter d → length (rest c) ≡ length (rest d)
