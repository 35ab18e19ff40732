-- A cursor over the fields of a line.
use Rattle.std.specs.Prelude.{◌≡◌, ℕ, List, [], ◌∷◌, drop, Some, None, Option, ◌≢◌}
use Rattle.std.specs.Borrow.{Bor}
use Rattle.trace.specs.declared.marks.Mark.TheVariants.{Stop}
use Rattle.fields.specs.declared.tags.Tag.{Tag}
use Rattle.fields.specs.declared.steps.Field.{Field}
use Rattle.fields.specs.declared.cursors.Fields.{Fields}
use Rattle.trace.specs.Marks.{Lacks}
use Rattle.fields.specs.Items.{more_text, EndsValue}
use Rattle.fields.specs.Fields.{FieldIn, Handed}

-- what a cursor at `at` answers, and where it then stands; at None no field begins there, and it stands as it did
abbrev pub Next : List ℕ → ℕ → ℕ → Option Field → ℕ → ℕ → Type 0
Next line at was (Some f) on stop = Handed line at f on stop
Next line at was None on stop = ((k : Tag) (v : List ℕ) (t : ℕ) (r : List ℕ) → FieldIn k v t r (drop at line) → ⊥) × (on ≡ at) × (stop ≡ was)

-- what the next of the fields is, and how the cursor then stands in its line
abbrev pub NextField : Fields → Option Field → Fields → Type 0
NextField f r g = (g.line.now ≡ f.line.now) × Next f.line.now f.at f.stop r g.at g.stop

-- what is left to read: what ended the last value, and the rest of the line
abbrev pub left_of : Fields → List ℕ
left_of f = f.stop ∷ drop f.at f.line.now

-- reading the value of the next field of the text `left` leaves `on`, which begins with what ended the value; at None no field with this tag is next, and all is left
abbrev pub TakesValue : Tag → List ℕ → Option (Bor (List ℕ)) → List ℕ → Type 0
TakesValue tag left (Some v) on = (left ≡ more_text ((tag, v.now) ∷ []) on) × Lacks Stop v.now × EndsValue on
TakesValue tag left None on =
    ((v after : List ℕ) → Lacks Stop v → EndsValue after → left ≢ more_text ((tag, v) ∷ []) after) × (on ≡ left)
