-- The fields of a line.
use Rattle.std.specs.Prelude.{◌≡◌, ℕ, ◌+◌, ◌≤◌, List, ◌∷◌, ◌++◌, length, take, drop, Some, None, Option}
use Rattle.fields.specs.declared.tags.Tag.{Tag}
use Rattle.trace.specs.declared.marks.Mark.TheVariants.{Stop}
use Rattle.fields.specs.declared.steps.Field.{Field}
use Rattle.fields.specs.declared.steps.Step.{Step}
use Rattle.trace.specs.Marks.{Is, Lacks}
use Rattle.fields.specs.Keys.{key_text}
use Rattle.fields.specs.Endings.{byte_of}

-- xs begins with a field: its key, '=', its value, and a stop t; r follows
pub record FieldIn (k : Tag) (v : List ℕ) (t : ℕ) (r xs : List ℕ) : Type 0 where
  pub text : xs ≡ key_text k ++ (61 ∷ (v ++ (t ∷ r)))
  pub plain : Lacks Stop v
  pub stops : Is Stop t

-- the field f begins at `at`, its value stands at its place, and `on` is where the next field begins
pub record Handed (line : List ℕ) (at : ℕ) (f : Field) (on stop : ℕ) : Type 0 where
  pub here : FieldIn f.tag f.value.now stop (drop on line) (drop at line)
  pub place : f.value.now ≡ take (length f.value.now) (drop f.place line)
  pub steps : on ≡ f.place + length f.value.now + 1
  pub inside : on ≤ length line

-- what reading the field at `at` answers: the field, or that none begins there
abbrev pub ReadsField : List ℕ → ℕ → Option Step → Type 0
ReadsField line at (Some s) = Handed line at s.field s.next (byte_of s.stop)
ReadsField line at None = (k : Tag) (v : List ℕ) (t : ℕ) (r : List ℕ) → FieldIn k v t r (drop at line) → ⊥
