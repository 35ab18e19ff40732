-- A line as a list of fields.
use Rattle.std.specs.Prelude.{ℕ, List, [], ◌∷◌, ◌++◌, slice_index_or}
use Rattle.std.specs.List.{AllByRecursion}
use Rattle.fields.specs.declared.tags.Tag.{Tag}
use Rattle.trace.specs.declared.marks.Mark.TheVariants.{Stop}
use Rattle.trace.specs.Marks.{Is, Lacks}
use Rattle.fields.specs.Keys.{key_text}

-- a tag with the value of its field
abbrev pub Item : Type 0
Item = Tag × List ℕ

-- a field, and what follows it
abbrev pub field_text : Item → List ℕ → List ℕ
field_text f after = key_text f.0 ++ (61 ∷ (f.1 ++ after))

-- fields with one space between, and LF at the end
abbrev pub line_text : List Item → List ℕ
line_text [] = []
line_text (f ∷ []) = field_text f (10 ∷ [])
line_text (f ∷ g ∷ fs) = field_text f (32 ∷ line_text (g ∷ fs))

-- fields with a space before each, and what follows them
abbrev pub more_text : List Item → List ℕ → List ℕ
more_text [] after = after
more_text (f ∷ fs) after = 32 ∷ field_text f (more_text fs after)

-- no value has a space or LF
abbrev pub Plain : List Item → Type 0
Plain fs = AllByRecursion (λ f. Lacks Stop f.1) fs

-- a text begins with a space or LF, so that a value before it ends there
abbrev pub EndsValue : List ℕ → Type 0
EndsValue text = Is Stop (slice_index_or text 0 0)
