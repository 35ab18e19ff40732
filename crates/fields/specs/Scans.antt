-- Finding the fields of a line, and what it answers.
use Rattle.std.specs.Prelude.{◌≡◌, ℕ, ◌+◌, ◌<◌, ◌≤◌, List, ◌∷◌, map, length, take, drop, Some, None, Option, ◌≢◌}
use Rattle.std.specs.List.{AllByRecursion}
use Rattle.fields.specs.declared.steps.Field.{Field}
use Rattle.fields.specs.Items.{Item, line_text, Plain}

-- a field's tag with its value
abbrev pub item_of : Field → Item
item_of f = (f.tag, f.value.now)

-- those of some fields
abbrev pub items : List Field → List Item
items fs = map item_of fs

-- a field's value is the bytes of the line at its place, and lies in the line
pub record Stands (line : List ℕ) (f : Field) : Type 0 where
  pub here : f.value.now ≡ take (length f.value.now) (drop f.place line)
  pub inside : f.place + length f.value.now ≤ length line

-- n fields were found: they are the fields of the text from `at` on
pub record Scanned (line : List ℕ) (at : ℕ) (fs : List Field) (n : ℕ) : Type 0 where
  pub some : 1 ≤ n
  pub within : n ≤ length fs
  pub text : drop at line ≡ line_text (items (take n fs))
  pub plain : Plain (items (take n fs))
  pub stand : AllByRecursion (Stands line) (take n fs)

-- what a scan into room for m fields answers; at None the text is that of no list of 1 to m fields
abbrev pub Scans : List ℕ → ℕ → ℕ → List Field → Option ℕ → Type 0
Scans line at m found (Some n) = Scanned line at found n
Scans line at m found None = (f : Item) (fs : List Item) → length fs < m → Plain (f ∷ fs) → drop at line ≢ line_text (f ∷ fs)
