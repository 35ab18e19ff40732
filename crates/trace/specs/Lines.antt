-- The lines of a text: each with its LF, where a last line without LF is a line, and nothing after the last LF is none.
use Rattle.std.specs.Prelude.{◌≡◌, ℕ, ◌<◌, cond, List, [], ◌∷◌, ◌++◌, length, Some, None, Option, ◌==◌}
use Rattle.std.specs.Borrow.{Bor}
use Rattle.std.specs.List.{flat_map}
use Rattle.trace.specs.declared.lines.Lines.{Lines}

-- a byte before the first of some lines
abbrev pub on_first : ℕ → List (List ℕ) → List (List ℕ)
on_first b [] = (b ∷ []) ∷ []
on_first b (l ∷ ls) = (b ∷ l) ∷ ls

-- LF, which is 10, is a line by itself before the lines that follow; any other byte goes into the first of them
unfoldable pub lines_of : List ℕ → List (List ℕ)
lines_of [] = []
lines_of (b ∷ bs) = cond (b == 10) ((b ∷ []) ∷ lines_of bs) (on_first b (lines_of bs))

-- the lines that are left to hand out
abbrev pub lines_left : Lines → List (List ℕ)
lines_left l = lines_of l.rest.now

-- what cutting off the first line answers: the line and the rest, or that there is no text
abbrev pub CutsLine : List ℕ → Option (Bor (List ℕ) × Bor (List ℕ)) → Type 0
CutsLine text (Some p) = (lines_of text ≡ p.0.now ∷ lines_of p.1.now) × (text ≡ p.0.now ++ p.1.now) × (0 < length p.0.now)
CutsLine text None = text ≡ []

-- the lines of a text, joined, are the text
abbrev pub LinesJoin : Type 0
LinesJoin = (text : List ℕ) → flat_map (λ l. l) (lines_of text) ≡ text
