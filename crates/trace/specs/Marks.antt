-- The bytes that end a part of a text, and what it is to cut a text at the first of them.
use Rattle.std.specs.Prelude.{◌≡◌, ℕ, ◌⊎◌, List, ◌∷◌, ◌++◌, Some, None, Option}
use Rattle.std.specs.List.{AllByRecursion}
use Rattle.trace.specs.declared.marks.Mark.{Mark}
use Rattle.trace.specs.declared.marks.Mark.TheVariants.{Equals, Stop, LineFeed}
use Rattle.trace.specs.declared.marks.Cut.{Cut}

-- a byte is such a mark: 61 is '=', 32 a space, 10 LF
abbrev pub Is : Mark → ℕ → Type 0
Is Equals b = b ≡ 61
Is Stop b = (b ≡ 32) ⊎ (b ≡ 10)
Is LineFeed b = b ≡ 10

-- a text has no such mark
abbrev pub Lacks : Mark → List ℕ → Type 0
Lacks m text = AllByRecursion (λ b. Is m b → ⊥) text

-- the text is a part with no mark, then the mark t, then the rest
pub record CutAs (m : Mark) (text part : List ℕ) (t : ℕ) (rest : List ℕ) : Type 0 where
  pub whole : text ≡ part ++ (t ∷ rest)
  pub plain : Lacks m part
  pub marked : Is m t

-- what a cut at the first mark answers
abbrev pub Cuts : Mark → List ℕ → Option Cut → Type 0
Cuts m text (Some c) = CutAs m text c.before.now c.mark c.after.now
Cuts m text None = Lacks m text
