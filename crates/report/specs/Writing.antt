-- What writing a text does to the bytes that are lent.
use Rattle.std.specs.Prelude.{◌≡◌, ℕ, ◌+◌, ◌<◌, ◌≤◌, List, ◌++◌, length, take, drop, Some, None, Option}

-- `text` went into `was` at `at`, which makes `is`: it ends at `end`, and the bytes before and after it are as they were
pub record Wrote (was : List ℕ) (at : ℕ) (text is : List ℕ) (end : ℕ) : Type 0 where
  pub ends : end ≡ at + length text
  pub front : take end is ≡ take at was ++ text
  pub rest : drop end is ≡ drop end was

-- what a writer of a line answers: where it ends, at most 128 bytes on, or that less room is left, and nothing was written
abbrev pub PutsLine : List ℕ → ℕ → List ℕ → List ℕ → Option ℕ → Type 0
PutsLine was at text is (Some end) = (at + 128 ≤ length was) × (end ≤ at + 128) × Wrote was at text is end
PutsLine was at text is None = (length was < at + 128) × (is ≡ was)
