-- What holds of every walk.
use Rattle.std.specs.Prelude.{◌≡◌, ℕ, suc, ◌≤◌, length, Result}
use Rattle.std.specs.List.{AllByRecursion}
use Rattle.table.specs.Walk.{walk_of, words_of}

-- sources that agree on the words that a walk reads give the same walk
abbrev pub ReadsDecide : Type 0 → Type 0
ReadsDecide F =
    (r s : ℕ → Result ℕ F) (top wide root p : ℕ) → AllByRecursion (λ i. r i ≡ s i) (words_of r top wide root p)
    → walk_of r top wide root p ≡ walk_of s top wide root p

-- a walk reads at most one word of each level
abbrev pub OneWordALevel : Type 0 → Type 0
OneWordALevel F = (r : ℕ → Result ℕ F) (top wide root p : ℕ) → length (words_of r top wide root p) ≤ suc top
