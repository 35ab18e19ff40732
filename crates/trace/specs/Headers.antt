-- The header of a trace: its first line, which says how many frames there are.
use Rattle.std.specs.Prelude.{◌≡◌, ℕ, ◌≤◌, List, [], ◌∷◌, ◌++◌, Some, None, codes, decimal, Option, ◌≢◌}

-- the first line of a trace over n frames, with its LF
abbrev pub header_text : ℕ → List ℕ
header_text n = codes "frames=" ++ (decimal n ++ (10 ∷ []))

-- what reading a header answers: the number of frames, or that the line is the header of no number from 1 to 4096
abbrev pub ReadsHeader : List ℕ → Option ℕ → Type 0
ReadsHeader line (Some n) = (1 ≤ n) × (n ≤ 4096) × (line ≡ header_text n)
ReadsHeader line None = (n : ℕ) → 1 ≤ n → n ≤ 4096 → line ≢ header_text n
