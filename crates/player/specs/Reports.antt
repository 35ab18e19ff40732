-- The lines of a trace as calls, and the answers as the text of a report.
use Rattle.std.specs.Prelude.{ℕ, ◌+◌, List, [], ◌∷◌, ◌++◌}
use Rattle.calls.specs.declared.Call.{Call}
use Rattle.calls.specs.declared.Answer.{Answer}
use Rattle.reader.specs.Texts.{host_text, guest_text}
use Rattle.reader.specs.Reads.{ReadsCall}
use Rattle.report.specs.Lines.{answer_line}

-- each line is read as its call, and there are as many calls as lines
unfoldable pub ReadLines : List (List ℕ) → List Call → Type 0
ReadLines [] [] = Unit {0}
ReadLines [] (c ∷ cs) = ⊥
ReadLines (l ∷ ls) [] = ⊥
ReadLines (l ∷ ls) (c ∷ cs) = ReadsCall host_text guest_text l c × ReadLines ls cs

-- a line for each answer, numbered from n
unfoldable pub lines_from : ℕ → List Answer → List ℕ
lines_from n [] = []
lines_from n (x ∷ xs) = answer_line n x ++ lines_from (n + 1) xs

-- the text of a report: its lines are numbered from 1
abbrev pub report_text : List Answer → List ℕ
report_text xs = lines_from 1 xs
