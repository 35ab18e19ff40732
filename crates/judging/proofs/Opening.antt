-- On the header of a trace.
use Rattle.std.proofs.Common.{◌≡◌, ℕ, ◌^◌, ◌<◌, ◌≤◌, List, [], ◌∷◌, ◌++◌, Some, None, codes, decimal, sym, ap, arith, lit<}
use Rattle.std.proofs.lemmas.List.{append_cancel_left, append_cancel_right}
use Rattle.std.proofs.lemmas.Fmt.{decimal_injective}
use Rattle.trace.specs.Lines.{lines_of}
use Rattle.trace.specs.Headers.{header_text, ReadsHeader}
use Rattle.judging.specs.Traces.{after_first, call_lines, Opens}
use Rattle.judging.specs.Judging.{OnlyFrames}

-- an empty trace has no header
pub no_trace : (trace : List ℕ) (n : ℕ) → trace ≡ [] → Opens 4096 trace n → ⊥
unfolding lines_of
no_trace trace n e o =
    let none : lines_of trace ≡ [] = ap lines_of e in
    let h = o.header in
    cc

-- a first line that is no header
pub no_header : (trace line : List ℕ) (ls : List (List ℕ)) (n : ℕ) → lines_of trace ≡ line ∷ ls → ReadsHeader line None → Opens 4096 trace n → ⊥
no_header trace line ls n e none o =
    let h = o.header in
    let same : line ≡ header_text n = cc in none n o.some o.few same

-- a header has one number
one_number : (m n : ℕ) → m ≤ 4096 → n ≤ 4096 → header_text m ≡ header_text n → m ≡ n
one_number m n p q e =
    let wide : 4096 < 2 ^ 64 = lit< tt in
    decimal_injective m n (omega arith) (omega arith)
    (append_cancel_right (decimal m) (decimal n) (10 ∷ []) (append_cancel_left (codes "frames=") (decimal m ++ (10 ∷ [])) (decimal n ++ (10 ∷ [])) e))

-- a first line that is one
pub a_header : (trace line : List ℕ) (ls : List (List ℕ)) (n : ℕ) → lines_of trace ≡ line ∷ ls → ReadsHeader line (Some n)
    → Opens 4096 trace n × OnlyFrames trace n × (ls ≡ call_lines trace)
a_header trace line ls n e h =
    let after : ls ≡ call_lines trace = sym (ap after_first e) in
    let same = h.2 in (
      record { some = h.0; few = h.1; header = cc },
      λ m few first. let both : header_text m ≡ header_text n = cc in one_number m n few h.1 both,
      after,
    )
