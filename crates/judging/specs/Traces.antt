-- What a trace asks for: its first line says how many frames there are, and each further line is a call.
use Rattle.std.specs.Prelude.{◌≡◌, ℕ, ◌+◌, ◌*◌, ◌≤◌, List, [], ◌∷◌, length}
use Rattle.trace.specs.Lines.{lines_of}
use Rattle.trace.specs.Headers.{header_text}

-- the lines after the first
abbrev pub after_first : List (List ℕ) → List (List ℕ)
after_first [] = []
after_first (l ∷ ls) = ls

-- the lines of the calls
abbrev pub call_lines : List ℕ → List (List ℕ)
call_lines trace = after_first (lines_of trace)

-- how many calls there are
abbrev pub call_count : List ℕ → ℕ
call_count trace = length (call_lines trace)

-- the first line is the header of n frames, and n is from 1 to `most`
pub record Opens (most : ℕ) (trace : List ℕ) (n : ℕ) : Type 0 where
  pub some : 1 ≤ n
  pub few : n ≤ most
  pub header : lines_of trace ≡ header_text n ∷ call_lines trace

-- an image of `size` bytes is the n whole frames that the trace asks for
pub record Fits (size : ℕ) (trace : List ℕ) (n : ℕ) : Type 0 where
  pub whole : size ≡ 4096 * n
  pub opens : Opens 4096 trace n

-- the calls are few enough, and a report of `size` bytes has room for their lines
pub record HasRoom (size : ℕ) (trace : List ℕ) : Type 0 where
  pub few : call_count trace ≤ 9999
  pub enough : 64 + 128 * call_count trace ≤ size

-- the same for an input of the program: up to 500 calls in up to 16384 bytes
pub record IsShort (input : List ℕ) : Type 0 where
  pub few : call_count input ≤ 500
  pub small : length input ≤ 16384
