-- What a memory of words shows and answers.
use Rattle.std.specs.Prelude.{ℕ, ◌*◌, ◌/◌, min, cond, List, length, take, drop, Ok, Err, Result, nat_lt, slice_index}
use Rattle.memory.specs.declared.Outside.{Outside}

-- the refusal of a word that is not there
abbrev pub outside : Outside
outside = record {}

-- x at an index below n, else the refusal
abbrev pub answer_of : {X : Type 0} → ℕ → X → ℕ → Result X Outside
answer_of n x i = cond (nat_lt i n) (Ok x) (Err outside)

-- what a read at the index i answers
abbrev pub read_of : List ℕ → ℕ → Result ℕ Outside
read_of ws i = answer_of (length ws) (slice_index ws i) i

-- what a write at the index i answers
abbrev pub write_of : List ℕ → ℕ → Result (Unit {0}) Outside
write_of ws i = answer_of (length ws) tt i

-- how many of n words are shown: the whole frames of 512 words, 4096 frames at most
abbrev pub shown_length : ℕ → ℕ
shown_length n = 512 * min 4096 (n / 512)

-- the words that are shown
abbrev pub shown : List ℕ → List ℕ
shown ws = take (shown_length (length ws)) ws

-- the words past those that are shown
abbrev pub unshown : List ℕ → List ℕ
unshown ws = drop (shown_length (length ws)) ws
