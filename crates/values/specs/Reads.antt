-- What reading answers, said by the text of what is read.
use Rattle.std.specs.Prelude.{◌≡◌, ℕ, ◌^◌, ◌<◌, Some, None, Option, ◌≢◌}

-- a reader of what `text` writes: the one that has this text, or that none has
abbrev pub ReadsBy : {X A : Type 0} → (A → X) → X → Option A → Type 0
ReadsBy text x (Some a) = x ≡ text a
ReadsBy {A = A} text x None = (a : A) → x ≢ text a

-- a number fits k hexadecimal digits, where there is one
abbrev pub Fits : ℕ → Option ℕ → Type 0
Fits k (Some n) = n < 16 ^ k
Fits k None = Unit {0}
