-- The lines of a report: a line for each call, fields with one space between, LF at the end.
use Rattle.std.specs.Prelude.{ℕ, List, [], ◌∷◌, ◌++◌, codes, decimal}
use Rattle.digits.specs.Hexadecimal.{hex_of}
use Rattle.refusal.specs.Numbers.{number_of}
use Rattle.fault.specs.declared.numbers.Numbers.{Numbers}
use Rattle.fault.specs.Numbers.{numbers_of}
use Rattle.calls.specs.declared.Answer.{Answer}
use Rattle.calls.specs.declared.Answer.TheVariants.{Done, Word, Faulted, Refused}

-- pieces of text, one after another
abbrev pub flat : List (List ℕ) → List ℕ
flat [] = []
flat (s ∷ ss) = s ++ flat ss

-- the six numbers of a fault
abbrev pub numbers_text : Numbers → List ℕ
numbers_text f = flat
    (codes " ans=fault cause=" ∷ decimal f.cause
    ∷ codes " va=" ∷ hex_of 16 f.address
    ∷ codes " gpa=" ∷ hex_of 16 f.guest_physical
    ∷ codes " stage=" ∷ decimal f.stage
    ∷ codes " gl=" ∷ decimal f.guest_level
    ∷ codes " hl=" ∷ decimal f.host_level ∷ [])

-- what follows the number of the call
abbrev pub answer_text : Answer → List ℕ
answer_text Done = codes " ans=ok"
answer_text (Word w) = flat (codes " ans=word data=" ∷ hex_of 16 w ∷ [])
answer_text (Refused x) = flat (codes " ans=refused number=" ∷ decimal (number_of x) ∷ [])
answer_text (Faulted f) = numbers_text (numbers_of f)

-- the line of the n-th call, counted from 1
abbrev pub answer_line : ℕ → Answer → List ℕ
answer_line n a = flat (codes "n=" ∷ decimal n ∷ answer_text a ∷ (10 ∷ []) ∷ [])
