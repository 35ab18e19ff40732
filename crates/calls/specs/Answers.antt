-- The answers that the results of single calls are.
use Rattle.std.specs.Prelude.{ℕ, Ok, Err, Result}
use Rattle.refusal.specs.declared.Refusal.{Refusal}
use Rattle.fault.specs.declared.faults.Fault.{Fault}
use Rattle.calls.specs.declared.Answer.{Answer}
use Rattle.calls.specs.declared.Answer.TheVariants.{Done, Word, Faulted, Refused}

-- a word, or a refusal
abbrev pub word_or_refusal : Result ℕ Refusal → Answer
word_or_refusal (Ok word) = Word word
word_or_refusal (Err refusal) = Refused refusal

-- done, or a refusal
abbrev pub done_or_refusal : Result (Unit {0}) Refusal → Answer
done_or_refusal (Ok done) = Done
done_or_refusal (Err refusal) = Refused refusal

-- a word, or a fault
abbrev pub word_or_fault : Result ℕ Fault → Answer
word_or_fault (Ok word) = Word word
word_or_fault (Err fault) = Faulted fault

-- done, or a fault
abbrev pub done_or_fault : Result (Unit {0}) Fault → Answer
done_or_fault (Ok done) = Done
done_or_fault (Err fault) = Faulted fault
