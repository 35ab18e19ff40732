use Rattle.std.proofs.Common.{append_assoc}
use Rattle.std.proofs.lemmas.List.{append-nil}
use Rattle.report.proofs.push_answer.Goals as goal

pub returns-in-Word-clause-bytes : goal.returns-in-Word-clause-bytes
returns-in-Word-clause-bytes c = rw (c.in-Word.is, c.push_word.ensures.bytes, c.push_str-in-Word.ensures.bytes) (simp (append_assoc, append-nil))

pub returns-in-Refused-clause-bytes : goal.returns-in-Refused-clause-bytes
returns-in-Refused-clause-bytes c =
    rw (c.in-Refused.is, c.push_number.ensures.bytes, c.push_str-in-Refused.ensures.bytes, c.number.ensures) (simp (append_assoc, append-nil))
