use Rattle.std.proofs.Common.{rules}
use Rattle.std.proofs.lemmas.Slice.{overwrites}
use Rattle.report.proofs.put_answer.Goals as goal

pub returns : goal.returns
returns c = rw (← c.push_line.ensures) (search (rules, overwrites))
