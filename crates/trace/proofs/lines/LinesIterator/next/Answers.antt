use Rattle.std.proofs.Common.{ap}
use Rattle.trace.specs.Lines.{lines_of}
use Rattle.trace.proofs.lines.LinesIterator.next.Goals as goal

pub returns-in_err-line-clause-steps : goal.returns-in_err-line-clause-steps
unfolding lines_of
returns-in_err-line-clause-steps c =
    let none = ap lines_of c.in_err-line.ensures in
    rw c.from_residual.ensures (none, none)
