use Rattle.trace.specs.Lines.{lines_of}
use Rattle.judging.proofs.Opening.{no_trace, a_header}
use Rattle.judging.proofs.judges.opened.Goals as goal

pub returns-in_err-line : goal.returns-in_err-line
returns-in_err-line c = rw c.from_residual.ensures (λ n o. no_trace c.args.trace.now n c.in_err-line.ensures o)

pub returns : goal.returns
returns c =
    a_header c.args.trace.now c.in_ok-line.line.now (lines_of c.in_ok-line.calls.now) c.in_ok-frames.frames
    c.in_ok-line.ensures.0 c.in_ok-frames.ensures
