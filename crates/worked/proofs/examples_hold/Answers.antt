use Rattle.worked.proofs.Buffered.{remembers}
use Rattle.worked.proofs.examples_hold.Goals as goal

pub returns-clause-remembered : goal.returns-clause-remembered
returns-clause-remembered c =
    let run = simp (c.two_frames-words.ensures, c.calls.ensures) at c.in_ok-ended.ensures.played in
    let empty = c.in_ok-buffer.ensures.empty in
    remembers c.in_ok-buffer.buffer _ _ _ empty run
