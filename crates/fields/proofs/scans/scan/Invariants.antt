use Rattle.std.proofs.Common.{length, take}
use Rattle.fields.proofs.Scanning.{Along}
use Rattle.fields.proofs.scans.scan.Given as goal

abbrev pub invariant-loop-n : goal.invariant-loop-n
invariant-loop-n l = Along l.line l.at (length l.initial.fields) l.next (take l.n l.fields) l.n
