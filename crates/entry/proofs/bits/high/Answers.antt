use native.Mathlib.Omega.{arith}
use Rattle.entry.proofs.Fields.{high_past}
use Rattle.entry.proofs.bits.high.Goals as goal

pub returns-else-count-lt64 : goal.returns-else-count-lt64
returns-else-count-lt64 c = high_past c.args.word c.args.count (omega arith) (omega arith)
