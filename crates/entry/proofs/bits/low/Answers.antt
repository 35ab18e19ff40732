use native.Mathlib.Omega.{arith}
use Rattle.entry.proofs.Fields.{low_past}
use Rattle.entry.proofs.bits.low.Goals as goal

pub returns-else-count-lt64 : goal.returns-else-count-lt64
returns-else-count-lt64 c = low_past c.args.word c.args.count (omega arith) (omega arith)
