use Rattle.std.proofs.Common.{◌≡◌, ◌++◌, take, drop}
use Rattle.tlb.specs.Tables.{sets_after}
use Rattle.tlb.proofs.tables.Table.clear.Given as goal

abbrev pub invariant-loop-set : goal.invariant-loop-set
invariant-loop-set l = l.set-items ≡ sets_after l.fence (take l.set-index l.initial.set-items) ++ drop l.set-index l.initial.set-items
