use Rattle.std.proofs.Common.{◌≡◌, ◌++◌, map, take, drop}
use Rattle.tlb.specs.Ways.{spared}
use Rattle.tlb.proofs.ways.Set.clear.Given as goal

abbrev pub invariant-loop-way : goal.invariant-loop-way
invariant-loop-way l = l.way-items ≡ map (spared l.fence) (take l.way-index l.initial.way-items) ++ drop l.way-index l.initial.way-items
