use Rattle.std.proofs.Common.{rules}
use Rattle.std.proofs.lemmas.List.Edits.{map_over_more}
use Rattle.tlb.specs.Ways.{spared}
use Rattle.tlb.proofs.ways.Set.clear.Goals as goal

pub loop-way-preserved : goal.loop-way-preserved
loop-way-preserved c = search (rules, map_over_more (spared c.args.fence))
