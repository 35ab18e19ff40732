use Rattle.std.proofs.Common.{rules, arith, ◌≡◌, ◌++◌, length, take, drop, vec_items, vec_len}
use Rattle.std.proofs.lemmas.Grind.{common_steps}
use Rattle.std.proofs.lemmas.List.Edits.{map_over_more}
use Rattle.tlb.specs.Ways.{cleared}
use Rattle.tlb.specs.Tables.{sets_after}
use Rattle.tlb.specs.Standing.{clear_keeps}
use Rattle.tlb.proofs.tables.Table.clear.Goals as goal

pub invariant_of-self : goal.invariant_of-self
invariant_of-self c =
    let was = c.args.self.now in
    let sets = c.loop-set.set-items in
    let e : take (vec_len was.sets) (sets ++ drop (length sets) (vec_items was.sets)) ≡ sets_after c.args.fence (vec_items was.sets) = grind (arith, common_steps) in
    let k = clear_keeps (vec_items was.sets) was.placed was.ready c.args.fence _ e in
    record { size = was.size; placed = k.0; ready = k.1 }

pub loop-set-preserved : goal.loop-set-preserved
loop-set-preserved c = search (rules, map_over_more (cleared c.args.fence))
