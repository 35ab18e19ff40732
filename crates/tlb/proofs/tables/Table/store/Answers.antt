use Rattle.std.proofs.Common.{◌≡◌, ◌%◌, vec_items, ap, ◌∙◌, arith}
use Rattle.std.proofs.lemmas.List.{get_or_default}
use Rattle.tlb.specs.Ways.{filled}
use Rattle.tlb.specs.Tables.{no_set, set_of}
use Rattle.tlb.specs.Standing.{store_keeps}
use Rattle.tlb.proofs.tables.Table.store.Goals as goal

pub invariant_of-self : goal.invariant_of-self
invariant_of-self c =
    let was = c.args.self.now in
    let g = c.in-Some.grant in
    let lent = c.index_mut.result.now in
    let e : lent ≡ set_of (vec_items was.sets) g.page = c.index_mut.ensures.value ∙ get_or_default (vec_items was.sets) (g.page % 16) lent no_set (omega (arith, was.sets.ok.0, was.size)) in
    let k = store_keeps (vec_items was.sets) was.placed was.ready g c.fill.new.self (c.fill.ensures ∙ ap (filled g) e) in
    record { size = was.size; placed = k.0; ready = k.1 }
