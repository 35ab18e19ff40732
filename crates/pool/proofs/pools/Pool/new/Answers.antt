use Rattle.std.proofs.Common.{◌≤◌, vec_items, arith}
use Rattle.layout.specs.Tables.{frames}
use Rattle.layout.specs.Changes.{reset}
use Rattle.layout.proofs.Inserts.{reset_sound}
use Rattle.layout.proofs.Rest.{reset_rest, same_kept}
use Rattle.pool.proofs.Fields.{fields, written_back}
use Rattle.pool.proofs.pools.Pool.new.Goals as goal

pub invariant_of-result : goal.invariant_of-result
invariant_of-result c =
    let k = c.args.words.ok.0 in
    let w = c.deref_mut.ensures in
    let l : 4 ≤ frames (vec_items c.args.words) = omega arith in
    fields _ _ (written_back reset _ _ _ _ _ w.value w.len c.restart.auto.words c.restart.ensures) (reset_sound _ l)

pub returns : goal.returns
returns c =
    let k = c.args.words.ok.0 in
    let w = c.deref_mut.ensures in
    let l : 4 ≤ frames (vec_items c.args.words) = omega arith in
    let e = written_back reset _ _ _ _ _ w.value w.len c.restart.auto.words c.restart.ensures in
    (l, e, same_kept _ _ _ e (reset_rest _ l))
