use Rattle.layout.specs.Changes.{reset}
use Rattle.layout.proofs.Inserts.{reset_sound}
use Rattle.layout.proofs.Holds.{resets}
use Rattle.layout.proofs.Rest.{reset_rest, same_kept}
use Rattle.pool.proofs.Fields.{fields, written_back}
use Rattle.pool.proofs.pools.Pool.reset.Goals as goal

pub invariant_of-self : goal.invariant_of-self
invariant_of-self c =
    let w = c.deref_mut.ensures in
    fields _ _ (written_back reset _ _ _ _ _ w.value w.len c.restart.auto.words c.restart.ensures) (reset_sound _ c.args.self.now.large)

pub returns : goal.returns
returns c =
    let w = c.deref_mut.ensures in
    let e = written_back reset _ _ _ _ _ w.value w.len c.restart.auto.words c.restart.ensures in
    record { after = e; law = resets _ c.args.self.now.large; rest = same_kept _ _ _ e (reset_rest _ c.args.self.now.large) }
