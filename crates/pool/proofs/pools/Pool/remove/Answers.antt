use Rattle.layout.proofs.Inserts.{removed_lacks}
use Rattle.layout.proofs.Holds.{removes}
use Rattle.layout.proofs.Calls.{remove_made}
use Rattle.pool.proofs.Fields.{sound_of, fields}
use Rattle.pool.proofs.pools.Pool.remove.Goals as goal

pub invariant_of-self : goal.invariant_of-self
invariant_of-self c =
    let place = c.args.place in
    let low = c.in-Some.ensures.value in
    fields _ _ (remove_made _ _ _ _ _ low.0 low.1 c.index.ensures.value)
    (removed_lacks _ _ place.page.number (sound_of c.args.self.now) place.asid.few).sound

pub returns-in-Some-clause-law : goal.returns-in-Some-clause-law
returns-in-Some-clause-law c = removes _ _ _ (sound_of c.args.self.now) c.args.place.asid.few c.args.place.page.canonical

pub returns-in_default-clause-law : goal.returns-in_default-clause-law
returns-in_default-clause-law c = removes _ _ _ (sound_of c.args.self.now) c.args.place.asid.few c.args.place.page.canonical
