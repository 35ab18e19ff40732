use Rattle.std.proofs.Common.{refl}
use Rattle.layout.proofs.Inserts.{dropped_sound}
use Rattle.layout.proofs.Holds.{drops}
use Rattle.pool.proofs.Fields.{sound_of, fields}
use Rattle.pool.proofs.pools.Pool.drop_asid.Goals as goal

pub invariant_of-self : goal.invariant_of-self
invariant_of-self c = fields _ _ refl (dropped_sound _ c.args.asid.number (sound_of c.args.self.now) c.args.asid.few)

pub returns-clause-law : goal.returns-clause-law
returns-clause-law c = drops _ _ (sound_of c.args.self.now) c.args.asid.few
