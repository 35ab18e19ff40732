use Rattle.std.proofs.Common.{◌≡◌, Some, vec_items, rules}
use Rattle.layout.specs.Finds.{found}
use Rattle.layout.proofs.Calls.{found_small}
use Rattle.pool.proofs.Fields.{sound_of}
use Rattle.pool.proofs.pools.Pool.find.Goals as goal

pub returns-clause-small : goal.returns-clause-small
returns-clause-small c =
    let s = c.args.self.now in
    let place = c.args.place in
    let e : Some c.in_ok-leaf.leaf.entry ≡ found (vec_items s.words) place.asid.number place.page.number = search rules in
    found_small (vec_items s.words) place.asid.number place.page.number c.in_ok-leaf.leaf.entry (sound_of s) place.asid.few place.page.canonical e
