use Rattle.std.proofs.Common.{vec_items}
use Rattle.layout.proofs.Inserts.{inserted_sound}
use Rattle.layout.proofs.Holds.{inserts}
use Rattle.layout.proofs.Calls.{ready_room, insert_made, same_leaves}
use Rattle.layout.proofs.Rest.{inserted_rest, same_kept}
use Rattle.pool.proofs.Fields.{sound_of, fields}
use Rattle.pool.proofs.pools.Pool.insert.Goals as goal

pub build-low-requires-clause-room : goal.build-low-requires-clause-room
build-low-requires-clause-room c =
    rw c.deref_mut.ensures.value (ready_room _ _ _ c.args.place.page.number (sound_of c.args.self.now) c.prepare.ensures)

pub invariant_of-self : goal.invariant_of-self
invariant_of-self c =
    let pool = vec_items c.args.self.now.words in
    let place = c.args.place in
    let d = c.deref_mut.ensures in
    let b = c.build-low.ensures in
    let e = insert_made pool _ _ _ _ _ place.asid.number place.page.number c.args.leaf.entry.word _ _
    c.prepare.ensures d.value d.len c.build-low.auto.words b.after b.frame c.index.ensures.value in
    fields _ _ e (inserted_sound pool _ place.page.number _ (sound_of c.args.self.now) place.asid.few c.args.leaf.leaf)

pub returns : goal.returns
returns c =
    let pool = vec_items c.args.self.now.words in
    let place = c.args.place in
    let g = sound_of c.args.self.now in
    let d = c.deref_mut.ensures in
    let b = c.build-low.ensures in
    let e = insert_made pool _ _ _ _ _ place.asid.number place.page.number c.args.leaf.entry.word _ _
    c.prepare.ensures d.value d.len c.build-low.auto.words b.after b.frame c.index.ensures.value in
    record {
      after = e;
      law = inserts pool _ _ _ g place.asid.few place.page.canonical c.args.leaf.leaf;
      rest = same_kept _ _ _ e (inserted_rest pool _ place.page.number _ g place.asid.few);
      apart = same_leaves _ _ e (inserted_sound pool _ place.page.number _ g place.asid.few c.args.leaf.leaf);
    }
