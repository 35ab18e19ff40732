use Rattle.std.proofs.Common.{arith}
use Rattle.layout.proofs.Calls.{grows_root, grows_middle, grows_low, built_all}
use Rattle.pool.proofs.words.build.Goals as goal

pub grow-root-requires : goal.grow-root-requires
grow-root-requires c =
    let x = grows_root _ _ c.args.place.page.number c.requires.sound c.args.place.asid.few c.requires.room in
    record { inside = omega arith; fits = x.1; free = x.2 }

pub grow-middle-requires : goal.grow-middle-requires
grow-middle-requires c =
    let r = c.grow-root.ensures in
    let x = grows_middle _ _ c.args.place.page.number c.requires.sound c.args.place.asid.few c.requires.room _ _ _ r.after r.frame c.index.ensures.value in
    record { inside = omega arith; fits = x.1; free = x.2 }

pub grow-requires : goal.grow-requires
grow-requires c =
    let r = c.grow-root.ensures in
    let m = c.grow-middle.ensures in
    let x = grows_low _ _ c.args.place.page.number c.requires.sound c.args.place.asid.few c.requires.room _ _ _ r.after r.frame c.index.ensures.value
    _ _ _ m.after m.frame c.index-2.ensures.value in
    record { inside = omega arith; fits = x.1; free = x.2 }

pub returns : goal.returns
returns c =
    let r = c.grow-root.ensures in
    let m = c.grow-middle.ensures in
    let l = c.grow.ensures in
    let x = built_all _ _ c.args.place.page.number c.requires.sound c.args.place.asid.few c.requires.room _ _ _ r.after r.frame c.index.ensures.value
    _ _ _ m.after m.frame c.index-2.ensures.value _ _ l.after l.frame in
    record { after = x.0; frame = x.1; inside = omega arith }
