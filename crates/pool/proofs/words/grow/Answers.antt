use Rattle.std.proofs.Common.{◌≡◌, arith, rules}
use Rattle.layout.specs.Tables.{names}
use Rattle.layout.proofs.Takes.{grown_names, taken_frames}
use Rattle.pool.proofs.words.grow.Goals as goal

pub returns-in-None-clause-frame : goal.returns-in-None-clause-frame
returns-in-None-clause-frame c = grown_names _ _ _ _ c.requires.inside c.take.ensures.frame c.take.ensures.after

pub returns-in-None-clause-small : goal.returns-in-None-clause-small
returns-in-None-clause-small c =
    let t = c.take.ensures in
    let f = taken_frames _ _ _ t.after in
    let z : names c.args.words.now c.args.i ≡ 0 = search rules in
    let n = c.requires.free z in
    omega arith
