use Rattle.std.proofs.Common.{◌<◌, ◌≤◌, length, arith}
use Rattle.std.proofs.lemmas.List.{take_all}
use Rattle.sides.specs.Sides.{guest_moment}
use Rattle.exports.proofs.Adding.{loads_none, loads_more}
use Rattle.exports.proofs.loads.sum_words.Goals as goal

pub loop-address-init : goal.loop-address-init
loop-address-init g c = loads_none _ _

pub loop-address-preserved : goal.loop-address-preserved
loop-address-preserved g c =
    let below : c.loop-address.address-index < length c.args.addresses.now = omega arith in
    loads_more (guest_moment (g.M.Memory.words c.args.memory.now) c.args.side.now.roots) c.args.translator.now c.args.addresses.now
    c.loop-address.address-index c.loop-address.translator c.loop-address.sum c.load_word-sum.new.translator c.load_word-sum.result
    below c.loop-address.invariant c.load_word-sum.ensures

pub returns : goal.returns
returns g c =
    let done : length c.args.addresses.now ≤ c.loop-address.address-index = omega arith in
    simp (take_all c.loop-address.address-index c.args.addresses.now done) at c.loop-address.invariant
