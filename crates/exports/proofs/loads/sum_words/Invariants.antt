use Rattle.std.proofs.Common.{take}
use Rattle.sides.specs.Sides.{guest_moment}
use Rattle.exports.specs.Loads.{LoadsFrom}
use Rattle.exports.proofs.loads.sum_words.Given as goal

abbrev pub invariant-loop-address : goal.invariant-loop-address
invariant-loop-address g l =
    LoadsFrom g.T.Translator (guest_moment (g.M.Memory.words l.memory) l.side.roots) l.initial.translator (take l.address-index l.addresses)
    l.translator l.sum
