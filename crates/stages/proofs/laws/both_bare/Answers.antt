use Rattle.std.proofs.lemmas.Nat.{shr_split}
use Rattle.stages.specs.Stages.{translate_of}
use Rattle.stages.proofs.laws.both_bare.Goals as goal

pub returns : goal.returns
unfolding translate_of
returns c w a g h l =
    record {
      inside = λ i. rw (l, g, h, i);
      outside = λ o. rw (l, g, h, o, shr_split a.address 12);
    }
