use Rattle.std.proofs.Common.{◌∙◌}
use Rattle.digits.proofs.Hexes.{digit_at}
use Rattle.digits.proofs.hexadecimals.digit_str.Goals as goal

pub returns : goal.returns
returns c = c.range_inclusive.ensures.value ∙ digit_at c.args.digit c.requires
