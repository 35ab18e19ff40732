use Rattle.std.proofs.Common.{length, ap, ◌∙◌}
use Rattle.digits.proofs.Hexes.{length_hex_of}
use Rattle.values.proofs.numbers.number_of.Goals as goal

pub returns-then-value-k-clause-reads : goal.returns-then-value-k-clause-reads
returns-then-value-k-clause-reads c = λ a e. c.if-value-k.true (ap length e ∙ length_hex_of c.args.k a)
