use Rattle.std.proofs.Common.{◌<◌, length, arith, rules}
use Rattle.trace.proofs.Cutting.{lines_short}
use Rattle.trace.proofs.lines.Lines.new.Goals as goal

pub returns-clause-few : goal.returns-clause-few
returns-clause-few c = let small : length c.args.text.now < 18446744073709551616 = search rules in omega (arith, lines_short c.args.text.now)
