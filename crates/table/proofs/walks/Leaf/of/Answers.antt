use Rattle.std.proofs.Common.{rules}
use Rattle.std.proofs.lemmas.Bool.{not-false, eqb-true}
use Rattle.table.proofs.Superpages.{joined_fits}
use Rattle.table.proofs.walks.Leaf.of.Goals as goal

pub returns : goal.returns
returns c = search (rules, joined_fits, not-false, eqb-true)
