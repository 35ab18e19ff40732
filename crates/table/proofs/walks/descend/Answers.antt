use Rattle.std.proofs.Common.{rules}
use Rattle.table.specs.Walk.{walk_from}
use Rattle.table.proofs.Descents.{at_stop, at_leaf, walk_pointer}
use Rattle.table.proofs.walks.descend.Goals as goal

pub returns-in_err-word-clause-answer : goal.returns-in_err-word-clause-answer
unfolding walk_from
returns-in_err-word-clause-answer g c = search rules

pub returns-then-stops-clause-answer : goal.returns-then-stops-clause-answer
returns-then-stops-clause-answer g c = search (rules, at_stop)

pub returns-then-not-is_pointer-clause-answer : goal.returns-then-not-is_pointer-clause-answer
returns-then-not-is_pointer-clause-answer g c = search (rules, at_leaf)

pub loop-level-preserved : goal.loop-level-preserved
loop-level-preserved g c = search (rules, walk_pointer)
