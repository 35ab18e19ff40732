use Rattle.table.proofs.WordsRead.{one_a_level}
use Rattle.table.proofs.laws.one_word_a_level.Goals as goal

pub returns : goal.returns
returns g c = one_a_level _
