-- The eight bytes that are read spell the word.
use Rattle.std.proofs.Common.{rules}
use Rattle.memory.proofs.Spelled.{eight_spell}
use Rattle.memory.proofs.bytes.word_at.Goals as goal

pub returns : goal.returns
returns c = search (rules, eight_spell)
