-- A word that is shown is read from its bytes.
use Rattle.std.proofs.Common.{rules}
use Rattle.memory.proofs.Spelled.{read_bytes, length_words}
use Rattle.memory.proofs.Shown.{read_out}
use Rattle.memory.proofs.bytes.RefMutSliceU8Memory.read.Goals as goal

pub returns-then-index-shown_words : goal.returns-then-index-shown_words
returns-then-index-shown_words c = search (rules, read_bytes)

pub returns-else-index-shown_words : goal.returns-else-index-shown_words
returns-else-index-shown_words c = search (rules, read_out, length_words)
