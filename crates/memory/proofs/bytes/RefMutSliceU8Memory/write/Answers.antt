-- A word that is shown is written to its bytes, and the bytes past those that are shown stay.
use Rattle.std.proofs.Common.{rules}
use Rattle.memory.proofs.Shown.{write_out, set_out}
use Rattle.memory.proofs.Spelled.{write_bytes, shown_after, unshown_after, length_words}
use Rattle.memory.proofs.bytes.RefMutSliceU8Memory.write.Goals as goal

pub returns-then-index-shown_words : goal.returns-then-index-shown_words
returns-then-index-shown_words c = search (rules, write_out, set_out, length_words)

pub returns : goal.returns
returns c = search (rules, write_bytes, shown_after, unshown_after)
