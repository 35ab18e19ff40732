use Rattle.std.proofs.Common.{sym, ◌∙◌}
use Rattle.calls.specs.Answers.{word_or_fault}
use Rattle.exports.proofs.Adding.{word_at-load}
use Rattle.exports.proofs.loads.load_word.Goals as goal

pub returns : goal.returns
returns g c = (word_or_fault c.load.result, (simp c.new-target.ensures at c.load.ensures), c.unwrap_or.ensures ∙ sym (word_at-load c.load.result))
