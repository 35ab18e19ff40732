use Rattle.reader.proofs.Once.{text_once}
use Rattle.reader.proofs.laws.one_text.Goals as goal

pub returns : goal.returns
returns c = text_once
