use Rattle.std.proofs.Common.{rules}
use Rattle.std.proofs.lemmas.List.{get_or_past}
use Rattle.sides.proofs.guest_side.word_at.Goals as goal

pub returns : goal.returns
returns g c = search (rules, get_or_past)
