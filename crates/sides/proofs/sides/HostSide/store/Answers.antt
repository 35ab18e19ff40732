use Rattle.std.proofs.Common.{rules}
use Rattle.std.proofs.lemmas.List.{set_past}
use Rattle.sides.proofs.sides.HostSide.store.Goals as goal

pub returns-clause-stored : goal.returns-clause-stored
returns-clause-stored g c = search (rules, set_past)
