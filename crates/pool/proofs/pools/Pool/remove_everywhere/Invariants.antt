use Rattle.std.proofs.Common.{◌≡◌, vec_items}
use Rattle.layout.specs.Changes.{removed_below}
use Rattle.pool.proofs.pools.Pool.remove_everywhere.Given as goal

abbrev pub invariant-loop-number : goal.invariant-loop-number
invariant-loop-number l = vec_items l.self.words ≡ removed_below (vec_items l.initial.self.words) l.page.number l.number
