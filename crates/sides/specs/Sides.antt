-- The moment at which a side is, by the words of its memory and its roots.
use Rattle.std.specs.Prelude.{ℕ, List}
use Rattle.registers.specs.declared.roots.Roots.{Roots}
use Rattle.stages.specs.Stages.{world_of}
use Rattle.history.specs.Moments.{Moment, host_at, guest_at}

-- at the host side, and at the guest side, with these roots
abbrev pub host_moment : List ℕ → Roots → Moment
host_moment ws roots = host_at (world_of ws roots)

abbrev pub guest_moment : List ℕ → Roots → Moment
guest_moment ws roots = guest_at (world_of ws roots)
