-- The moment at which a machine is, by the words of its memory and its side.
use Rattle.std.specs.Prelude.{ℕ, List}
use Rattle.history.specs.Moments.{Moment}
use Rattle.sides.specs.Sides.{host_moment, guest_moment}
use Rattle.machine.specs.declared.machines.Machine.{Machine}
use Rattle.machine.specs.declared.machines.Machine.TheVariants.{AtHost, AtGuest}

-- that of the side whose turn it is
abbrev pub moment_of : List ℕ → Machine → Moment
moment_of ws (AtHost side) = host_moment ws side.roots
moment_of ws (AtGuest side) = guest_moment ws side.roots
