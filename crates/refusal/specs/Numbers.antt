-- The number of each refusal.
use Rattle.std.specs.Prelude.{ℕ}
use Rattle.refusal.specs.declared.Refusal.{Refusal}
use Rattle.refusal.specs.declared.Refusal.TheVariants.{Frames, Pool, GuestRoot, HostRoot, HostAddress, OtherSide, FenceAsid, Unreadable, Room}

abbrev pub number_of : Refusal → ℕ
number_of Frames = 1
number_of Pool = 2
number_of GuestRoot = 3
number_of HostRoot = 4
number_of HostAddress = 5
number_of OtherSide = 6
number_of FenceAsid = 7
number_of Unreadable = 8
number_of Room = 9
