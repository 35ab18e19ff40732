-- The accesses that a guest's calls make.
use Rattle.std.specs.Prelude.{ℕ, false}
use Rattle.access.specs.declared.accesses.Kind.{Kind}
use Rattle.access.specs.declared.accesses.Mode.{Mode}
use Rattle.access.specs.declared.accesses.Access.{Access}
use Rattle.calls.specs.declared.Target.{Target}

-- an address in a mode, with SUM and MXR 0
abbrev pub target_in : Mode → ℕ → Target
target_in mode address = record { mode = mode; sum = false; mxr = false; address = address }

-- the access of a kind
abbrev pub access_of : Kind → Target → Access
access_of kind t = record { kind = kind; mode = t.mode; sum = t.sum; mxr = t.mxr; address = t.address }
