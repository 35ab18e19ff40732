use Rattle.std.proofs.Common.{◌≡◌, ◌-◌, ◌*◌, ◌/◌, ◌^◌, ◌≤◌}
use Rattle.digits.specs.Hexadecimal.{hex_of}
use Rattle.digits.proofs.hexadecimals.hex16.Given as goal

-- the first digits stand, and `place` of them are to come
abbrev pub invariant-loop-place : goal.invariant-loop-place
invariant-loop-place l = (l.place ≤ 16) × (l.digits.bytes ≡ hex_of (16 - l.place) (l.n / 2 ^ (4 * l.place)))
