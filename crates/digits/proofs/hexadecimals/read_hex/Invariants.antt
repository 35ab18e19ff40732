use Rattle.std.proofs.Common.{◌≡◌, ◌^◌, ◌<◌, take}
use Rattle.digits.specs.Hexadecimal.{hex_of}
use Rattle.digits.proofs.hexadecimals.read_hex.Given as goal

abbrev pub invariant-loop-b : goal.invariant-loop-b
invariant-loop-b l = (take l.b-index l.bytes ≡ hex_of l.b-index l.n) × (l.n < 16 ^ l.b-index)
