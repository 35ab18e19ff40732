use Rattle.std.proofs.Common.{◌-◌, ◌*◌, ◌/◌, ◌^◌, length, ap, arith}
use Rattle.digits.specs.Hexadecimal.{hex_of}
use Rattle.digits.proofs.Hexes.{length_hex_of, hex_of_next}
use Rattle.digits.proofs.hexadecimals.hex16.Goals as goal

pub loop-place-init : goal.loop-place-init
unfolding hex_of
loop-place-init c = (omega arith, c.new-digits.ensures)

pub push_str-requires : goal.push_str-requires
push_str-requires c =
    let place = c.loop-place.place in
    let stand = length_hex_of (16 - place) (c.args.n / 2 ^ (4 * place)) in
    omega (arith, stand, ap length c.digit_str.ensures, ap length c.loop-place.invariant.1, c.loop-place-test.true)

pub loop-place-preserved : goal.loop-place-preserved
loop-place-preserved c =
    let stand = c.loop-place.invariant.1 in
    let pushed = c.push_str.ensures.bytes in
    let digit = c.digit_str.ensures in
    let next = hex_of_next c.args.n c.loop-place.place c.loop-place-test.true (omega arith) in
    (omega arith, grind (arith, stand, pushed, digit, next))
