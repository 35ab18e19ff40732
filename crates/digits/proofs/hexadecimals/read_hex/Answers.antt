use Rattle.std.proofs.Common.{◌≡◌, length, get_or, sym, refl, ap, ◌∙◌, arith, lit<}
use Rattle.std.proofs.lemmas.List.{take_more, take_all}
use Rattle.digits.specs.Hexadecimal.{hex_of}
use Rattle.digits.proofs.Hexes.{length_hex_of, hex_of_push, hex_of_at, hex_of_room, below_push}
use Rattle.digits.proofs.hexadecimals.read_hex.Goals as goal

pub returns-then-bytes-gt16 : goal.returns-then-bytes-gt16
returns-then-bytes-gt16 c k n h e = omega (arith, ap length e, length_hex_of k n)

pub loop-b-init : goal.loop-b-init
unfolding hex_of
loop-b-init c = (refl, lit< tt)

pub returns-in_err-digit : goal.returns-in_err-digit
returns-in_err-digit c =
    rw c.from_residual.ensures
    (λ k n h e. let i = c.loop-b.b-index in
    let r = hex_of_at k n i (omega (arith, ap length e, length_hex_of k n)) in
    c.in_err-digit.ensures r.0 r.1 (ap (λ l. get_or l i 0) e ∙ r.2))

pub overflow_mul-n : goal.overflow_mul-n
overflow_mul-n c = omega (arith, hex_of_room c.loop-b.b-index c.loop-b.n (omega arith) c.loop-b.invariant.1)

pub overflow_add-n : goal.overflow_add-n
overflow_add-n c = omega (arith, hex_of_room c.loop-b.b-index c.loop-b.n (omega arith) c.loop-b.invariant.1, c.in_ok-digit.ensures.0)

pub loop-b-preserved : goal.loop-b-preserved
loop-b-preserved c =
    let i = c.loop-b.b-index in
    let d = c.in_ok-digit.ensures in
    let t = take_more c.args.bytes.now i 0 c.loop-b-test.true in
    let p = hex_of_push i c.loop-b.n c.in_ok-digit.digit d.0 in
    let e = d.1 in
    rw c.from.ensures ((cc), below_push i c.loop-b.n c.in_ok-digit.digit d.0 c.loop-b.invariant.1)

pub returns : goal.returns
returns c =
    let same : c.loop-b.b-index ≡ length c.args.bytes.now = omega arith in
    let all = take_all c.loop-b.b-index c.args.bytes.now c.loop-b-test.false in
    (omega arith, sym all ∙ c.loop-b.invariant.0 ∙ ap (λ k. hex_of k c.loop-b.n) same, rw same at c.loop-b.invariant.1)
