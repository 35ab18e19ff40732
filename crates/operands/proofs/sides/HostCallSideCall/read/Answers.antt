use Rattle.std.proofs.Common.{refl}
use Rattle.digits.specs.Hexadecimal.{hex_of}
use Rattle.fields.specs.declared.tags.Tag.TheVariants.{Pa, Data}
use Rattle.fields.specs.Cursors.{left_of}
use Rattle.calls.specs.declared.HostCall.TheVariants as host
use Rattle.operands.proofs.Tails.{one, no_first, no_second}
use Rattle.operands.proofs.Exits.{no_host}
use Rattle.operands.proofs.sides.HostCallSideCall.read.Goals as goal

pub returns-in_err-take-in-r : goal.returns-in_err-take-in-r
returns-in_err-take-in-r c =
    rw c.from_residual.ensures (no_host host.Load (left_of c.take.new.fields) c.in-r.is (λ k h. h) c.in_err-take-in-r.ensures)

pub returns-in_err-take-in-w : goal.returns-in_err-take-in-w
returns-in_err-take-in-w c =
    let end = left_of c.take-in-w.new.fields in
    rw c.from_residual-in_err-take-in-w.ensures
    (no_host (λ p. host.Store p.0 p.1) end c.in-w.is (λ k h. ((h.0, h.1), h.2))
    (no_first (one Pa (hex_of 16)) (one Data (hex_of 16)) end c.in_err-take-in-w.ensures))

pub returns-in_err-take-in-w-2 : goal.returns-in_err-take-in-w-2
returns-in_err-take-in-w-2 c =
    let end = left_of c.take-in-w-2.new.fields in
    rw c.from_residual-in_err-take-in-w-2.ensures
    (no_host (λ p. host.Store p.0 p.1) end c.in-w.is (λ k h. ((h.0, h.1), h.2))
    (no_second (one Pa (hex_of 16)) (one Data (hex_of 16)) c.in_ok-take-in-w.field-0 (left_of c.take-in-w.new.fields) end (λ b. refl)
    c.in_ok-take-in-w.ensures c.in_err-take-in-w-2.ensures))

pub returns-in_err-take-in-h : goal.returns-in_err-take-in-h
returns-in_err-take-in-h c =
    rw c.from_residual-in_err-take-in-h.ensures (no_host host.Root (left_of c.take-in-h.new.fields) c.in-h.is (λ k h. h) c.in_err-take-in-h.ensures)
