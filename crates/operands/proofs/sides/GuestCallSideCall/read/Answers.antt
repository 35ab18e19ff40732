use Rattle.std.proofs.Common.{[], refl}
use Rattle.digits.specs.Hexadecimal.{hex_of}
use Rattle.fields.specs.declared.tags.Tag.TheVariants.{Data}
use Rattle.fields.specs.Cursors.{left_of}
use Rattle.calls.specs.declared.GuestCall.TheVariants as guest
use Rattle.operands.specs.Texts.{target_items}
use Rattle.operands.proofs.Tails.{one, no_first, no_second}
use Rattle.operands.proofs.Exits.{no_guest}
use Rattle.operands.proofs.sides.GuestCallSideCall.read.Goals as goal

pub returns-in_err-target-in-l : goal.returns-in_err-target-in-l
returns-in_err-target-in-l c =
    rw c.from_residual.ensures (no_guest guest.Load (left_of c.target.new.fields) c.in-l.is (λ k h. h) c.in_err-target-in-l.ensures)

pub returns-in_err-target-in-s : goal.returns-in_err-target-in-s
returns-in_err-target-in-s c =
    let end = left_of c.target-in-s.new.fields in
    rw c.from_residual-in_err-target-in-s.ensures
    (no_guest (λ p. guest.Store p.0 p.1) end c.in-s.is (λ k h. ((h.0, h.1), h.2))
    (no_first (λ t. target_items t []) (one Data (hex_of 16)) end c.in_err-target-in-s.ensures))

pub returns-in_err-take-in-s : goal.returns-in_err-take-in-s
returns-in_err-take-in-s c =
    let end = left_of c.take.new.fields in
    rw c.from_residual-in_err-take-in-s.ensures
    (no_guest (λ p. guest.Store p.0 p.1) end c.in-s.is (λ k h. ((h.0, h.1), h.2))
    (no_second (λ t. target_items t []) (one Data (hex_of 16)) c.in_ok-target-in-s.field-0 (left_of c.target-in-s.new.fields) end (λ t. refl)
    c.in_ok-target-in-s.ensures c.in_err-take-in-s.ensures))

pub returns-in_err-target-in-f : goal.returns-in_err-target-in-f
returns-in_err-target-in-f c =
    rw c.from_residual-in_err-target-in-f.ensures (no_guest guest.Fetch (left_of c.target-in-f.new.fields) c.in-f.is (λ k h. h) c.in_err-target-in-f.ensures)

pub returns-in_err-fence-in-z : goal.returns-in_err-fence-in-z
returns-in_err-fence-in-z c =
    rw c.from_residual-in_err-fence-in-z.ensures (no_guest guest.Fence (left_of c.fence.new.fields) c.in-z.is (λ k h. h) c.in_err-fence-in-z.ensures)

pub returns-in_err-take-in-g : goal.returns-in_err-take-in-g
returns-in_err-take-in-g c =
    rw c.from_residual-in_err-take-in-g.ensures (no_guest guest.Root (left_of c.take-in-g.new.fields) c.in-g.is (λ k h. h) c.in_err-take-in-g.ensures)
