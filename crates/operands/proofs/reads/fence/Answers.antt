use Rattle.std.proofs.Common.{refl}
use Rattle.digits.specs.Hexadecimal.{hex_of}
use Rattle.fields.specs.declared.tags.Tag.TheVariants.{Va, Asid}
use Rattle.fields.specs.Cursors.{left_of}
use Rattle.values.specs.Texts.{all_or}
use Rattle.operands.proofs.Tails.{one, no_second}
use Rattle.operands.proofs.reads.fence.Goals as goal

pub returns-in_err-take-2 : goal.returns-in_err-take-2
returns-in_err-take-2 c =
    let none = no_second (one Va (all_or (hex_of 16))) (one Asid (all_or (hex_of 4))) c.in_ok-take.field-0 (left_of c.take.new.fields) (left_of c.take-2.new.fields) (λ b. refl)
    c.in_ok-take.ensures c.in_err-take-2.ensures in
    rw c.from_residual-in_err-take-2.ensures (λ f. none.0 (f.address, f.asid), none.1)
