use Rattle.std.proofs.Common.{ℕ, Bool, List, [], None, refl}
use Rattle.digits.specs.Hexadecimal.{hex_of}
use Rattle.fields.specs.declared.tags.Tag.TheVariants.{Mode, Sum, Mxr, Va}
use Rattle.fields.specs.Items.{Item}
use Rattle.fields.specs.Cursors.{left_of}
use Rattle.values.specs.Texts.{mode_text, bit_text}
use Rattle.operands.specs.Texts.{target_items}
use Rattle.operands.specs.Reads.{Takes}
use Rattle.operands.proofs.Tails.{one, both, no_first, no_second}
use Rattle.operands.proofs.reads.target.Goals as goal

-- the fields from the bit MXR on
abbrev two : Bool × ℕ → List Item
two = both (one Mxr bit_text) (one Va (hex_of 16))

-- the fields from the bit SUM on
abbrev three : Bool × (Bool × ℕ) → List Item
three = both (one Sum bit_text) two

-- where its fields are not next, a target is not
no_target : {left : List ℕ} (on : List ℕ) → Takes (both (one Mode mode_text) three) left None on → Takes (λ t. target_items t []) left None on
no_target on none = (λ t. none.0 (t.mode, (t.sum, (t.mxr, t.address))), none.1)

pub returns-in_err-take : goal.returns-in_err-take
returns-in_err-take c =
    let end = left_of c.take.new.fields in
    rw c.from_residual.ensures (no_target end (no_first (one Mode mode_text) three end c.in_err-take.ensures))

pub returns-in_err-take-2 : goal.returns-in_err-take-2
returns-in_err-take-2 c =
    let end = left_of c.take-2.new.fields in
    rw c.from_residual-in_err-take-2.ensures
    (no_target end (no_second (one Mode mode_text) three c.in_ok-take.field-0 (left_of c.take.new.fields) end (λ b. refl) c.in_ok-take.ensures
    (no_first (one Sum bit_text) two end c.in_err-take-2.ensures)))

pub returns-in_err-take-3 : goal.returns-in_err-take-3
returns-in_err-take-3 c =
    let end = left_of c.take-3.new.fields in
    rw c.from_residual-in_err-take-3.ensures
    (no_target end (no_second (one Mode mode_text) three c.in_ok-take.field-0 (left_of c.take.new.fields) end (λ b. refl) c.in_ok-take.ensures
    (no_second (one Sum bit_text) two c.in_ok-take-2.field-0 (left_of c.take-2.new.fields) end (λ b. refl) c.in_ok-take-2.ensures
    (no_first (one Mxr bit_text) (one Va (hex_of 16)) end c.in_err-take-3.ensures))))

pub returns-in_err-take-4 : goal.returns-in_err-take-4
returns-in_err-take-4 c =
    let end = left_of c.take-4.new.fields in
    rw c.from_residual-in_err-take-4.ensures
    (no_target end (no_second (one Mode mode_text) three c.in_ok-take.field-0 (left_of c.take.new.fields) end (λ b. refl) c.in_ok-take.ensures
    (no_second (one Sum bit_text) two c.in_ok-take-2.field-0 (left_of c.take-2.new.fields) end (λ b. refl) c.in_ok-take-2.ensures
    (no_second (one Mxr bit_text) (one Va (hex_of 16)) c.in_ok-take-3.field-0 (left_of c.take-3.new.fields) end (λ b. refl) c.in_ok-take-3.ensures
    c.in_err-take-4.ensures))))
