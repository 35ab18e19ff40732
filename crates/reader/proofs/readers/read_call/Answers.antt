use Rattle.std.proofs.Common.{[], ◌∷◌, Some, None, subst}
use Rattle.fields.specs.declared.tags.Tag.TheVariants.{Op}
use Rattle.fields.specs.Cursors.{left_of}
use Rattle.operands.specs.Reads.{Takes}
use Rattle.reader.proofs.Lines.{no_call, by_letter}
use Rattle.reader.proofs.readers.read_call.Goals as goal

pub returns-in-Some : goal.returns-in-Some
returns-in-Some c =
    let on = left_of c.take.new.fields in
    by_letter c.args.line.now on c.in-Some.letter
    (subst (λ l. Takes (λ b. (Op, b ∷ []) ∷ []) l (Some c.in-Some.letter) on) c.new-fields.ensures c.in-Some.ensures) c.call_of.result c.call_of.ensures

pub returns-in-None : goal.returns-in-None
returns-in-None c =
    let on = left_of c.take.new.fields in
    no_call c.args.line.now on (subst (λ l. Takes (λ b. (Op, b ∷ []) ∷ []) l None on) c.new-fields.ensures c.in-None.ensures)
