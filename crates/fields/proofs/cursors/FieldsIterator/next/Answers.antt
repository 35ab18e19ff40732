use Rattle.std.proofs.Common.{rules}
use Rattle.fields.proofs.Stepping.{goes_on}
use Rattle.fields.proofs.cursors.FieldsIterator.next.Goals as goal

pub returns-clause-goes : goal.returns-clause-goes
returns-clause-goes c =
    let f = c.args.self.now in
    let less = goes_on f.line.now f.at c.in_ok-step.step.field c.in_ok-step.step.next _ c.in_ok-step.ensures in
    search rules
