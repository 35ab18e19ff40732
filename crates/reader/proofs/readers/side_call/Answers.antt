use Rattle.fields.specs.Cursors.{left_of}
use Rattle.reader.proofs.Sides.{no_rest, ended}
use Rattle.reader.proofs.readers.side_call.Goals as goal

pub returns-in_err-call : goal.returns-in_err-call
returns-in_err-call g c =
    rw c.from_residual.ensures
    (no_rest g.C.SideCall.letter g.C.SideCall.rest c.requires c.args.letter (left_of c.args.fields) (left_of c.read.new.fields) c.in_err-call.ensures)

pub returns : goal.returns
returns g c =
    rw c.then_some.ensures
    (ended g.C.SideCall.letter g.C.SideCall.rest c.requires c.args.letter (left_of c.args.fields) (left_of c.read.new.fields)
    c.in_ok-call.call c.in_ok-call.ensures c.is_done.result c.is_done.ensures)
