use Rattle.fields.specs.Cursors.{left_of}
use Rattle.operands.proofs.Tails.{took}
use Rattle.operands.proofs.reads.take.Goals as goal

pub returns : goal.returns
returns g c =
    took g.V.Value.text c.args.tag _ c.in_ok-value.field-0.now (left_of c.value.new.self) c.read.result c.in_ok-value.ensures.value c.read.ensures
