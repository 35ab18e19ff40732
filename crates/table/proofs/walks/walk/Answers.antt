use Rattle.table.specs.Shape.{bits_of}
use Rattle.table.proofs.Chains.{follows}
use Rattle.table.proofs.walks.walk.Goals as goal

pub returns : goal.returns
returns g c =
    record {
      answer = c.descend.ensures.answer;
      chain = simp c.descend.ensures.answer (follows _ c.args.table.top (bits_of c.args.table.index) c.args.table.root.number c.args.page.number);
      fits = c.descend.ensures.fits;
    }
