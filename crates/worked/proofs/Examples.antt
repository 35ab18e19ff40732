-- The worked examples, by computing the walks.
use Rattle.std.proofs.Common.{refl}
use Rattle.table.specs.Walk.{walk_from}
use Rattle.stages.specs.Stages.{translate_of}
use Rattle.history_examples.specs.Editing.{words}
use Rattle.history_examples.proofs.Edited.{edits_unsettled}
use Rattle.worked.specs.Examples.{Examples}
use Rattle.worked.proofs.Buffered.{remembers}

pub examples : Examples
unfolding words translate_of walk_from
examples =
    record {
      granted = refl;
      denied = refl;
      misaligned = refl;
      not_canonical = refl;
      unmapped = refl;
      remembered = remembers;
      faulted = refl;
      unsettled = edits_unsettled _;
    }
