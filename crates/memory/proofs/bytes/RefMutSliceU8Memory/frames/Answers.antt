-- The words that are shown fill the frames.
use Rattle.std.proofs.Common.{arith, length-take, rules}
use Rattle.std.proofs.lemmas.List.FromFn.{length-map-range_with_len}
use Rattle.memory.proofs.bytes.RefMutSliceU8Memory.frames.Goals as goal

pub returns : goal.returns
returns c = record { whole = simp (length-take, length-map-range_with_len) (omega arith); few = search rules }
