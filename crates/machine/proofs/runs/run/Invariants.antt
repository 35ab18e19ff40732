use Rattle.std.proofs.Common.{◌≡◌, take, vec_items, vec_len, vec_capacity}
use Rattle.memory.specs.Keeping.{Keeps}
use Rattle.history.specs.Runs.{Ran}
use Rattle.machine.specs.Machines.{moment_of}
use Rattle.machine.proofs.runs.run.Given as goal

abbrev pub invariant-loop-call : goal.invariant-loop-call
invariant-loop-call g l =
    (vec_len l.answers ≡ l.call-index) ×
    (vec_capacity l.answers ≡ vec_capacity l.initial.answers) ×
    Keeps g.M.Memory l.initial.memory l.memory ×
    Ran g.T.Translator
    (moment_of (g.M.Memory.words l.initial.memory) l.initial.machine) l.initial.translator
    (take l.call-index l.calls) (vec_items l.answers)
    (moment_of (g.M.Memory.words l.memory) l.machine) l.translator
