use Rattle.memory.specs.Keeping.{Keeps}
use Rattle.trace.specs.Lines.{lines_of, lines_left}
use Rattle.machine.specs.Machines.{moment_of}
use Rattle.player.proofs.Progress.{Progress}
use Rattle.player.proofs.plays.play_lines.Given as goal

abbrev pub invariant-loop-line : goal.invariant-loop-line
invariant-loop-line g l =
    Keeps g.M.Memory l.initial.memory l.memory ×
    Progress g.T.Translator
    (moment_of (g.M.Memory.words l.initial.memory) l.initial.cursor.machine) l.initial.translator (lines_of l.fn.calls) l.initial.report
    (lines_left l.line-iterator) l.cursor.count l.cursor.end
    (moment_of (g.M.Memory.words l.memory) l.cursor.machine) l.translator l.report
