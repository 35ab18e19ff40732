use Rattle.std.proofs.Common.{◌≡◌, length, refl, sym, ap, ◌∙◌, subst, arith}
use Rattle.trace.specs.Lines.{lines_of, lines_left}
use Rattle.history.proofs.Theorem.{runs_agree}
use Rattle.machine.specs.Machines.{moment_of}
use Rattle.sides.specs.Sides.{host_moment}
use Rattle.player.proofs.Progress.{Progress, words_of, progress_none, progress_room, progress_more, progress_all}
use Rattle.player.proofs.plays.play_lines.Goals as goal

pub loop-line-init : goal.loop-line-init
loop-line-init g c =
    let m = host_moment (g.M.Memory.words c.args.memory.now) c.new.result.roots in
    let all : lines_left c.into_iter-line-iterator.result ≡ lines_of c.args.calls.now =
    ap lines_left c.into_iter-line-iterator.ensures.into_iter_gives ∙ c.new-line-items.ensures.lines in
    ((refl, refl), subst (λ left. Progress g.T.Translator m c.new.new.translator (lines_of c.args.calls.now) c.args.report.now left 0 0 m c.new.new.translator c.args.report.now) (sym all) (progress_none m c.new.new.translator (lines_of c.args.calls.now) c.args.report.now))

pub play_line-cursor-requires : goal.play_line-cursor-requires
play_line-cursor-requires g c =
    let room = progress_room c.loop-line.invariant.1 c.in-Some.line.now (lines_left c.next.new.self) c.in-Some.ensures.steps (length c.args.report.now) c.requires.room in
    record { few = omega (arith, room.0, c.requires.few); room = omega (arith, room.1, c.loop-line.auto.report) }

pub loop-line-preserved : goal.loop-line-preserved
loop-line-preserved g c =
    let i = c.loop-line.invariant in
    let e = c.play_line-cursor.ensures in
    let more =
    progress_more i.1 c.in-Some.line.now (lines_left c.next.new.self) (moment_of (g.M.Memory.words c.play_line-cursor.new.memory) c.play_line-cursor.result.machine)
    c.play_line-cursor.new.translator c.play_line-cursor.new.report c.play_line-cursor.result.end c.in-Some.ensures.steps e.played in
    ((e.kept.0 ∙ i.0.0, e.kept.1 ∙ i.0.1), simp e.counted more)

pub returns-clause-played : goal.returns-clause-played
returns-clause-played g c =
    let i = c.loop-line.invariant in
    let ws = g.M.Memory.words c.args.memory.now in
    let vs = g.M.Memory.words c.loop-line.memory in
    let agree =
    runs_agree g.T.Translator
    g.met.T.Translator.answered g.met.T.Translator.fenced g.met.T.Translator.cleared in
    progress_all i.1 agree ws c.args.translator.now vs (c.new.ensures.made ws) c.new.ensures.fenced c.in-None.ensures.steps.0 (words_of vs c.loop-line.cursor.machine)
