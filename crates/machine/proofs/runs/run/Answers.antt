use Rattle.std.proofs.Common.{◌<◌, ◌≤◌, length, get_or, take, vec_items, refl, ◌∙◌, arith}
use Rattle.std.proofs.lemmas.List.{take_more, take_all}
use Rattle.calls.specs.declared.Call.TheVariants.{Host}
use Rattle.calls.specs.declared.HostCall.TheVariants.{Load}
use Rattle.history.specs.Moments.{start}
use Rattle.history.specs.Settled.{plain_at, AllSettled}
use Rattle.history.specs.Runs.{Played}
use Rattle.history.specs.Theorem.{Agrees, FaithfulRun}
use Rattle.history.proofs.Pushed.{ran_none, ran_push}
use Rattle.history.proofs.Theorem.{runs_agree}
use Rattle.machine.specs.Machines.{moment_of}
use Rattle.sides.specs.Sides.{host_moment}
use Rattle.machine.proofs.runs.run.Goals as goal

pub loop-call-init : goal.loop-call-init
loop-call-init g c =
    let m = c.in_ok-answers.ensures in
    let none = ran_none g.T.Translator
    (host_moment (g.M.Memory.words c.args.memory.now) c.new.result.roots) c.new.new.translator in
    (m.len, refl, (refl, refl), simp m.items none)

pub loop-call-preserved : goal.loop-call-preserved
loop-call-preserved g c =
    let i = c.loop-call.invariant in
    let p = c.push_reserved.ensures in
    let e = c.call-next.ensures in
    let below : c.loop-call.call-index < length c.args.calls.now = omega arith in
    let r = ran_push g.T.Translator
    (host_moment (g.M.Memory.words c.args.memory.now) c.new.result.roots) c.new.new.translator
    (take c.loop-call.call-index c.args.calls.now) (vec_items c.loop-call.answers)
    (moment_of (g.M.Memory.words c.loop-call.memory) c.loop-call.machine) c.loop-call.translator
    (get_or c.args.calls.now c.loop-call.call-index (Host (Load 0))) c.call-next.result.1
    (moment_of (g.M.Memory.words c.call-next.new.memory) c.call-next.result.0) c.call-next.new.translator
    i.3 e.stepped in (
      omega arith,
      cc,
      (e.kept.0 ∙ i.2.0, e.kept.1 ∙ i.2.1),
      simp (take_more c.args.calls.now c.loop-call.call-index (Host (Load 0)) below, p.items) r,
    )

pub returns : goal.returns
returns g c =
    let i = c.loop-call.invariant in
    let cs = c.args.calls.now in
    let xs = vec_items c.loop-call.answers in
    let ws = g.M.Memory.words c.args.memory.now in
    let end = moment_of (g.M.Memory.words c.loop-call.memory) c.loop-call.machine in
    let done : length cs ≤ c.loop-call.call-index = omega arith in
    let ran = simp (take_all c.loop-call.call-index cs done, c.new.ensures.made ws) at i.3 in
    let played : Played g.T.Translator (start ws) c.args.translator.now cs xs end c.loop-call.translator =
    (c.new.new.translator, c.new.ensures.fenced, ran) in
    let both : FaithfulRun g.T.Translator (start ws) c.args.translator.now cs xs end c.loop-call.translator × (AllSettled (plain_at (start ws) cs) cs → Agrees (start ws) cs xs end) =
    runs_agree g.T.Translator
    g.met.T.Translator.answered g.met.T.Translator.fenced g.met.T.Translator.cleared
    (start ws) c.args.translator.now cs xs end c.loop-call.translator played in
    record { played = played; agrees = both.1; faithful = both.0; unchanged = tt; kept = i.2 }
