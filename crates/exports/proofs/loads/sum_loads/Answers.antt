use Rattle.std.proofs.Common.{rules}
use Rattle.history.proofs.Theorem.{runs_agree}
use Rattle.exports.proofs.Running.{host_accepted, host_refused, guest_refused, runs_loads}
use Rattle.exports.proofs.Agreeing.{sum_is_plain}
use Rattle.exports.proofs.loads.sum_loads.Goals as goal

pub returns-in_err-root : goal.returns-in_err-root
returns-in_err-root g c =
    let ws = g.M.Memory.words c.args.memory.now in
    let guest = c.in_ok-try_from.ensures.0 in
    let host =
    host_refused ws c.new-host.result.roots c.root.new.self.roots c.args.registers.host_root c.in_err-root.field-0.0
    (c.in_err-root.ensures ws) in
    search rules

pub returns-in_err-root-2 : goal.returns-in_err-root-2
returns-in_err-root-2 g c =
    let ws = g.M.Memory.words c.args.memory.now in
    let guest = c.in_ok-try_from.ensures.0 in
    let again =
    guest_refused ws c.enter-guest.result.roots c.root-2.new.self.roots c.args.registers.guest_root c.in_err-root-2.field-0.0
    (c.in_err-root-2.ensures ws) in
    search rules

pub returns : goal.returns
returns g c =
    let ws = g.M.Memory.words c.args.memory.now in
    let rooted = c.in_ok-root.ensures ws in
    let agree =
    runs_agree g.T.Translator
    g.met.T.Translator.answered g.met.T.Translator.fenced g.met.T.Translator.cleared in
    let run =
    runs_loads ws c.args.registers.guest_root c.args.registers.host_root c.new-host.result.roots c.root.new.self.roots c.enter-guest.result.roots
    c.root-2.new.self.roots c.args.translator.now c.new-host.new.translator c.sum_words.new.translator c.args.addresses.now
    c.sum_words.result (c.new-host.ensures.made ws) c.new-host.ensures.fenced rooted c.enter-guest.ensures (c.in_ok-root-2.ensures ws)
    c.sum_words.ensures in
    let kept = host_accepted ws c.new-host.result.roots c.root.new.self.roots c.args.registers.host_root rooted in
    record {
      plain =
          sum_is_plain g.T.Translator agree c.args.translator.now ws c.args.registers.guest_root c.args.registers.host_root c.args.addresses.now
          c.sum_words.result c.in_ok-try_from.ensures.0 kept run;
      run = run;
    }
