use Rattle.std.proofs.Common.{◌+◌, ◌-◌, ◌<◌, suc, ◌∷◌, length, drop, refl, ap, arith}
use Rattle.std.proofs.lemmas.List.{take_more_set, set_split}
use Rattle.fields.specs.Endings.{byte_of}
use Rattle.fields.proofs.Scanning.{nowhere, stray, ended, begun, onward}
use Rattle.fields.proofs.scans.scan.Goals as goal

pub loop-n-init : goal.loop-n-init
loop-n-init c = begun _ _ _

pub returns-in_err-step : goal.returns-in_err-step
returns-in_err-step c =
    let left = length c.args.fields.now - c.loop-n.n in
    rw c.from_residual.ensures
    (c.loop-n.invariant.none left (omega arith) (nowhere c.args.line.now c.loop-n.next left c.in_err-step.ensures))

pub returns-in-LineFeed : goal.returns-in-LineFeed
returns-in-LineFeed c =
    let fs = c.loop-n.fields in
    let n = c.loop-n.n in
    let f = c.in_ok-step.step.field in
    let rest = drop (suc n) fs in
    let below : n < length fs = omega arith in
    c.loop-n.invariant.found _ (f ∷ rest) (n + 1) 1 (set_split fs n f below) refl
    (ended c.in_ok-step.ensures rest (ap byte_of c.in-LineFeed.is) c.if-step-line.true)

pub returns-in-LineFeed-2 : goal.returns-in-LineFeed-2
returns-in-LineFeed-2 c =
    let left = length c.args.fields.now - c.loop-n.n in
    c.loop-n.invariant.none left (omega arith)
    (stray c.in_ok-step.ensures left (ap byte_of c.in-LineFeed-2.is) c.if-step-line.false)

pub loop-n-preserved : goal.loop-n-preserved
loop-n-preserved c =
    let below : c.loop-n.n < length c.loop-n.fields = omega arith in
    onward c.loop-n.invariant c.in_ok-step.ensures (ap byte_of c.in-Space.is) (take_more_set _ _ _ below)

pub returns : goal.returns
returns c = c.loop-n.invariant.none 0 (omega arith) (λ f fs l p e. omega arith)
