use Rattle.std.proofs.Common.{◌≡◌, ◌+◌, ◌-◌, replicate, ap, ◌∙◌, rules, arith}
use Rattle.layout.proofs.Takes.{filled_cleared}
use Rattle.pool.proofs.words.clear.Goals as goal

pub returns : goal.returns
returns c =
    let k : c.args.start + c.args.count - c.args.start ≡ c.args.count = omega arith in
    let z : c.fill.new.self ≡ replicate (c.args.start + c.args.count - c.args.start) 0 = search rules in
    rw k (filled_cleared _ _ _ c.requires _ (z ∙ ap (λ n. replicate n 0) k))
