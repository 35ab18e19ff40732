use Rattle.std.proofs.Common.{refl}
use Rattle.fields.proofs.Stepping.{after_key, no_value, handed}
use Rattle.fields.proofs.steps.field_at.Goals as goal

pub returns-in_err-tag : goal.returns-in_err-tag
returns-in_err-tag c =
    rw c.from_residual-in_err-tag.ensures
    (λ k v t r f. c.in_err-tag.ensures k (after_key c.args.line.now c.args.at c.in_ok-get.ensures.lookup.0.2 c.in_ok-key.ensures k v t r f).0)

pub returns-in_err-value : goal.returns-in_err-value
returns-in_err-value c =
    rw c.from_residual-in_err-value.ensures
    (λ k v t r f. no_value c.args.line.now c.args.at c.in_ok-get.ensures.lookup.0.2 c.in_ok-key.ensures k v t r f c.in_err-value.ensures)

pub returns : goal.returns
returns c =
    let get = c.in_ok-get.ensures.lookup.0 in
    let value = c.in_ok-value.value in
    rw c.at.ensures (handed c.args.line.now c.args.at get.2 c.in_ok-key.ensures value.after.now value.mark _ get.0 c.in_ok-value.ensures c.in_ok-tag.ensures refl)
