use Rattle.std.proofs.Common.{sym, refl}
use Rattle.layout.proofs.Calls.{steps}
use Rattle.pool.proofs.pools.Pool.leaf_table.Goals as goal

pub returns-in_err-root-clause-value : goal.returns-in_err-root-clause-value
returns-in_err-root-clause-value c =
    let place = c.args.place in
    rw c.from_residual.ensures (sym (steps _ _ place.page.number _ _ 0 0 0 place.asid.few (sym c.in_err-root.ensures.value) refl refl refl refl))

pub returns-in_err-middle-clause-value : goal.returns-in_err-middle-clause-value
returns-in_err-middle-clause-value c =
    let place = c.args.place in
    rw c.from_residual-in_err-middle.ensures
    (sym (steps _ _ place.page.number _ _ _ 0 0 place.asid.few c.in_ok-root.ensures.value.0 c.index.ensures.value (sym c.in_err-middle.ensures.value) refl refl))

pub returns-clause-value : goal.returns-clause-value
returns-clause-value c =
    let place = c.args.place in
    rw (sym (steps _ _ place.page.number _ _ _ _ _ place.asid.few c.in_ok-root.ensures.value.0 c.index.ensures.value
    c.in_ok-middle.ensures.value.0 c.index-2.ensures.value refl)) c.below-2.ensures.value
