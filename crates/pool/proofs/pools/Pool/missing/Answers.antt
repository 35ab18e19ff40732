use Rattle.std.proofs.Common.{sym, refl, ◌∙◌, arith}
use Rattle.layout.proofs.Calls.{counts, lack_of-table, lack_of-frame}
use Rattle.pool.proofs.pools.Pool.missing.Goals as goal

pub returns-in_default-clause-value : goal.returns-in_default-clause-value
returns-in_default-clause-value c =
    let place = c.args.place in
    counts _ _ place.page.number _ _ 0 0 0 place.asid.few (sym c.in_default.ensures.value) refl refl refl refl 1 1 1 refl refl refl

pub returns-in_default-below-clause-value : goal.returns-in_default-below-clause-value
returns-in_default-below-clause-value c =
    let place = c.args.place in
    let root = c.in-Some.ensures.value in
    counts _ _ place.page.number _ _ _ 0 0 place.asid.few root.0 c.index.ensures.value (sym c.in_default-below.ensures.value) refl refl
    0 1 1 (sym (lack_of-table _ root.1)) refl refl

pub returns-clause-value : goal.returns-clause-value
returns-clause-value c =
    let place = c.args.place in
    let root = c.in-Some.ensures.value in
    let middle = c.in-Some-below.ensures.value in
    let count = counts _ _ place.page.number _ _ _ _ _ place.asid.few root.0 c.index.ensures.value middle.0 c.index-2.ensures.value refl
    0 0 _ (sym (lack_of-table _ root.1)) (sym (lack_of-table _ middle.1)) (c.from.ensures ∙ lack_of-frame _ _ _ c.below-2.ensures.value c.is_none.ensures) in
    omega arith
