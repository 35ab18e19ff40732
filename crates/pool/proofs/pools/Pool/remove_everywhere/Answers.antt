use Rattle.std.proofs.Common.{◌≡◌, vec_items, refl, ap, ◌∙◌, add-one, arith}
use Rattle.layout.specs.Changes.{removed, removed_below}
use Rattle.layout.proofs.Holds.{removes_everywhere}
use Rattle.layout.proofs.Rest.{removed_everywhere_rest, same_kept}
use Rattle.pool.proofs.Fields.{sound_of}
use Rattle.pool.proofs.pools.Pool.remove_everywhere.Goals as goal

pub loop-number-init : goal.loop-number-init
unfolding removed_below
loop-number-init c = refl

pub loop-number-preserved : goal.loop-number-preserved
unfolding removed_below
loop-number-preserved c = rw add-one (c.remove.ensures.after ∙ ap (λ p. removed p c.loop-number.number c.args.page.number) c.loop-number.invariant)

pub returns : goal.returns
returns c =
    let e : c.loop-number.number ≡ 16 = omega arith in
    let x = c.loop-number.invariant ∙ ap (λ n. removed_below (vec_items c.args.self.now.words) c.args.page.number n) e in
    record {
      after = x;
      rest = same_kept _ _ _ x (removed_everywhere_rest _ c.args.page.number (sound_of c.args.self.now));
      law = removes_everywhere _ c.args.page.number (sound_of c.args.self.now) c.args.page.canonical;
    }
