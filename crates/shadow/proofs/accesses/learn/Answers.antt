use Rattle.std.proofs.Common.{◌^◌, ◌<◌, vec_items, sym, ap, ◌∙◌, rules}
use Rattle.layout.specs.Sound.{is_leaf}
use Rattle.leaves.proofs.Words.{word_leaf}
use Rattle.shadow.specs.Answering.{learnt_made}
use Rattle.shadow.proofs.accesses.learn.Goals as goal

pub invariant_of-leaf : goal.invariant_of-leaf
invariant_of-leaf c =
    let small : c.args.grant.frame < 2 ^ 16 = search rules in
    record { leaf = ap is_leaf c.leaf_entry.ensures ∙ word_leaf c.args.grant small (sym c.if-not-has_some_right.ensures) c.requires.rights }

pub returns : goal.returns
returns c =
    let small : c.args.grant.frame < 2 ^ 16 = search rules in
    learnt_made (vec_items c.args.pool.now.words) _ c.args.grant c.in-Some.place.asid.number c.in-Some.place.page.number c.leaf_entry.result.word
    c.insert.ensures.after c.in-Some.ensures.0 c.in-Some.ensures.1 c.leaf_entry.ensures (sym c.if-not-has_some_right.ensures)
    c.in-Some.place.asid.few small
