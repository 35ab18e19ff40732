use Rattle.std.proofs.Common.{◌+◌, rules}
use Rattle.std.proofs.lemmas.List.{take_rest}
use borrow.Author.Tests.{tests}
use Rattle.std.proofs.lemmas.Iterator.{IsFirst-from_position, YieldsList-from_slice}
use Rattle.trace.specs.Marks.{Is}
use Rattle.trace.proofs.Cuts.{cut_first, lacks_all}
use Rattle.trace.proofs.marks.cut_at.Goals as goal

pub returns-in_err-at : goal.returns-in_err-at
returns-in_err-at c =
    let m = c.args.mark in
    let text = c.args.text.now in
    rw c.from_residual.ensures
    (lacks_all m text (IsFirst-from_position _ _ _ (λ b. Is m b) (λ b. Is m b → ⊥) c.in_err-at.ensures.ran (YieldsList-from_slice text cc) (λ x q k. search (rules, tests)) (λ x q k. search (rules, tests))))

pub returns : goal.returns
returns c =
    let m = c.args.mark in
    let text = c.args.text.now in
    rw (take_rest text (c.in_ok-at.at + 1))
    (cut_first m text c.in_ok-at.at (IsFirst-from_position _ _ _ (λ b. Is m b) (λ b. Is m b → ⊥) c.in_ok-at.ensures.ran (YieldsList-from_slice text cc) (λ x q k. search (rules, tests)) (λ x q k. search (rules, tests))))
