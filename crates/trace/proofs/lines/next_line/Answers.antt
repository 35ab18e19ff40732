use Rattle.std.proofs.Common.{eqb, length, sym, arith, rules}
use borrow.Author.Tests.{tests}
use Rattle.std.proofs.lemmas.Fn.{always_returns_same}
use Rattle.std.proofs.lemmas.List.{length-take, take-append-drop}
use Rattle.trace.proofs.Cutting.{first_part}
use Rattle.trace.proofs.lines.next_line.Goals as goal

pub returns : goal.returns
returns c =
    let text = c.args.text.now in
    let line = c.in_ok-line.line.now in
    let h = rw c.split_inclusive.ensures.rest at c.in_ok-line.ensures.steps in
    let first = (h.1.2 (λ b. eqb b 10) (always_returns_same _ _ _ (λ a r q k. search (rules, tests)))).1 in
    rw (c.split_at.ensures.front, c.split_at.ensures.back)
    (first_part text h.1.0 (length line) h.1.1 h.2 first, sym (take-append-drop (length line) text), simp length-take (omega (arith, h.1.1, h.2)))
