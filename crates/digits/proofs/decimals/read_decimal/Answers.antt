use Rattle.std.proofs.Common.{sym, ◌∙◌, arith}
use Rattle.std.proofs.lemmas.Bool.Decides.{nat_tests}
use Rattle.digits.proofs.Reading.{Ok-from_some, Err-from_none, utf8, numeral, reads}
use Rattle.digits.proofs.decimals.read_decimal.Goals as goal

pub returns-in_err-ok : goal.returns-in_err-ok
returns-in_err-ok c =
    let failed = Err-from_none c.from_utf8.result (sym c.ok.ensures.value ∙ c.in_err-ok.was) in
    rw c.from_residual.ensures
    (λ n h s e. (rw failed.1 at c.from_utf8.ensures.cases).0 (utf8 c.args.bytes.now n h (omega arith) e))

pub returns-in_err-n : goal.returns-in_err-n
returns-in_err-n c =
    let text = Ok-from_some c.from_utf8.result c.in_ok-ok.field-0 (sym c.ok.ensures.value ∙ c.in_ok-ok.was) in
    let same = (rw text at c.from_utf8.ensures.cases).0 in
    let failed = Err-from_none c.parse.result (sym c.ok-2.ensures.value ∙ c.in_err-n.was) in
    let refused = rw (same, failed.1) at c.parse.ensures.value.0 in
    rw c.from_residual-in_err-n.ensures
    (λ n h s e. let number = numeral c.args.bytes.now n h (omega arith) e in refused (number.0, omega (arith, number.1)))

pub returns : goal.returns
returns c =
    let text = Ok-from_some c.from_utf8.result c.in_ok-ok.field-0 (sym c.ok.ensures.value ∙ c.in_ok-ok.was) in
    let same = (rw text at c.from_utf8.ensures.cases).0 in
    let number = Ok-from_some c.parse.result c.in_ok-n.n (sym c.ok-2.ensures.value ∙ c.in_ok-n.was) in
    let read = rw (same, number) at c.parse.ensures.value.0 in
    let test = c.contains.ensures.cases in
    rw c.then_some.ensures
    (reads c.args.bytes.now c.in_ok-n.n (omega arith) read.0.0 read.1 (omega arith) c.args.limit _ _ (omega arith)
    (λ e. grind (arith, nat_tests, test, e))
    (λ e some within. grind (arith, nat_tests, test, e, some, within)))
