use Rattle.std.proofs.Common.{[], ◌∷◌, Some, None, codes, decimal}
use Rattle.std.proofs.lemmas.Slice.Eq.{strip_prefix_is, strip_suffix_is}
use Rattle.trace.proofs.Headings.{after_key, to_header}
use Rattle.trace.proofs.headers.read_header.Goals as goal
use Rattle.std.proofs.lemmas.Bool.Decides.{Decides-eqb}

pub returns-in_err-number : goal.returns-in_err-number
returns-in_err-number c =
    let line = c.args.line.now in
    let rest = c.in_ok-rest.rest in
    let key = strip_prefix_is Decides-eqb line (codes "frames=") (Some rest) c.in_ok-rest.ensures.cases in
    rw c.from_residual-in_err-number.ensures
    (λ n low high e. strip_suffix_is Decides-eqb rest.now (10 ∷ []) None c.in_err-number.ensures.cases (decimal n) (after_key line rest.now n key e))

pub returns : goal.returns
returns c =
    let line = c.args.line.now in
    let rest = c.in_ok-rest.rest in
    let number = c.in_ok-number.number in
    let key = strip_prefix_is Decides-eqb line (codes "frames=") (Some rest) c.in_ok-rest.ensures.cases in
    let end = strip_suffix_is Decides-eqb rest.now (10 ∷ []) (Some number) c.in_ok-number.ensures.cases in
    to_header line rest.now number.now c.read_decimal.result key end c.read_decimal.ensures
