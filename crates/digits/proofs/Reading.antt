-- On a text that `parse` reads, and whether it is how its number is written.
use Rattle.std.proofs.Common.{◌≡◌, ℕ, ◌^◌, ◌<◌, ◌≤◌, Bool, true, false, List, length, get_or, decimal, IsUtf8, Some, None, Ok, Err, Result, sym, refl, ap, ◌∙◌, subst, arith}
use Rattle.std.specs.Result.{result_ok}
use Rattle.std.specs.Bool.{then_some}
use Rattle.std.specs.Str.Parse.{IsNumeral, without_leading_plus, digits_value}
use Rattle.std.proofs.lemmas.Bool.Decides.{nat_tests}
use Rattle.std.proofs.lemmas.Str.{IsUtf8-from_ascii}
use Rattle.std.proofs.lemmas.Str.Parse.{numerals_by_value, tells_digits}
use Rattle.std.proofs.lemmas.Fmt.{first_decimal, length-decimal-le, IsAscii-decimal, decimal_is_IsNumeral, decimal-digits_value}
use Rattle.digits.specs.Decimal.{ReadsDecimal}

module _ {T E : Type 0} where
  -- what `ok` says of a result
  pub Ok-from_some : (r : Result T E) (x : T) → result_ok r ≡ Some x → r ≡ Ok x
  Ok-from_some (Ok y) x e = cc
  Ok-from_some (Err y) x e = absurd (cc)

  pub Err-from_none : (r : Result T E) → result_ok r ≡ None → (e : E) × (r ≡ Err e)
  Err-from_none (Ok y) e = absurd (cc)
  Err-from_none (Err y) e = (y, refl)

no_plus : (bs : List ℕ) → 48 < get_or bs 0 0 → without_leading_plus bs ≡ bs
no_plus bs h = grind (arith, nat_tests)

-- a number is written in UTF-8, with at most five digits, begins with no zero, and is what its digits come to
module _ (bs : List ℕ) (n : ℕ) (some : 0 < n) (small : n < 2 ^ 16) (e : bs ≡ decimal n) where
  pub utf8 : IsUtf8 bs
  utf8 = subst IsUtf8 (sym e) (IsUtf8-from_ascii (decimal n) (IsAscii-decimal n (omega arith)))

  pub short : length bs ≤ 5
  short = omega (arith, ap length e, length-decimal-le 5 n (omega arith) (omega arith) (omega arith))

  pub first : 48 < get_or bs 0 0
  first = omega (arith, first_decimal n some (omega arith), ap (λ l. get_or l 0 0) e)

  pub numeral : IsNumeral 10 (without_leading_plus bs) × (digits_value 10 (without_leading_plus bs) ≡ n)
  numeral = rw (no_plus bs first) (subst (λ l. IsNumeral 10 l × (digits_value 10 l ≡ n)) (sym e) (decimal_is_IsNumeral n (omega arith)))

-- a text of the digits of m, which begins with one over 0, is how m is written, and no other number is
module _ (bs : List ℕ) (m : ℕ) (small : m < 2 ^ 64) (digits : IsNumeral 10 (without_leading_plus bs)) (value : m ≡ digits_value 10 (without_leading_plus bs)) (front : 48 < get_or bs 0 0) where
  written : bs ≡ decimal m
  written =
      let same = no_plus bs front in
      let numeral = rw same at digits in
      let number = rw same at value in
      sym (ap decimal number
      ∙ decimal-digits_value (numerals_by_value _ tells_digits) bs numeral.1 numeral.0 (λ z. absurd (omega arith)) (omega (arith, number)))

  only : (n : ℕ) → 0 < n → n < 2 ^ 16 → bs ≡ decimal n → m ≡ n
  only n some fits e = value ∙ (numeral bs n some fits e).1

  -- a test of whether m lies within the limit tells the answer, and where it holds n is m
  pub reads : (limit n : ℕ) (b : Bool) → limit < 2 ^ 16 → (b ≡ true → (0 < n) × (n ≤ limit) × (n ≡ m)) → (b ≡ false → 0 < m → m ≤ limit → ⊥)
      → ReadsDecimal limit bs (then_some b n)
  reads limit n true fits holds fails = let r = holds refl in (r.0, r.1, written ∙ ap decimal (sym r.2))
  reads limit n false fits holds fails = λ k some within e.
      let o = only k some (omega arith) e in fails refl (omega arith) (omega arith)
