-- On the header of a trace.
use Rattle.std.proofs.Common.{◌≡◌, ℕ, List, [], ◌∷◌, ◌++◌, Some, None, codes, decimal, Option, sym, ap, ◌∙◌}
use Rattle.std.proofs.lemmas.List.{append_cancel_left, append_cancel_right}
use Rattle.digits.specs.Decimal.{ReadsDecimal}
use Rattle.trace.specs.Headers.{header_text, ReadsHeader}

-- what follows the key
pub after_key : (line after : List ℕ) (n : ℕ) → line ≡ codes "frames=" ++ after → line ≡ header_text n → after ≡ decimal n ++ (10 ∷ [])
after_key line after n p e = append_cancel_left (codes "frames=") after (decimal n ++ (10 ∷ [])) (sym p ∙ e)

-- what is read of the number is read of the line
pub to_header : (line after number : List ℕ) (r : Option ℕ) → line ≡ codes "frames=" ++ after → after ≡ number ++ (10 ∷ [])
    → ReadsDecimal 4096 number r → ReadsHeader line r
to_header line after number (Some n) p q h = (h.0, h.1, p ∙ ap (λ l. codes "frames=" ++ l) (q ∙ ap (λ l. l ++ (10 ∷ [])) h.2))
to_header line after number None p q h = λ n low high e.
    h n low high (append_cancel_right number (decimal n) (10 ∷ []) (sym q ∙ after_key line after n p e))
