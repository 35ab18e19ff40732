-- Writing one piece after another.
use Rattle.std.proofs.Common.{◌≡◌, ℕ, ◌+◌, List, [], ◌++◌, length, take, drop, sym, refl, ap, ◌∙◌, subst, append_assoc, arith, length-append}
use Rattle.std.proofs.lemmas.List.{append-nil, drop-drop}
use Rattle.report.specs.Writing.{Wrote}

-- nothing written
pub wrote_none : (was : List ℕ) (at : ℕ) → Wrote was at [] was at
wrote_none was at = record { ends = omega arith; front = sym (append-nil _); rest = refl }

-- two lists that agree from m on agree from any later place
agree_later : (xs ys : List ℕ) (m n : ℕ) → drop m xs ≡ drop m ys → drop (m + n) xs ≡ drop (m + n) ys
agree_later xs ys m n e = sym (drop-drop n m xs) ∙ ap (drop n) e ∙ drop-drop n m ys

pub wrote_then : {was mid is s t : List ℕ} {at m end : ℕ} → Wrote was at s mid m → Wrote mid m t is end → Wrote was at (s ++ t) is end
wrote_then {was} {mid} {is} {s} {t} {at} {m} {end} v w = record {
  ends = omega (arith, v.ends, w.ends, length-append s t);
  front = w.front ∙ ap (λ l. l ++ t) v.front ∙ append_assoc (take at was) s t;
  rest = w.rest ∙ subst (λ e. drop e mid ≡ drop e was) (sym w.ends) (agree_later mid was m (length t) v.rest);
}
