-- On the lines of a text.
use Rattle.std.proofs.Common.{◌≡◌, ℕ, zero, suc, ◌+◌, ◌<◌, ◌≤◌, min, eqb, List, [], ◌∷◌, length, take, drop, sym, refl, ap, ◌∙◌, ⊎_elim, arith}
use Rattle.std.specs.List.{flat_map, IsFirstMatchOrLen}
use Rattle.std.proofs.lemmas.Bool.{cases_Bool, cases_lt, cond-true, cond-false}
use Rattle.std.proofs.lemmas.List.{take_all, drop_all}
use Rattle.trace.specs.Lines.{on_first, lines_of, LinesJoin}

-- the first line ends with the first LF, or with the text
pub first_line : (text : List ℕ) (i : ℕ) → 0 < length text → IsFirstMatchOrLen (λ b. eqb b 10) text i
    → lines_of text ≡ take (suc i) text ∷ lines_of (drop (suc i) text)
unfolding lines_of
first_line [] i some first = absurd (omega arith)
first_line (b ∷ bs) zero some first = cond-true (eqb b 10) _ _ (first.1 (omega arith) 0)
first_line (b ∷ []) (suc i) some first = cond-false (eqb b 10) _ _ (first.0 0 0 (omega arith) (omega arith))
first_line (b ∷ c ∷ cs) (suc i) some first =
    cond-false (eqb b 10) _ _ (first.0 0 0 (omega arith) (omega arith))
    ∙ ap (on_first b) (first_line (c ∷ cs) i (omega arith) (λ k d l h. first.0 (suc k) d (omega arith) (omega arith), λ h. first.1 (omega arith)))

-- the same of a part that is cut off where that line ends
pub first_part : (text : List ℕ) (i n : ℕ) → n ≡ min (i + 1) (length text) → 0 < length text
    → IsFirstMatchOrLen (λ b. eqb b 10) text i → lines_of text ≡ take n text ∷ lines_of (drop n text)
first_part text i n cut some first =
    let line = first_line text i some first in
    ⊎_elim
    (λ low. let e : n ≡ suc i = omega arith in rw e line)
    (λ high.
    let front : take n text ≡ take (suc i) text = take_all n text (omega arith) ∙ sym (take_all (suc i) text (omega arith)) in
    let back : drop n text ≡ drop (suc i) text = drop_all n text (omega arith) ∙ sym (drop_all (suc i) text (omega arith)) in
    rw (front, back) line)
    (cases_lt i (length text))

-- a text has no more lines than bytes
pub lines_short : (text : List ℕ) → length (lines_of text) ≤ length text
unfolding lines_of
lines_short [] = omega arith
lines_short (b ∷ bs) =
    let first : (ls : List (List ℕ)) → length (on_first b ls) ≤ 1 + length ls = elim [ [] ↦ omega arith | l ∷ ls ↦ omega arith ] in
    let rest = lines_short bs in
    ⊎_elim
    (λ e. rw (cond-true (eqb b 10) ((b ∷ []) ∷ lines_of bs) (on_first b (lines_of bs)) e) (omega arith))
    (λ e. rw (cond-false (eqb b 10) ((b ∷ []) ∷ lines_of bs) (on_first b (lines_of bs)) e) (omega (arith, first (lines_of bs))))
    (cases_Bool (eqb b 10))

join_first : (b : ℕ) (ls : List (List ℕ)) → flat_map (λ l. l) (on_first b ls) ≡ b ∷ flat_map (λ l. l) ls
join_first b [] = refl
join_first b (l ∷ ls) = refl

pub lines_join : LinesJoin
unfolding lines_of
lines_join [] = refl
lines_join (b ∷ bs) =
    let rest = ap (λ l. b ∷ l) (lines_join bs) in
    ⊎_elim
    (λ e. ap (flat_map (λ l. l)) (cond-true (eqb b 10) ((b ∷ []) ∷ lines_of bs) (on_first b (lines_of bs)) e) ∙ rest)
    (λ e. ap (flat_map (λ l. l)) (cond-false (eqb b 10) ((b ∷ []) ∷ lines_of bs) (on_first b (lines_of bs)) e) ∙ join_first b (lines_of bs) ∙ rest)
    (cases_Bool (eqb b 10))
