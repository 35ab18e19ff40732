-- The words that a walk reads: they decide the walk, and there is at most one of each level.
use Rattle.std.proofs.Common.{◌≡◌, ℕ, zero, suc, ◌≤◌, Bool, true, false, cond, ◌||◌, List, [], length, Ok, Err, Result, refl, ap, ◌∙◌, arith}
use Rattle.std.specs.List.{AllByRecursion}
use Rattle.entry.specs.Entry.{is_global, is_pointer, frame_of, stops}
use Rattle.table.specs.Walk.{word_of, words_after, words_from, on_word, walk_from}
use Rattle.table.specs.Laws.{ReadsDecide, OneWordALevel}

-- two answers by one test that differ only where the walk goes on to read
same_on : {X : Type 0} (P : ℕ → Type 0) (stop point : Bool) (rest : List ℕ) (x y y' z : X) → (AllByRecursion P rest → y ≡ y')
    → AllByRecursion P (cond stop [] (cond point rest [])) → cond stop x (cond point y z) ≡ cond stop x (cond point y' z)
same_on P true point rest x y y' z go h = refl
same_on P false true rest x y y' z go h = go h
same_on P false false rest x y y' z go h = refl

few_on : (n : ℕ) (stop point : Bool) (rest : List ℕ) → length rest ≤ n → length (cond stop [] (cond point rest [])) ≤ n
few_on n true point rest h = omega arith
few_on n false true rest h = h
few_on n false false rest h = omega arith

module _ (F : Type 0) where
  module _ (r s : ℕ → Result ℕ F) (top wide p : ℕ) where
    same_after : (level : ℕ) (g : Bool)
        → ((f : ℕ) (k : Bool) → AllByRecursion (λ i. r i ≡ s i) (words_from r top wide p level f) → walk_from r top wide p level f k ≡ walk_from s top wide p level f k)
        → (q : Result ℕ F) → AllByRecursion (λ i. r i ≡ s i) (words_after r top wide p level (words_from r top wide p level) q)
        → on_word r top wide p level g (walk_from r top wide p level) q ≡ on_word s top wide p level g (walk_from s top wide p level) q
    same_after level g go (Err e) h = refl
    same_after level g go (Ok w) h =
        same_on (λ i. r i ≡ s i) (stops level w) (is_pointer w) (words_from r top wide p level (frame_of w)) _ _ _ _ (go (frame_of w) (g || is_global w)) h

    same_from : (n f : ℕ) (g : Bool) → AllByRecursion (λ i. r i ≡ s i) (words_from r top wide p n f) → walk_from r top wide p n f g ≡ walk_from s top wide p n f g
    unfolding walk_from words_from
    same_from zero f g h = refl
    same_from (suc level) f g h =
        same_after level g (λ f' k. same_from level f' k) (r (word_of top wide p level f)) h.1
        ∙ ap (on_word s top wide p level g (walk_from s top wide p level)) h.0

  module _ (r : ℕ → Result ℕ F) (top wide p : ℕ) where
    few_after : (level : ℕ) → ((f : ℕ) → length (words_from r top wide p level f) ≤ level) → (q : Result ℕ F)
        → length (words_after r top wide p level (words_from r top wide p level) q) ≤ level
    few_after level go (Err e) = omega arith
    few_after level go (Ok w) = few_on level (stops level w) (is_pointer w) (words_from r top wide p level (frame_of w)) (go (frame_of w))

    few_from : (n f : ℕ) → length (words_from r top wide p n f) ≤ n
    unfolding words_from
    few_from zero f = omega arith
    few_from (suc level) f = let h = few_after level (few_from level) (r (word_of top wide p level f)) in omega arith

  pub decide : ReadsDecide F
  decide r s top wide root p h = same_from r s top wide p (suc top) root false h

  pub one_a_level : OneWordALevel F
  one_a_level r top wide root p = few_from r top wide p (suc top) root
