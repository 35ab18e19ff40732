-- Reads and writes of what two lists of words show, one after the other.
use Rattle.std.proofs.Common.{◌≡◌, ℕ, ◌-◌, ◌<◌, ◌≤◌, List, ◌++◌, length, get_or, set, Ok, sym, ap, ◌∙◌, arith, length-append, length-take}
use Rattle.std.proofs.lemmas.List.{get_or_append_left, get_or-append_right, set-append_left, set-append_right}
use Rattle.memory.specs.Words.{read_of, write_of, shown_length, shown, unshown}
use Rattle.memory.proofs.Shown.{answer_in, read_in, write_in, shown_set, unshown_set}

-- at an index of the first list, all of which is shown
module _ (a b : List ℕ) (i : ℕ) (whole : shown_length (length a) ≡ length a) (inside : i < length a) where
  first : i < shown_length (length (a ++ b))
  first = simp length-append (omega arith)

  pub read_first : read_of a i ≡ read_of (shown (a ++ b)) i
  read_first =
      answer_in (length a) i (get_or a i 0) inside ∙ ap Ok (sym (get_or_append_left a b 0 i inside)) ∙ sym (read_in (a ++ b) i first)

  pub write_first : write_of a i ≡ write_of (shown (a ++ b)) i
  write_first = answer_in (length a) i tt inside ∙ sym (write_in (a ++ b) i first)

  -- v was put there
  module _ (v : ℕ) (after : List ℕ) (put : after ≡ set a i v) where
    joined_first : after ++ b ≡ set (a ++ b) i v
    joined_first = ap (λ l. l ++ b) put ∙ sym (set-append_left a b i v inside)

    pub shown_first : shown (after ++ b) ≡ set (shown (a ++ b)) i v
    shown_first = ap shown joined_first ∙ shown_set (a ++ b) i v

    pub unshown_first : unshown (after ++ b) ≡ unshown (a ++ b)
    unshown_first = ap unshown joined_first ∙ unshown_set (a ++ b) i first v

-- past the first list, at an index that is shown
module _ (a b : List ℕ) (i n : ℕ) (start : length a ≡ n) (past : n ≤ i) (within : i < length (shown (a ++ b))) where
  second : i < shown_length (length (a ++ b))
  second = let h = simp length-take at within in omega arith

  inner : i - n < length b
  inner = let h = simp (length-take, length-append) at within in omega arith

  pub read_second : read_of b (i - n) ≡ read_of (shown (a ++ b)) i
  read_second =
      answer_in (length b) (i - n) (get_or b (i - n) 0) inner ∙ ap Ok (sym (get_or-append_right a b n i 0 start past))
      ∙ sym (read_in (a ++ b) i second)

  pub write_second : write_of b (i - n) ≡ write_of (shown (a ++ b)) i
  write_second = answer_in (length b) (i - n) tt inner ∙ sym (write_in (a ++ b) i second)

  -- v was put there
  module _ (v : ℕ) (after : List ℕ) (put : after ≡ set b (i - n) v) where
    joined_second : a ++ after ≡ set (a ++ b) i v
    joined_second = ap (λ l. a ++ l) put ∙ sym (set-append_right a b n i v start past)

    pub shown_second : shown (a ++ after) ≡ set (shown (a ++ b)) i v
    shown_second = ap shown joined_second ∙ shown_set (a ++ b) i v

    pub unshown_second : unshown (a ++ after) ≡ unshown (a ++ b)
    unshown_second = ap unshown joined_second ∙ unshown_set (a ++ b) i second v
