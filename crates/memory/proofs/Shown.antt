-- Reads and writes of the words that are shown.
use Rattle.std.proofs.Common.{◌≡◌, ℕ, ◌<◌, ◌≤◌, List, length, get_or, set, Ok, Err, sym, ap, ◌∙◌, inl, inr, arith, length-set, length-take, get_or-take, drop-set-lt}
use lib.Seq.{take-set-lt, take-set-le}
use Rattle.std.proofs.lemmas.Bool.{cases_lt, lt-ltb, le-ltb}
use Rattle.std.proofs.lemmas.List.{set_past}
use Rattle.memory.specs.Words.{outside, answer_of, read_of, write_of, shown_length, shown, unshown}

module _ {X : Type 0} (n i : ℕ) (x : X) where
  pub answer_in : i < n → answer_of n x i ≡ Ok x
  answer_in h = rw (lt-ltb i n h)

  answer_out : n ≤ i → answer_of n x i ≡ Err outside
  answer_out h = rw (le-ltb i n h)

module _ (ws : List ℕ) (i : ℕ) where
  -- at an index that is not shown
  module _ (past : shown_length (length ws) ≤ i) where
    above : length (shown ws) ≤ i
    above = simp length-take (omega arith)

    pub read_out : read_of (shown ws) i ≡ Err outside
    read_out = answer_out (length (shown ws)) i (get_or (shown ws) i 0) above

    pub write_out : write_of (shown ws) i ≡ Err outside
    write_out = answer_out (length (shown ws)) i tt above

    pub set_out : (v : ℕ) → set (shown ws) i v ≡ shown ws
    set_out v = set_past (shown ws) i v above

  -- at an index that is shown
  module _ (within : i < shown_length (length ws)) where
    below : i < length (shown ws)
    below = simp length-take (omega arith)

    pub read_in : read_of (shown ws) i ≡ Ok (get_or ws i 0)
    read_in =
        answer_in (length (shown ws)) i (get_or (shown ws) i 0) below ∙ ap Ok (get_or-take (shown_length (length ws)) ws i 0 within)

    pub write_in : write_of (shown ws) i ≡ Ok tt
    write_in = answer_in (length (shown ws)) i tt below

    pub unshown_set : (v : ℕ) → unshown (set ws i v) ≡ unshown ws
    unshown_set v = simp length-set (drop-set-lt (shown_length (length ws)) ws i v within)

  pub shown_set : (v : ℕ) → shown (set ws i v) ≡ set (shown ws) i v
  shown_set v =
      simp length-set (elim (cases_lt i (shown_length (length ws))) [
        | inl h ↦ take-set-lt (shown_length (length ws)) ws i v h
        | inr h ↦ take-set-le (shown_length (length ws)) ws i v h ∙ sym (set_out h v)
      ])
