-- Words as they lie in bytes.
use Rattle.std.proofs.Common.{◌≡◌, ℕ, zero, suc, ◌+◌, ◌*◌, ◌/◌, ◌%◌, ◌^◌, ◌<◌, ◌≤◌, List, [], ◌∷◌, length, get_or, take, drop, set, Ok, sym, refl, ap, ◌∙◌, inl, inr, arith, length-set, get_or-set_other, get_or-set_same, rules}
use borrow.Rule.Slice.PartMut.{put_mid}
use Rattle.std.proofs.lemmas.Bool.{cases_eq, cases_lt}
use Rattle.std.proofs.lemmas.List.{drop_all, drop_at, drop-take, length-take-le, take_at, places}
use Rattle.std.proofs.lemmas.Slice.{take-put_mid_below, drop-put_mid}
use Rattle.std.proofs.lemmas.List.FromFn.{length-map-range_with_len, get_or-map-range_with_len, fill_by_all}
use Rattle.memory.specs.Words.{read_of, write_of, shown_length, shown}
use Rattle.memory.specs.Bytes.{little_endian, word_at, words_of, shown_words, unshown_bytes}
use Rattle.memory.proofs.Shown.{read_in, write_in, shown_set}

-- the number from the byte at k on
from_byte : (bs : List ℕ) (k : ℕ) → little_endian (drop k bs) ≡ get_or bs k 0 + 256 * little_endian (drop (suc k) bs)
unfolding little_endian
from_byte [] zero = refl
from_byte [] (suc k) = refl
from_byte (b ∷ bs) zero = refl
from_byte (b ∷ bs) (suc k) = from_byte bs k

-- what eight bytes spell
pub eight_spell : (bs : List ℕ) → length bs ≡ 8 → get_or bs 0 0 + get_or bs 1 0 * 256 + get_or bs 2 0 * 65536 + get_or bs 3 0 * 16777216 + get_or bs 4 0 * 4294967296 + get_or bs 5 0 * 1099511627776 + get_or bs 6 0 * 281474976710656 + get_or bs 7 0 * 72057594037927936 ≡ little_endian bs
unfolding little_endian
eight_spell bs long =
    let none : little_endian (drop 8 bs) ≡ 0 = ap little_endian (drop_all 8 bs (omega arith)) in
    omega (arith, from_byte bs 0, from_byte bs 1, from_byte bs 2, from_byte bs 3, from_byte bs 4, from_byte bs 5, from_byte bs 6, from_byte bs 7)

-- the bytes of a word, the lowest first
abbrev digits : ℕ → List ℕ
digits w = (w % 256) ∷ (w / 256 % 256) ∷ (w / 65536 % 256) ∷ (w / 16777216 % 256) ∷ (w / 4294967296 % 256) ∷ (w / 1099511627776 % 256) ∷ (w / 281474976710656 % 256) ∷ (w / 72057594037927936 % 256) ∷ []

digits_spell : (w : ℕ) → w < 2 ^ 64 → little_endian (digits w) ≡ w
unfolding little_endian
digits_spell w small = omega arith

module _ (bs : List ℕ) where
  pub length_words : length (words_of bs) ≡ length bs / 8
  length_words = length-map-range_with_len (word_at bs) 0 (length bs / 8)

  word_is : (i : ℕ) → i < length bs / 8 → get_or (words_of bs) i 0 ≡ word_at bs i
  word_is i h = get_or-map-range_with_len (word_at bs) 0 (length bs / 8) i i 0 h (omega arith)

  pub read_bytes : (i : ℕ) → i < shown_length (length bs / 8) → read_of (shown_words bs) i ≡ Ok (word_at bs i)
  read_bytes i h = read_in (words_of bs) i (simp length-map-range_with_len h) ∙ ap Ok (word_is i (omega arith))

  pub write_bytes : (i : ℕ) → i < shown_length (length bs / 8) → write_of (shown_words bs) i ≡ Ok tt
  write_bytes i h = write_in (words_of bs) i (simp length-map-range_with_len h)

-- n elements put from `start` on: the part there, and any n elements apart from it
module _ (xs new : List ℕ) (start n : ℕ) (long : length new ≡ n) (within : start + n ≤ length xs) where
  part_new : take n (drop start (put_mid start n xs new)) ≡ new
  part_new =
      ap (take n) (drop_at (take start xs) _ start (length-take-le start xs (omega arith))) ∙ take_at new _ n long

  part_before : (at : ℕ) → at + n ≤ start → take n (drop at (put_mid start n xs new)) ≡ take n (drop at xs)
  part_before at h =
      sym (drop-take at n (put_mid start n xs new)) ∙ ap (drop at) (take-put_mid_below start n xs new (at + n) h (omega arith))
      ∙ drop-take at n xs

  part_past : (at : ℕ) → start + n ≤ at → take n (drop at (put_mid start n xs new)) ≡ take n (drop at xs)
  part_past at h = ap (take n) (drop-put_mid start n xs new at h (omega arith) long)

-- eight bytes put in the place of the word at i
module _ (bs new : List ℕ) (i n : ℕ) (eight : n ≡ 8) (long : length new ≡ 8) (within : i < length bs / 8) where
  abbrev after : List ℕ
  after = put_mid (8 * i) n bs new

  length_after : length after ≡ length bs
  length_after = search (rules, places)

  word_new : word_at after i ≡ little_endian new
  word_new = ap little_endian (rw eight (part_new bs new (8 * i) 8 long (omega arith)))

  word_other : (k : ℕ) → (k ≡ i → ⊥) → word_at after k ≡ word_at bs k
  word_other k apart =
      ap little_endian (rw eight (elim (cases_lt k i) [
        | inl h ↦ part_before bs new (8 * i) 8 long (omega arith) (8 * k) (omega arith)
        | inr h ↦ part_past bs new (8 * i) 8 long (omega arith) (8 * k) (omega arith)
      ]))

  words_after_lem : words_of after ≡ set (words_of bs) i (little_endian new)
  words_after_lem =
      sym (fill_by_all (word_at after) (set (words_of bs) i (little_endian new)) (length after / 8) 0
      (simp (length-set, length-map-range_with_len, length_after))
      (λ k h. elim (cases_eq k i) [
        | inl e ↦ rw e (get_or-set_same (words_of bs) i (little_endian new) 0 (simp length-map-range_with_len within) ∙ sym word_new)
        | inr apart ↦
            get_or-set_other (words_of bs) i k (little_endian new) 0 apart ∙ word_is bs k (omega (arith, length_after)) ∙ sym (word_other k apart)
      ]))

-- the bytes of w put in the place of a word that is shown
module _ (bs new : List ℕ) (i n w : ℕ) (eight : n ≡ 8) (small : w < 2 ^ 64) (same : new ≡ digits w) (within : i < shown_length (length bs / 8)) where
  pub shown_after : shown_words (put_mid (8 * i) n bs new) ≡ set (shown_words bs) i w
  shown_after =
      ap shown (words_after_lem bs new i n eight (ap length same) (omega arith)) ∙ shown_set (words_of bs) i (little_endian new)
      ∙ ap (set (shown_words bs) i) (ap little_endian same ∙ digits_spell w small)

  pub unshown_after : unshown_bytes (put_mid (8 * i) n bs new) ≡ unshown_bytes bs
  unshown_after =
      let long : length new ≡ 8 = ap length same in
      rw (length_after bs new i n eight long (omega arith))
      (drop-put_mid (8 * i) n bs new (8 * shown_length (length bs / 8)) (omega arith) (omega arith) (omega arith))
