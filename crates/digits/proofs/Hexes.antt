-- On numbers in hexadecimal: their digits one by one, and that each has one text.
use Rattle.std.proofs.Common.{◌≡◌, ℕ, zero, suc, ◌+◌, ◌-◌, ◌*◌, ◌/◌, ◌%◌, ◌^◌, ◌<◌, ◌≤◌, [], ◌∷◌, ◌++◌, map, length, get_or, take, sym, refl, ap, ◌∙◌, ⊎_elim, pow-suc, add-one, arith, lit<}
use native.Mathlib.Nat.{pow-zero, pow-le-pow_right}
use lib.Arith.{digits_div, digits_mod, digits_lt}
use Rattle.std.specs.List.{slice_range, range_with_len}
use Rattle.std.proofs.lemmas.List.{drop_more, length_push, get_or_append_left, get_or_push, same_from_push}
use Rattle.std.proofs.lemmas.List.FromFn.{get_or-map-range_with_len}
use Rattle.std.proofs.Math.Nat.{div-div-eq-div-mul}
use Rattle.std.proofs.lemmas.Nat.{mod_below, div_below, div-add-mod', pow-add}
use Rattle.std.proofs.lemmas.Bool.Decides.{nat_tests}
use Rattle.std.proofs.lemmas.Bool.{cases_lt}
use Rattle.digits.specs.Hexadecimal.{digit_char, hex_of}

-- a digit's text, cut from that of all 16
pub digit_at : (d : ℕ) → d < 16 → slice_range (map digit_char (range_with_len 0 16)) d (d + 1) ≡ digit_char d ∷ []
digit_at d h =
    let cs = map digit_char (range_with_len 0 16) in
    let one : d + 1 - d ≡ 1 = omega arith in
    rw one (ap (take 1) (drop_more cs d 0 h) ∙ ap (λ x. x ∷ []) (get_or-map-range_with_len digit_char 0 16 d d 0 h (omega arith)))

pub length_hex_of : (k n : ℕ) → length (hex_of k n) ≡ k
unfolding hex_of
length_hex_of zero n = refl
length_hex_of (suc k) n = length_push (hex_of k (n / 16)) _ ∙ omega (arith, length_hex_of k (n / 16))

-- one more digit at the end
pub hex_of_push : (k n d : ℕ) → d < 16 → hex_of (k + 1) (n * 16 + d) ≡ hex_of k n ++ (digit_char d ∷ [])
unfolding hex_of
hex_of_push k n d h = rw (add-one, digits_div n h, digits_mod n h)

-- each place has a digit's character
pub hex_of_at : (k n i : ℕ) → i < k → (d : ℕ) × (d < 16) × (get_or (hex_of k n) i 0 ≡ digit_char d)
unfolding hex_of
hex_of_at zero n i h = absurd (omega arith)
hex_of_at (suc k) n i h =
    ⊎_elim
    (λ below. let r = hex_of_at k (n / 16) i below in
    let e = get_or_append_left (hex_of k (n / 16)) (digit_char (n % 16) ∷ []) 0 i (omega (arith, length_hex_of k (n / 16))) in
    (r.0, r.1, e ∙ r.2))
    (λ past. (n % 16, mod_below n 16 (omega arith), get_or_push (hex_of k (n / 16)) _ 0 i (omega (arith, length_hex_of k (n / 16)))))
    (cases_lt i k)

-- with at most 15 digits read, one more fits 64 bits
pub hex_of_room : (i n : ℕ) → i < 16 → n < 16 ^ i → n * 16 + 15 < 2 ^ 64
hex_of_room i n h l =
    let le : i ≤ 15 = omega arith in
    let p = pow-le-pow_right {n = 16} (lit< tt) le in omega arith

pub below_push : (i n d : ℕ) → d < 16 → n < 16 ^ i → n * 16 + d < 16 ^ (i + 1)
below_push i n d h l = rw (add-one, pow-suc) (digits_lt l h)

-- one more of the 16 digits, while i of them are to come
pub hex_of_next : (n i : ℕ) → 0 < i → i ≤ 16
    → hex_of (16 - i) (n / 2 ^ (4 * i)) ++ (digit_char (n / 2 ^ (4 * (i - 1)) % 16) ∷ []) ≡ hex_of (16 - (i - 1)) (n / 2 ^ (4 * (i - 1)))
unfolding hex_of
hex_of_next n i h l =
    let k : 16 - (i - 1) ≡ suc (16 - i) = omega arith in
    let s : 4 * (i - 1) + 4 ≡ 4 * i = omega arith in
    let q : n / 2 ^ (4 * (i - 1)) / 16 ≡ n / 2 ^ (4 * i) =
    div-div-eq-div-mul n (2 ^ (4 * (i - 1))) 16 ∙ ap (λ x. n / x) (sym (pow-add 2 (4 * (i - 1)) 4)) ∙ ap (λ x. n / 2 ^ x) s in
    rw (k, q)

digit_char_once : (c d : ℕ) → c < 16 → d < 16 → digit_char c ≡ digit_char d → c ≡ d
digit_char_once c d h k e = grind (arith, nat_tests)

-- a number that fits k digits has one text
pub hex_of_once : (k m n : ℕ) → m < 16 ^ k → n < 16 ^ k → hex_of k m ≡ hex_of k n → m ≡ n
unfolding hex_of
hex_of_once zero m n h l e = let p = pow-zero 16 in omega arith
hex_of_once (suc k) m n h l e =
    let s = same_from_push (hex_of k (m / 16)) (hex_of k (n / 16)) (digit_char (m % 16)) (digit_char (n % 16)) e in
    let q = hex_of_once k (m / 16) (n / 16) (div_below m 16 (16 ^ k) (lit< tt) (rw pow-suc at h)) (div_below n 16 (16 ^ k) (lit< tt) (rw pow-suc at l)) s.0 in
    let r = digit_char_once (m % 16) (n % 16) (mod_below m 16 (lit< tt)) (mod_below n 16 (lit< tt)) s.1 in
    sym (div-add-mod' m 16) ∙ ap (λ x. x * 16 + m % 16) q ∙ ap (λ x. n / 16 * 16 + x) r ∙ div-add-mod' n 16
