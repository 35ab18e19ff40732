-- The leaf word of a grant: its flags and its frame, and that it is a leaf.
use Rattle.std.proofs.Common.{◌≡◌, ℕ, ◌*◌, ◌/◌, ◌%◌, ◌^◌, ◌<◌, ◌≤◌, Bool, true, false, not, ◌&&◌, ◌||◌, eqb, ltb, refl, arith}
use Rattle.std.proofs.lemmas.Bool.{eq-eqb, ne_eqb, lt-ltb, false≢true}
use Rattle.entry.specs.Bits.{bits}
use Rattle.entry.specs.Entry.{is_valid, is_readable, is_writable, is_executable, is_user, frame_of, is_pointer}
use Rattle.layout.specs.Sound.{is_leaf}
use Rattle.translator.specs.declared.grants.Grant.{Grant}
use Rattle.leaves.specs.Leaves.{one, leaf_word}

one_small : (b : Bool) → one b ≤ 1
one_small true = omega arith
one_small false = omega arith

one_bit : (b : Bool) (n : ℕ) → n ≡ one b → eqb n 1 ≡ b
one_bit true n e = eq-eqb n 1 e
one_bit false n e = ne_eqb n 1 (λ x. omega arith)

module _ (g : Grant) where
  pub word_read : is_readable (leaf_word g) ≡ g.read
  word_read =
      let r = one_small g.read in let w = one_small g.write in let x = one_small g.fetch in let u = one_small g.user in
      one_bit g.read (leaf_word g / 2 ^ 1 % 2) (omega arith)

  pub word_write : is_writable (leaf_word g) ≡ g.write
  word_write =
      let r = one_small g.read in let w = one_small g.write in let x = one_small g.fetch in let u = one_small g.user in
      one_bit g.write (leaf_word g / 2 ^ 2 % 2) (omega arith)

  pub word_fetch : is_executable (leaf_word g) ≡ g.fetch
  word_fetch =
      let r = one_small g.read in let w = one_small g.write in let x = one_small g.fetch in let u = one_small g.user in
      one_bit g.fetch (leaf_word g / 2 ^ 3 % 2) (omega arith)

  pub word_user : is_user (leaf_word g) ≡ g.user
  word_user =
      let r = one_small g.read in let w = one_small g.write in let x = one_small g.fetch in let u = one_small g.user in
      one_bit g.user (leaf_word g / 2 ^ 4 % 2) (omega arith)

  word_valid : is_valid (leaf_word g) ≡ true
  word_valid = eq-eqb (leaf_word g / 2 ^ 0 % 2) 1 (omega arith)

  module _ (f : g.frame < 2 ^ 16) where
    pub word_frame : frame_of (leaf_word g) ≡ g.frame
    word_frame =
        let r = one_small g.read in let w = one_small g.write in let x = one_small g.fetch in let u = one_small g.user in
        let q : leaf_word g / 2 ^ 10 ≡ g.frame = omega arith in
        omega arith

    word_short : eqb (bits 54 10 (leaf_word g)) 0 ≡ true
    word_short =
        let r = one_small g.read in let w = one_small g.write in let x = one_small g.fetch in let u = one_small g.user in
        let q : leaf_word g / 2 ^ 54 ≡ 0 = omega arith in
        eq-eqb (bits 54 10 (leaf_word g)) 0 (omega arith)

    -- with some right, and the right to write only with that to read, it is well formed and no pointer
    rights_shape : (r w x : Bool) → (r || (w || x)) ≡ true → (w ≡ true → r ≡ true) → ((not r && w) ≡ false) × ((not r && not x) ≡ false)
    rights_shape true w x h k = (refl, refl)
    rights_shape false true x h k = absurd (false≢true (k refl))
    rights_shape false false true h k = (refl, refl)
    rights_shape false false false h k = absurd (false≢true h)

    pub word_leaf : (g.read || (g.write || g.fetch)) ≡ true → (g.write ≡ true → g.read ≡ true) → is_leaf (leaf_word g) ≡ true
    word_leaf h k =
        let s = rights_shape g.read g.write g.fetch h k in
        let malformed : (not (is_readable (leaf_word g)) && is_writable (leaf_word g)) ≡ false = rw (word_read, word_write) s.0 in
        let pointer : is_pointer (leaf_word g) ≡ false = rw (word_read, word_fetch) s.1 in
        let aligned : eqb (frame_of (leaf_word g) % 2 ^ (9 * 0)) 0 ≡ true = eq-eqb (frame_of (leaf_word g) % 1) 0 (omega arith) in
        let small : ltb (frame_of (leaf_word g)) (2 ^ 16) ≡ true = rw word_frame (lt-ltb g.frame (2 ^ 16) f) in
        rw (word_valid, malformed, word_short, pointer, aligned, small) refl
