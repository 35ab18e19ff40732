-- One level of a walk, by what was read there.
use Rattle.std.proofs.Common.{◌≡◌, ℕ, suc, ◌-◌, ◌<◌, Bool, true, false, ◌||◌, Ok, Err, Result, sym, arith}
use Rattle.std.proofs.lemmas.Bool.Decides.{nat_tests}
use Rattle.table.specs.declared.walks.WalkFault.TheVariants.{Source, Stopped}
use Rattle.entry.specs.Entry.{is_misaligned, is_global, is_pointer, frame_of, stops}
use Rattle.table.specs.Walk.{word_of, leaf_of, walk_from}

-- a pointer of level 0 stops the walk
pub points_above : (level w : ℕ) → stops level w ≡ false → is_pointer w ≡ true → 0 < level
points_above level w s q = grind (arith, nat_tests)

module _ {F : Type 0} (reads : ℕ → Result ℕ F) (top wide p level f : ℕ) (g : Bool) where
  pub at_lack : (e : F) → reads (word_of top wide p level f) ≡ Err e → walk_from reads top wide p (suc level) f g ≡ Err (Source level e)
  unfolding walk_from
  at_lack e r = rw r

  module _ (w : ℕ) (r : reads (word_of top wide p level f) ≡ Ok w) where
    pub at_stop : stops level w ≡ true → walk_from reads top wide p (suc level) f g ≡ Err (Stopped level)
    unfolding walk_from
    at_stop s = rw (r, s)

    pub at_pointer : stops level w ≡ false → is_pointer w ≡ true
        → walk_from reads top wide p (suc level) f g ≡ walk_from reads top wide p level (frame_of w) (g || is_global w)
    unfolding walk_from
    at_pointer s q = rw (r, s, q)

    -- the same, as the walk of the level below and one more
    pub walk_pointer : stops level w ≡ false → is_pointer w ≡ true
        → walk_from reads top wide p (suc (level - 1)) (frame_of w) (g || is_global w) ≡ walk_from reads top wide p (suc level) f g
    walk_pointer s q =
        let h : 0 < level = points_above level w s q in
        let e : suc (level - 1) ≡ level = omega arith in
        rw e (sym (at_pointer s q))

    pub at_leaf : stops level w ≡ false → is_pointer w ≡ false → walk_from reads top wide p (suc level) f g ≡ Ok (leaf_of p level w (g || is_global w))
    unfolding walk_from
    at_leaf s q = rw (r, s, q)

-- a leaf that does not stop the walk is aligned
pub leaf_aligned : (level w : ℕ) → stops level w ≡ false → is_pointer w ≡ false → is_misaligned level w ≡ false
leaf_aligned level w s q = grind (arith, nat_tests)
