-- A walk follows the chain: from each table that the chain reaches, it is the walk of that table, and where it ends the chain ends.
use Rattle.std.proofs.Common.{◌≡◌, ℕ, zero, suc, ◌<◌, Bool, true, false, ◌||◌, Ok, Err, Result, refl, ◌∙◌, subst, arith}
use Rattle.std.proofs.lemmas.Bool.{cond_both}
use Rattle.table.specs.declared.walks.Leaf.{Leaf}
use Rattle.table.specs.declared.walks.WalkFault.{WalkFault}
use Rattle.table.specs.declared.walks.WalkFault.TheVariants.{Source, Stopped}
use Rattle.entry.specs.Entry.{is_global, is_pointer, frame_of, stops}
use Rattle.table.specs.Walk.{word_of, on_word, walk_from, walk_of}
use Rattle.table.specs.Chain.{Reached, first, below, LeadsTo, StopsAt, LacksAt, FollowsChain}
use Rattle.table.proofs.Descents.{at_lack, at_stop, at_pointer, at_leaf, points_above}

module _ {F : Type 0} (reads : ℕ → Result ℕ F) (top wide root p : ℕ) where
  -- the walk from the root is the walk from each table on its chain
  from_reached : {level f : ℕ} {g : Bool} → Reached reads top wide root p level f g
      → walk_of reads top wide root p ≡ walk_from reads top wide p (suc level) f g
  from_reached first = refl
  from_reached (below level f g w t r s q) = from_reached t ∙ at_pointer reads top wide p (suc level) f g w r s q

  -- what an answer says of the chain
  abbrev Ends : Result Leaf (WalkFault F) → Type 0
  Ends (Ok leaf) = LeadsTo reads top wide root p leaf
  Ends (Err (Stopped level)) = StopsAt reads top wide root p level
  Ends (Err (Source level fault)) = LacksAt reads top wide root p level fault

  ends_on : (level f : ℕ) (g : Bool) → Reached reads top wide root p level f g
      → ((w : ℕ) → reads (word_of top wide p level f) ≡ Ok w → stops level w ≡ false → is_pointer w ≡ true
      → Ends (walk_from reads top wide p level (frame_of w) (g || is_global w)))
      → (q : Result ℕ F) → reads (word_of top wide p level f) ≡ q → Ends (on_word reads top wide p level g (walk_from reads top wide p level) q)
  ends_on level f g t lower (Err e) r = record { table = f; met = g; reached = t; lacks = r }
  ends_on level f g t lower (Ok w) r =
      cond_both (stops level w) _ _ Ends
      (λ s. record { table = f; met = g; word = w; reached = t; entry = r; stopped = s })
      (λ s. cond_both (is_pointer w) _ _ Ends
      (λ q. lower w r s q)
      (λ q. record { table = f; met = g; reached = t; entry = r; stands = s; is_leaf = q; frame = refl; global = refl }))

  ends_from : (level f : ℕ) (g : Bool) → Reached reads top wide root p level f g → Ends (walk_from reads top wide p (suc level) f g)
  unfolding walk_from
  ends_from zero f g t =
      ends_on zero f g t (λ w r s q. let h : 0 < 0 = points_above 0 w s q in absurd (omega arith)) (reads (word_of top wide p zero f)) refl
  ends_from (suc level) f g t =
      ends_on (suc level) f g t (λ w r s q. ends_from level (frame_of w) (g || is_global w) (below level f g w t r s q))
      (reads (word_of top wide p (suc level) f)) refl

  ends : (r : Result Leaf (WalkFault F)) → walk_of reads top wide root p ≡ r → Ends r
  ends r e = subst Ends e (ends_from top root false first)

  leads : (leaf : Leaf) → LeadsTo reads top wide root p leaf → walk_of reads top wide root p ≡ Ok leaf
  leads leaf l =
      from_reached l.reached
      ∙ (at_leaf reads top wide p leaf.level l.table l.met leaf.entry.word l.entry l.stands l.is_leaf
      ∙ rw (← l.frame, ← l.global))

  pub follows : FollowsChain reads top wide root p (walk_of reads top wide root p)
  follows =
      record {
        leaf = λ leaf. (ends (Ok leaf), leads leaf);
        stopped = λ level. (
          ends (Err (Stopped level)),
          λ h. from_reached h.reached ∙ at_stop reads top wide p level h.table h.met h.word h.entry h.stopped,
        );
        lacks = λ level fault. (
          ends (Err (Source level fault)),
          λ h. from_reached h.reached ∙ at_lack reads top wide p level h.table h.met fault h.lacks,
        );
      }
