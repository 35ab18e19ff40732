-- A walk as the chain of entries that leads from the root to a leaf, or to the place where it stops.
use Rattle.std.specs.Prelude.{◌≡◌, ℕ, suc, ◌+◌, ◌*◌, ◌%◌, ◌^◌, Bool, true, false, ◌||◌, ◌↔◌, Ok, Err, Result}
use Rattle.table.specs.declared.walks.Leaf.{Leaf}
use Rattle.table.specs.declared.walks.WalkFault.{WalkFault}
use Rattle.table.specs.declared.walks.WalkFault.TheVariants.{Source, Stopped}
use Rattle.entry.specs.Entry.{is_global, is_pointer, frame_of, stops}
use Rattle.table.specs.Walk.{word_of}

module _ {F : Type 0} (reads : ℕ → Result ℕ F) (top wide root p : ℕ) where
  -- Reached level f g: the chain of page p comes to the table of this level at frame f, and g tells whether an entry on the way was global.
  -- It begins at the root; a pointer that does not stop the walk leads one level lower, to the table at the pointer's frame.
  pub data Reached : ℕ → ℕ → Bool → Type 0 where
    first : Reached top root false
    below : (level f : ℕ) (g : Bool) (w : ℕ) → Reached (suc level) f g → reads (word_of top wide p (suc level) f) ≡ Ok w
        → stops (suc level) w ≡ false → is_pointer w ≡ true → Reached level (frame_of w) (g || is_global w)

  -- the chain comes to a table whose entry for the page is this leaf
  pub record LeadsTo (leaf : Leaf) : Type 0 where
    pub table : ℕ
    pub met : Bool
    pub reached : Reached leaf.level table met
    pub entry : reads (word_of top wide p leaf.level table) ≡ Ok leaf.entry.word
    pub stands : stops leaf.level leaf.entry.word ≡ false
    pub is_leaf : is_pointer leaf.entry.word ≡ false
    pub frame : leaf.frame ≡ frame_of leaf.entry.word + p % 2 ^ (9 * leaf.level)
    pub global : leaf.global ≡ met || is_global leaf.entry.word

  -- the chain comes to a table of this level whose entry for the page stops it
  pub record StopsAt (level : ℕ) : Type 0 where
    pub table : ℕ
    pub met : Bool
    pub word : ℕ
    pub reached : Reached level table met
    pub entry : reads (word_of top wide p level table) ≡ Ok word
    pub stopped : stops level word ≡ true

  -- the chain comes to a table of this level whose entry for the page the source does not give
  pub record LacksAt (level : ℕ) (fault : F) : Type 0 where
    pub table : ℕ
    pub met : Bool
    pub reached : Reached level table met
    pub lacks : reads (word_of top wide p level table) ≡ Err fault

  -- an answer is what the chain says: a leaf exactly if the chain leads there, a fault at a level exactly if the chain ends there so
  pub record FollowsChain (r : Result Leaf (WalkFault F)) : Type 0 where
    pub leaf : (leaf : Leaf) → (r ≡ Ok leaf) ↔ LeadsTo leaf
    pub stopped : (level : ℕ) → (r ≡ Err (Stopped level)) ↔ StopsAt level
    pub lacks : (level : ℕ) (fault : F) → (r ≡ Err (Source level fault)) ↔ LacksAt level fault
