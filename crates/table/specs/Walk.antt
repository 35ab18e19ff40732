-- What a walk of a page table answers for a page, over any source of table words.
--
-- A page is the number of a 4 KiB page: an address shifted right by 12, so that bit k of a page is bit k + 12 of the address.
-- A source is a function from the index of a word to the word, or to a fault of the source's own.
-- A table has the level of its first table (top), the number of bits of its first index (wide), and the frame of its first table (root).
use Rattle.std.specs.Prelude.{ℕ, zero, suc, ◌+◌, ◌*◌, ◌%◌, ◌^◌, Bool, false, cond, ◌||◌, List, [], ◌∷◌, Ok, Err, Result, ◌==◌}
use Rattle.table.specs.declared.walks.Leaf.{Leaf}
use Rattle.table.specs.declared.walks.WalkFault.{WalkFault}
use Rattle.table.specs.declared.walks.WalkFault.TheVariants.{Source, Stopped}
use Rattle.entry.specs.Bits.{bits}
use Rattle.entry.specs.Entry.{is_global, is_pointer, frame_of, stops}

-- the index of a page in a table of this level: nine bits, or wide bits in the first table
abbrev pub index_of : ℕ → ℕ → ℕ → ℕ → ℕ
index_of top wide p level = bits (9 * level) (cond (level == top) wide 9) p

-- the word of the table at frame f that a page names at this level
abbrev pub word_of : ℕ → ℕ → ℕ → ℕ → ℕ → ℕ
word_of top wide p level f = f * 512 + index_of top wide p level

-- the leaf that an entry w of this level is for a page: the low 9 × level bits of its frame come from the page
abbrev pub leaf_of : ℕ → ℕ → ℕ → Bool → Leaf
leaf_of p level w g = record { frame = frame_of w + p % 2 ^ (9 * level); level = level; entry = record { word = w }; global = g }

module _ {F : Type 0} (reads : ℕ → Result ℕ F) (top wide p : ℕ) where
  -- what follows from what was read at a level, where next walks the table below; g tells whether an entry so far was global
  abbrev pub on_word : ℕ → Bool → (ℕ → Bool → Result Leaf (WalkFault F)) → Result ℕ F → Result Leaf (WalkFault F)
  on_word level g next (Err e) = Err (Source level e)
  on_word level g next (Ok w) =
      cond (stops level w) (Err (Stopped level))
      (cond (is_pointer w) (next (frame_of w) (g || is_global w)) (Ok (leaf_of p level w (g || is_global w))))

  -- the walk of the levels below n, from the table at frame f on
  unfoldable pub walk_from : ℕ → ℕ → Bool → Result Leaf (WalkFault F)
  walk_from zero f g = Err (Stopped zero)
  walk_from (suc level) f g = on_word level g (walk_from level) (reads (word_of top wide p level f))

  -- the words that follow in the same walk
  abbrev pub words_after : ℕ → (ℕ → List ℕ) → Result ℕ F → List ℕ
  words_after level next (Err e) = []
  words_after level next (Ok w) = cond (stops level w) [] (cond (is_pointer w) (next (frame_of w)) [])

  -- the words that this walk reads, in order
  unfoldable pub words_from : ℕ → ℕ → List ℕ
  words_from zero f = []
  words_from (suc level) f = word_of top wide p level f ∷ words_after level (words_from level) (reads (word_of top wide p level f))

-- the walk of a page from the root
abbrev pub walk_of : {F : Type 0} → (ℕ → Result ℕ F) → ℕ → ℕ → ℕ → ℕ → Result Leaf (WalkFault F)
walk_of reads top wide root p = walk_from reads top wide p (suc top) root false

-- the words that it reads
abbrev pub words_of : {F : Type 0} → (ℕ → Result ℕ F) → ℕ → ℕ → ℕ → ℕ → List ℕ
words_of reads top wide root p = words_from reads top wide p (suc top) root
