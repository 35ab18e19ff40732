-- What look-ups find after each change, what no change touches, and that no two pages share a leaf word.
use Rattle.std.specs.Prelude.{◌≡◌, ℕ, ◌*◌, ◌<◌, ◌≤◌, true, cond, List, length, Some, None, ◌≢◌, slice_index}
use Rattle.stages.specs.Stages.{is_canonical}
use Rattle.layout.specs.Tables.{frames, leaf_table, leaf_place}
use Rattle.layout.specs.Changes.{reset, has_room, inserted, removed, removed_below, dropped}
use Rattle.layout.specs.Finds.{found}

-- the new leaf is found at its page, and elsewhere what was found before, or nothing where the pool was reset
pub record Inserts (pool : List ℕ) (asid page w : ℕ) : Type 0 where
  pub here : found (inserted pool asid page w) asid page ≡ Some (record { word = w })
  pub elsewhere : (b q : ℕ) → b < 16 → ((b ≡ asid) × (q ≡ page) → ⊥) → found (inserted pool asid page w) b q ≡ cond (has_room pool asid page) (found pool b q) None

-- nothing is found at the page, and elsewhere what was found before
pub record Removes (pool : List ℕ) (asid page : ℕ) : Type 0 where
  pub here : found (removed pool asid page) asid page ≡ None
  pub elsewhere : (b q : ℕ) → b < 16 → ((b ≡ asid) × (q ≡ page) → ⊥) → found (removed pool asid page) b q ≡ found pool b q

-- nothing is found at the page under any ASID, and elsewhere what was found before
pub record RemovesEverywhere (pool : List ℕ) (page : ℕ) : Type 0 where
  pub here : (b : ℕ) → b < 16 → found (removed_below pool page 16) b page ≡ None
  pub elsewhere : (b q : ℕ) → b < 16 → (q ≢ page) → found (removed_below pool page 16) b q ≡ found pool b q

-- nothing is found under the ASID, and under the others what was found before
pub record Drops (pool : List ℕ) (asid : ℕ) : Type 0 where
  pub here : (page : ℕ) → found (dropped pool asid) asid page ≡ None
  pub elsewhere : (b q : ℕ) → b < 16 → (b ≢ asid) → found (dropped pool asid) b q ≡ found pool b q

-- nothing is found
abbrev pub Resets : List ℕ → Type 0
Resets pool = (b q : ℕ) → b < 16 → found (reset pool) b q ≡ None

-- canonical pages have one leaf word only if they are one page under one ASID
abbrev pub LeavesApart : List ℕ → Type 0
LeavesApart pool =
    (a b p q : ℕ) → (a < 16) × (b < 16) × (is_canonical p ≡ true) × (is_canonical q ≡ true) → 0 < leaf_table pool a p
    → leaf_place pool a p ≡ leaf_place pool b q → (a ≡ b) × (p ≡ q)

-- p is as long as the pool, and the words past the frames that are used are as they were
pub record RestKept (pool p : List ℕ) : Type 0 where
  pub long : length p ≡ length pool
  pub rest : (i : ℕ) → frames pool * 512 ≤ i → slice_index p i ≡ slice_index pool i
