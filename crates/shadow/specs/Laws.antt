-- What the steps of a shadow come to on its book.
use Rattle.std.specs.Prelude.{◌≡◌, ℕ, ◌*◌, ◌≤◌, true, false, ◌⊎◌, ◌↔◌, List, length, Some}
use Rattle.std.specs.List.{ContainsAt as Has}
use Rattle.access.specs.declared.accesses.Access.{Access}
use Rattle.registers.specs.Registers.{is_guest_root}
use Rattle.stages.specs.Stages.{World}
use Rattle.translator.specs.declared.grants.Grant.{Grant}
use Rattle.translator.specs.declared.fences.Fence.{Fence}
use Rattle.translator.specs.Truth.{Fullest}
use Rattle.translator.specs.Fences.{covers_grant}
use Rattle.translator.specs.Walked.{walked_reply}
use Rattle.layout.specs.Changes.{has_room}
use Rattle.layout.specs.Sound.{Sound}
use Rattle.leaves.specs.Leaves.{has_some_right}
use Rattle.shadow.specs.Steps.{is_kept, learnt}
use Rattle.shadow.specs.Book.{book_of}
use Rattle.shadow.specs.Shadows.{Store, grants_of, Forgets}

-- of the grants that walks hand out under a guest root of the right layout, in a memory of at most 4,096 frames, those with some right are kept, and no others
abbrev pub KeptByRights : Type 0
KeptByRights =
    (w : World) (a : Access) (g : Grant) → is_guest_root w.guest ≡ true → length w.words ≤ 4096 * 512
    → (walked_reply w a).grant ≡ Some g → is_kept g ≡ has_some_right g

-- the grant as its leaf gives it back
abbrev pub without_global : Grant → Grant
without_global g =
    record {
      asid = g.asid;
      page = g.page;
      frame = g.frame;
      read = g.read;
      write = g.write;
      fetch = g.fetch;
      user = g.user;
      global = false;
    }

-- x is the new grant, or another page's or ASID's that the book held, unless the pool had to be reset
abbrev pub Filled : List ℕ → Grant → Grant → Type 0
Filled pool g x =
    (x ≡ without_global g)
    ⊎ (Has (book_of pool) x × ((x.asid ≡ g.asid) × (x.page ≡ g.page) → ⊥) × (has_room pool g.asid g.page ≡ true))

-- the book after a grant was kept
abbrev pub FillsExactly : Type 0
FillsExactly =
    (pool : List ℕ) (w : World) (g x : Grant) → Sound pool → Fullest w g → is_kept g ≡ true → Has (book_of (learnt pool (Some g))) x ↔ Filled pool g x

-- the book after a guest fence: the grants that were there and that it does not cover, and no others
abbrev pub FencesExactly : Type 0
FencesExactly = (s t : Store) (f : Fence) (x : Grant) → Forgets s f t → Has (grants_of t) x ↔ (Has (grants_of s) x × (covers_grant f x ≡ false))
