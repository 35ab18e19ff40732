-- The grants that a pool holds, by ASID and then by page.
use Rattle.std.specs.Prelude.{◌≡◌, ℕ, zero, suc, ◌+◌, ◌-◌, ◌^◌, cond, ◌↔◌, List, [], ◌∷◌, ◌++◌, Some, None, Option, nat_lt}
use Rattle.std.specs.List.{ContainsAt as Has}
use Rattle.translator.specs.declared.grants.Grant.{Grant}
use Rattle.leaves.specs.Lookups.{grant_at}

-- f 0, f 1 and so on up to f (n - 1), one after the other
unfoldable pub up_to : {X : Type 0} → (ℕ → List X) → ℕ → List X
up_to f zero = []
up_to f (suc n) = up_to f n ++ f n

-- the canonical pages in ascending order: those whose bits 51 to 26 are all 0, then those where they are all 1
abbrev pub page_number : ℕ → ℕ
page_number n = cond (nat_lt n (2 ^ 26)) n (n + (2 ^ 52 - 2 ^ 27))

abbrev pub listed : Option Grant → List Grant
listed None = []
listed (Some g) = g ∷ []

-- the grants under one ASID
unfoldable pub under : List ℕ → ℕ → List Grant
under pool asid = up_to (λ n. listed (grant_at pool asid (page_number n))) (2 ^ 27)

unfoldable pub book_of : List ℕ → List Grant
book_of pool = up_to (under pool) 16

-- a grant stands in the book exactly if the pool holds it for its page under its ASID
abbrev pub BookIsFound : Type 0
BookIsFound = (pool : List ℕ) (g : Grant) → Has (book_of pool) g ↔ (grant_at pool g.asid g.page ≡ Some g)
