-- What a remembered grant answers: which accesses it matches, what it allows, and which grant of a book comes first.
use Rattle.std.specs.Prelude.{ℕ, Bool, cond, ◌&&◌, ◌||◌, List, [], ◌∷◌, Some, None, Option, ◌==◌}
use Rattle.access.specs.declared.accesses.Kind.{Kind}
use Rattle.access.specs.declared.accesses.Kind.TheVariants.{Load, Store, Fetch}
use Rattle.access.specs.declared.accesses.Access.{Access}
use Rattle.access.specs.Accesses.{page_of, is_aligned}
use Rattle.registers.specs.Registers.{is_paged, asid_of}
use Rattle.access.specs.Rights.{user_allows}
use Rattle.stages.specs.Stages.{World}
use Rattle.translator.specs.declared.grants.Grant.{Grant}

-- the grant is for the page of the access, and for its ASID or, if it is global, for every ASID
abbrev pub matches : ℕ → Access → Grant → Bool
matches asid a g = g.page == page_of a && (g.global || g.asid == asid)

-- the right that a kind of access needs
abbrev pub has_right : Kind → Grant → Bool
has_right Load g = g.read
has_right Store g = g.write
has_right Fetch g = g.fetch

-- the grant has the right, and its page is open to the mode; MXR never counts
abbrev pub allows : Access → Grant → Bool
allows a g = has_right a.kind g && user_allows a g.user

-- the grant can answer the access under this ASID
abbrev pub serves : ℕ → Access → Grant → Bool
serves asid a g = matches asid a g && allows a g

-- the first item that passes a test
unfoldable pub first_of : {X : Type 0} → (X → Bool) → List X → Option X
first_of test [] = None
first_of test (x ∷ xs) = cond (test x) (Some x) (first_of test xs)

-- grants are consulted for an aligned access under an Sv39 guest root, and for no other
abbrev pub consults : World → Access → Bool
consults w a = is_aligned a && is_paged w.guest

-- the grant of the book that answers the access, if one does
abbrev pub answering : World → Access → List Grant → Option Grant
answering w a book = cond (consults w a) (first_of (serves (asid_of w.guest) a) book) None
