-- The rules that every translator keeps, on its book: an ordered list of grants.
use Rattle.std.specs.Prelude.{◌≡◌, ℕ, false, ◌⊎◌, List, Some, None, Ok, Option, Result}
use Rattle.std.specs.Result.{result_map_both}
use Rattle.std.specs.List.{ContainsAt as Has, AllByRecursion}
use Rattle.access.specs.declared.accesses.Access.{Access}
use Rattle.fault.specs.declared.faults.Fault.{Fault}
use Rattle.access.specs.Accesses.{page_of}
use Rattle.registers.specs.Registers.{is_paged}
use Rattle.stages.specs.Stages.{World, translate_of}
use Rattle.translator.specs.declared.grants.Grant.{Grant}
use Rattle.translator.specs.declared.fences.Fence.{Fence}
use Rattle.translator.specs.declared.replies.Reply.{Reply}
use Rattle.translator.specs.Grants.{answering}
use Rattle.translator.specs.Truth.{True, Fullest}
use Rattle.translator.specs.Fences.{covers_grant}

-- the frame that the walk gives an access, or the whole fault
abbrev pub walked_to : World → Access → Result ℕ Fault
walked_to w a = result_map_both (λ t. t.frame) (λ fault. fault) (translate_of w a)

-- the frame of the grant that answers, or else the walk
abbrev pub or_walk : Option Grant → Result ℕ Fault → Result ℕ Fault
or_walk None walked = walked
or_walk (Some g) walked = Ok g.frame

abbrev pub outcome_of : List Grant → World → Access → Result ℕ Fault
outcome_of book w a = or_walk (answering w a book) (walked_to w a)

-- a grant made anew for an access: no grant answered, and it is the fullest true one of the page
pub record Fresh (book : List Grant) (w : World) (a : Access) (g : Grant) : Type 0 where
  pub unanswered : answering w a book ≡ None
  pub page : g.page ≡ page_of a
  pub fullest : Fullest w g

-- P of the grant, where there is one
abbrev pub Given : Option Grant → (Grant → Type 0) → Type 0
Given None P = Unit {0}
Given (Some g) P = P g

-- one access: the answer, the grant handed out, and the book before and after
pub record Answered (before : List Grant) (w : World) (a : Access) (r : Reply) (after : List Grant) : Type 0 where
  pub outcome : r.outcome ≡ outcome_of before w a
  pub kept : AllByRecursion (λ g. Has before g ⊎ True w g) after
  pub handed : Given r.grant (λ g. Has before g ⊎ Fresh before w a g)
  pub bare : is_paged w.guest ≡ false → r.grant ≡ None

-- one guest fence: no covered grant is left, and none is new
abbrev pub Fenced : List Grant → Fence → List Grant → Type 0
Fenced before f after = AllByRecursion (λ g. Has before g × (covers_grant f g ≡ false)) after
