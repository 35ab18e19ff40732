-- What an access to the buffer does: its sets and the translator below, before and after.
use Rattle.std.specs.Prelude.{◌≡◌, List, Some, Ok, vec_items, MatchOption}
use Rattle.access.specs.declared.accesses.Access.{Access}
use Rattle.stages.specs.Stages.{World}
use Rattle.translator.specs.declared.grants.Grant.{Grant}
use Rattle.translator.specs.declared.replies.Reply.{Reply}
use Rattle.tlb.specs.declared.ways.Set.{Set}
use Rattle.tlb.specs.declared.layers.Tlb.{Tlb}
use Rattle.tlb.specs.Tables.{hit, stored}

-- the sixteen sets of a buffer, in order
abbrev pub sets_of : {T : Type 0} → Tlb T → List Set
sets_of s = vec_items s.table.sets

-- the reply of a grant: its frame, and the grant itself
abbrev pub served : Grant → Reply
served g = record { outcome = Ok g.frame; grant = Some g }

-- a hit: the grant answers, and nothing changes, here or below
pub record Hit {T : Type 0} (g : Grant) (s : Tlb T) (r : Reply) (t : Tlb T) : Type 0 where
  pub reply : r ≡ served g
  pub sets : sets_of t ≡ sets_of s
  pub below : t.below ≡ s.below

-- a miss: the translator below answers, its reply is the reply, and the grant that it hands up is stored
pub record Miss {T : Type 0} (answers : T → World → Access → Reply → T → Type 0) (s : Tlb T) (w : World) (a : Access) (r : Reply) (t : Tlb T) : Type 0 where
  pub below : answers s.below w a r t.below
  pub sets : sets_of t ≡ stored r.grant (sets_of s)

-- one access, where `answers` says what the translator below does
abbrev pub Layered : {T : Type 0} → (T → World → Access → Reply → T → Type 0) → Tlb T → World → Access → Reply → Tlb T → Type 0
Layered answers s w a r t = MatchOption (hit w a (sets_of s)) (Miss answers s w a r t) (λ g. Hit g s r t)
