-- What one access does to a pool.
use Rattle.std.specs.Prelude.{ℕ, ◌^◌, Bool, cond, ◌&&◌, List, Some, None, Ok, Option, nat_lt}
use Rattle.translator.specs.declared.grants.Grant.{Grant}
use Rattle.translator.specs.declared.replies.Reply.{Reply}
use Rattle.layout.specs.Changes.{inserted}
use Rattle.leaves.specs.Leaves.{has_some_right, leaf_word}

-- a grant is kept if it has some right; of a grant that a walk hands out the rest holds (KeptByRights)
abbrev pub is_kept : Grant → Bool
is_kept g = has_some_right g && (nat_lt g.asid 16 && nat_lt g.frame (2 ^ 16))

-- the pool after a walk handed out a grant, or none
abbrev pub learnt : List ℕ → Option Grant → List ℕ
learnt pool None = pool
learnt pool (Some g) = cond (is_kept g) (inserted pool g.asid g.page (leaf_word g)) pool

-- the reply to an access, by the grant that answers and by what the walk replies
abbrev pub reply_by : Option Grant → Reply → Reply
reply_by None walked = walked
reply_by (Some g) walked = record { outcome = Ok g.frame; grant = Some g }

-- the pool after it
abbrev pub after_by : List ℕ → Option Grant → Reply → List ℕ
after_by pool None walked = learnt pool walked.grant
after_by pool (Some g) walked = pool
