-- What the walk alone answers and hands out.
use Rattle.std.specs.Prelude.{ℕ, Some, None, Ok, Err, Option, Result}
use Rattle.table.specs.declared.walks.Leaf.{Leaf}
use Rattle.entry.specs.Entry.{is_user}
use Rattle.access.specs.declared.accesses.Access.{Access}
use Rattle.access.specs.declared.accesses.Kind.TheVariants.{Load, Store, Fetch}
use Rattle.fault.specs.declared.faults.Fault.{Fault}
use Rattle.stages.specs.declared.outcomes.Translation.{Translation}
use Rattle.access.specs.Accesses.{page_of}
use Rattle.registers.specs.Registers.{asid_of}
use Rattle.stages.specs.Stages.{World, translate_of}
use Rattle.translator.specs.declared.grants.Grant.{Grant}
use Rattle.translator.specs.declared.replies.Reply.{Reply}
use Rattle.translator.specs.Truth.{both_give}

-- every right that both leaves give, for the page that an access was translated for
abbrev pub full_grant : ℕ → Access → Translation → Leaf → Grant
full_grant asid a t leaf =
    record {
      asid = asid;
      page = page_of a;
      frame = t.frame;
      read = both_give Load leaf t.host;
      write = both_give Store leaf t.host;
      fetch = both_give Fetch leaf t.host;
      user = is_user leaf.entry.word;
      global = leaf.global;
    }

-- the grant to remember of a translated access; a Bare guest has no leaf, and gets none
abbrev pub grant_by : ℕ → Access → Translation → Option Leaf → Option Grant
grant_by asid a t None = None
grant_by asid a t (Some leaf) = Some (full_grant asid a t leaf)

abbrev pub grant_of : ℕ → Access → Translation → Option Grant
grant_of asid a t = grant_by asid a t t.guest

abbrev pub reply_of : ℕ → Access → Result Translation Fault → Reply
reply_of asid a (Ok t) = record { outcome = Ok t.frame; grant = grant_of asid a t }
reply_of asid a (Err fault) = record { outcome = Err fault; grant = None }

-- the walk's own reply: nothing is consulted
abbrev pub walked_reply : World → Access → Reply
walked_reply w a = reply_of (asid_of w.guest) a (translate_of w a)
