-- A grant as the leaf entry that is written for it, and back.
use Rattle.std.specs.Prelude.{ℕ, ◌+◌, ◌*◌, Bool, false, cond, ◌||◌, Some, None, Option}
use Rattle.entry.specs.declared.entries.Entry.{Entry}
use Rattle.entry.specs.Entry.{is_readable, is_writable, is_executable, is_user, frame_of}
use Rattle.translator.specs.declared.grants.Grant.{Grant}

-- with none of these a leaf would read as a pointer
abbrev pub has_some_right : Grant → Bool
has_some_right g = g.read || (g.write || g.fetch)

-- a flag as a number
abbrev pub one : Bool → ℕ
one b = cond b 1 0

-- V, A and D with the grant's rights, its U and its frame; never G
abbrev pub leaf_word : Grant → ℕ
leaf_word g = 193 + (2 * one g.read + (4 * one g.write + (8 * one g.fetch + (16 * one g.user + 1024 * g.frame))))

-- the grant that a leaf gives for a page under an ASID
abbrev pub grant_of : ℕ → ℕ → Entry → Grant
grant_of asid page e =
    record {
      asid = asid;
      page = page;
      frame = frame_of e.word;
      read = is_readable e.word;
      write = is_writable e.word;
      fetch = is_executable e.word;
      user = is_user e.word;
      global = false;
    }

abbrev pub as_grant : ℕ → ℕ → Option Entry → Option Grant
as_grant asid page None = None
as_grant asid page (Some e) = Some (grant_of asid page e)
