-- A shadow, by what it keeps.
use Rattle.std.specs.Prelude.{◌≡◌, ℕ, ◌<◌, ◌≤◌, List, [], Ok, Err, Result, Vec, vec_items}
use Rattle.std.specs.declared.alloc.Global.{Global}
use Rattle.access.specs.declared.accesses.Access.{Access}
use Rattle.stages.specs.Stages.{World}
use Rattle.translator.specs.declared.grants.Grant.{Grant}
use Rattle.translator.specs.declared.fences.Fence.{Fence}
use Rattle.translator.specs.declared.replies.Reply.{Reply}
use Rattle.translator.specs.Walked.{walked_reply}
use Rattle.layout.specs.Tables.{frames}
use Rattle.layout.specs.Changes.{reset}
use Rattle.pool.specs.declared.pools.Pool.{Pool}
use Rattle.leaves.specs.Lookups.{hit}
use Rattle.shadow.specs.Steps.{reply_by, after_by}
use Rattle.shadow.specs.Book.{book_of}
use Rattle.leaves.specs.Fences.{fenced}

-- a pool, or words that are too few for one
abbrev pub Store : Type 0
Store = Result Pool (Vec ℕ Global)

-- the words, as they are
abbrev pub words_of : Store → List ℕ
words_of (Err words) = vec_items words
words_of (Ok pool) = vec_items pool.words

-- a pool of these words
abbrev pub Holds : List ℕ → Store → Type 0
Holds words (Err back) = ⊥
Holds words (Ok pool) = vec_items pool.words ≡ words

-- words that are too few have no grants, and stay as they are
abbrev pub grants_of : Store → List Grant
grants_of (Err words) = []
grants_of (Ok pool) = book_of (vec_items pool.words)

abbrev pub Answers : Store → World → Access → Reply → Store → Type 0
Answers (Err words) w a r after = (r ≡ walked_reply w a) × (after ≡ Err words)
Answers (Ok pool) w a r after =
    (r ≡ reply_by (hit (vec_items pool.words) w.guest a) (walked_reply w a))
    × Holds (after_by (vec_items pool.words) (hit (vec_items pool.words) w.guest a) (walked_reply w a)) after

abbrev pub Forgets : Store → Fence → Store → Type 0
Forgets (Err words) f after = after ≡ Err words
Forgets (Ok pool) f after = Holds (fenced (vec_items pool.words) f.address f.asid) after

abbrev pub Clears : Store → Store → Type 0
Clears (Err words) after = after ≡ Err words
Clears (Ok pool) after = Holds (reset (vec_items pool.words)) after

-- what is made of a pool: fewer than four frames stay as they are; a larger pool is reset
abbrev pub MadeOf : List ℕ → Store → Type 0
MadeOf words (Err back) = (frames words < 4) × (vec_items back ≡ words)
MadeOf words (Ok pool) = (4 ≤ frames words) × (vec_items pool.words ≡ reset words)
