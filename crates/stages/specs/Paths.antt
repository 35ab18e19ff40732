-- The path of a page through both stages, and the accesses that it grants.
use Rattle.std.specs.Prelude.{◌≡◌, ℕ, Bool, true, Some, None, Ok, Option}
use Rattle.table.specs.declared.walks.Leaf.{Leaf}
use Rattle.access.specs.declared.accesses.Access.{Access}
use Rattle.stages.specs.declared.outcomes.Translation.{Translation}
use Rattle.access.specs.Accesses.{page_of, word_of, is_aligned}
use Rattle.access.specs.Rights.{host_allows, guest_allows}
use Rattle.stages.specs.Host.{host_path, is_inside}
use Rattle.stages.specs.Stages.{World, guest_path}

-- the page comes by these leaves, each none under Bare, to this frame inside the memory, whatever the rights
pub record Path (w : World) (p : ℕ) (guest host : Option Leaf) (frame : ℕ) : Type 0 where
  pub middle : ℕ
  pub first : guest_path w p ≡ Ok (record { frame = middle; leaf = guest })
  pub second : host_path w.words w.host middle ≡ Ok (record { frame = frame; leaf = host })
  pub inside : is_inside w.words frame ≡ true

-- a leaf passes a test; where there is none, under Bare, every right is given
abbrev pub passes : (ℕ → Bool) → Option Leaf → Bool
passes test None = true
passes test (Some leaf) = test leaf.entry.word

-- the access is granted: it is aligned, and its page has a path whose leaves both allow it
pub record Granted (w : World) (a : Access) (t : Translation) : Type 0 where
  pub aligned : is_aligned a ≡ true
  pub path : Path w (page_of a) t.guest t.host t.frame
  pub guest : passes (guest_allows a) t.guest ≡ true
  pub host : passes (host_allows a.kind) t.host ≡ true
  pub word : t.word ≡ word_of a
