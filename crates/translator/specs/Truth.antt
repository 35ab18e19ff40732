-- When a grant is true at a world, and when it is the fullest true one.
use Rattle.std.specs.Prelude.{◌≡◌, ℕ, Bool, true, ◌&&◌, Some, None, Ok, Err, Option, Result}
use Rattle.table.specs.declared.walks.Leaf.{Leaf}
use Rattle.entry.specs.Entry.{is_user}
use Rattle.access.specs.declared.accesses.Kind.{Kind}
use Rattle.fault.specs.declared.faults.GuestFault.{GuestFault}
use Rattle.stages.specs.declared.landings.Landing.{Landing}
use Rattle.registers.specs.Registers.{is_paged, asid_of}
use Rattle.access.specs.Rights.{gives, host_allows}
use Rattle.stages.specs.Stages.{World, guest_path}
use Rattle.stages.specs.Paths.{Path, passes}
use Rattle.translator.specs.declared.grants.Grant.{Grant}
use Rattle.translator.specs.Grants.{has_right}

-- both leaves give a kind of access its right; a Bare host gives every right
abbrev pub both_give : Kind → Leaf → Option Leaf → Bool
both_give k guest host = gives k guest.entry.word && passes (host_allows k) host

-- the grant names what the walk of its page comes to: the ASID of an Sv39 guest root, the frame inside the memory, and the guest leaf's U
pub record Named (w : World) (g : Grant) : Type 0 where
  pub guest : Leaf
  pub host : Option Leaf
  pub paged : is_paged w.guest ≡ true
  pub asid : g.asid ≡ asid_of w.guest
  pub path : Path w g.page (Some guest) host g.frame
  pub user : g.user ≡ is_user guest.entry.word

-- the grant is true: each right that it has both leaves give, and it is global only if the walk is
pub record True (w : World) (g : Grant) : Type 0 where
  pub named : Named w g
  pub rights : (k : Kind) → has_right k g ≡ true → both_give k named.guest named.host ≡ true
  pub global : g.global ≡ true → named.guest.global ≡ true

-- the grant is the fullest true one: it has exactly the rights that both leaves give, and it is global exactly if the walk is
pub record Fullest (w : World) (g : Grant) : Type 0 where
  pub named : Named w g
  pub rights : (k : Kind) → has_right k g ≡ both_give k named.guest named.host
  pub global : g.global ≡ named.guest.global

abbrev pub global_leaf : Option Leaf → Bool
global_leaf None = Bool.false
global_leaf (Some leaf) = leaf.global

abbrev pub global_by : Result Landing GuestFault → Bool
global_by (Ok at) = global_leaf at.leaf
global_by (Err e) = Bool.false

-- the walk of a page is global: a guest entry on its path has G
unfoldable pub is_global_walk : World → ℕ → Bool
is_global_walk w p = global_by (guest_path w p)
