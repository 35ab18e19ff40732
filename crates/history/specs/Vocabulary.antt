-- What the words of the theorem mean: covering fences, bearing moments, true grants.
use Rattle.std.specs.Prelude.{◌≡◌, ℕ, ◌/◌, ◌^◌, ◌<◌, ◌≤◌, Bool, true, false, ◌⊎◌, ◌↔◌, Some, None, Ok, ◌≢◌}
use Rattle.access.specs.declared.accesses.Kind.{Kind}
use Rattle.access.specs.declared.accesses.Access.{Access}
use Rattle.access.specs.Accesses.{page_of, is_aligned}
use Rattle.registers.specs.Registers.{is_paged, asid_of}
use Rattle.stages.specs.Stages.{World}
use Rattle.translator.specs.declared.grants.Grant.{Grant}
use Rattle.translator.specs.declared.fences.Fence.{Fence}
use Rattle.translator.specs.Grants.{has_right, allows}
use Rattle.translator.specs.Truth.{True, Fullest}
use Rattle.translator.specs.Fences.{covers_grant}
use Rattle.translator.specs.Rules.{walked_to}
use Rattle.calls.specs.declared.HostCall.TheVariants as host_call
use Rattle.calls.specs.declared.GuestCall.{GuestCall}
use Rattle.calls.specs.declared.GuestCall.TheVariants as guest_call
use Rattle.calls.specs.declared.HostCall.{HostCall}
use Rattle.calls.specs.declared.Call.{Call}
use Rattle.calls.specs.declared.Call.TheVariants.{Host, Guest}
use Rattle.history.specs.Moments.{host, guest, Moment}
use Rattle.history.specs.Settled.{global_at, Covers, Bears}

-- the fence is of every address, or of one in the page
abbrev pub OfPage : Fence → ℕ → Type 0
OfPage f page = (f.address ≡ None) ⊎ ((address : ℕ) × (f.address ≡ Some address) × (address / 2 ^ 12 ≡ page))

-- the fence is of every ASID, or of this one, and then of nothing global
abbrev pub OfAsid : Fence → ℕ → Bool → Type 0
OfAsid f asid global = (f.asid ≡ None) ⊎ ((f.asid ≡ Some asid) × (global ≡ false))

-- the fence is accepted: it is of every ASID, or of one of at most 15
abbrev pub FitsAsid : Fence → Type 0
FitsAsid f = (f.asid ≡ None) ⊎ ((asid : ℕ) × (f.asid ≡ Some asid) × (asid ≤ 15))

-- the fence of every address and every ASID
abbrev pub fence_all : Fence
fence_all = record { address = None; asid = None }

-- which grants a guest fence covers
pub record GrantsCovered : Type 0 where
  -- exactly those of its page and its ASID
  pub exactly : (f : Fence) (g : Grant) → (covers_grant f g ≡ true) ↔ (OfPage f g.page × OfAsid f g.asid g.global)
  -- a fence of one ASID spares every global grant
  pub spares_global : (f : Fence) (g : Grant) (asid : ℕ) → f.asid ≡ Some asid → g.global ≡ true → covers_grant f g ≡ false
  -- and the grants of other ASIDs
  pub spares_asids : (f : Fence) (g : Grant) (asid : ℕ) → f.asid ≡ Some asid → (asid ≢ g.asid) → covers_grant f g ≡ false
  -- a fence of one address spares the grants of other pages
  pub spares_pages : (f : Fence) (g : Grant) (address : ℕ) → f.address ≡ Some address → (address / 2 ^ 12 ≢ g.page) → covers_grant f g ≡ false
  -- the fence of everything covers every grant
  pub all : (g : Grant) → covers_grant fence_all g ≡ true

-- which calls, made at m, cover a page as it was at the moment o
pub record MomentsCovered : Type 0 where
  -- a guest fence exactly if it is accepted, and is of the page and of the ASID of o
  pub guest_fence : (m : Moment) (f : Fence) (page : ℕ) (o : Moment)
      → Covers m (Guest (guest_call.Fence f)) page o
      ↔ ((m.side ≡ guest) × FitsAsid f × OfPage f page × OfAsid f (asid_of o.world.guest) (global_at o page))
  -- a host fence exactly if it is accepted
  pub host_fence : (m : Moment) (page : ℕ) (o : Moment) → Covers m (Host host_call.Fence) page o ↔ (m.side ≡ host)
  -- no other call covers
  pub no_other : (m : Moment) (c : Call) (page : ℕ) (o : Moment) → Covers m c page o → (c ≡ Host host_call.Fence) ⊎ ((f : Fence) × (c ≡ Guest (guest_call.Fence f)))
  -- a fence of one ASID spares every page whose walk was global
  pub spares_global : (m : Moment) (f : Fence) (page asid : ℕ) (o : Moment) → f.asid ≡ Some asid → global_at o page ≡ true
      → Covers m (Guest (guest_call.Fence f)) page o → ⊥
  -- and the moments of other ASIDs
  pub spares_asids : (m : Moment) (f : Fence) (page asid : ℕ) (o : Moment) → f.asid ≡ Some asid → (asid ≢ asid_of o.world.guest)
      → Covers m (Guest (guest_call.Fence f)) page o → ⊥
  -- a fence of one address spares other pages
  pub spares_pages : (m : Moment) (f : Fence) (page address : ℕ) (o : Moment) → f.address ≡ Some address → (address / 2 ^ 12 ≢ page)
      → Covers m (Guest (guest_call.Fence f)) page o → ⊥
  -- the fence of everything, made at the guest side, covers every page of every moment
  pub all : (m : Moment) (page : ℕ) (o : Moment) → m.side ≡ guest → Covers m (Guest (guest_call.Fence fence_all)) page o
  -- a fence of an ASID over 15 is refused, and covers nothing
  pub refused : (m : Moment) (f : Fence) (page asid : ℕ) (o : Moment) → f.asid ≡ Some asid → 15 < asid → Covers m (Guest (guest_call.Fence f)) page o → ⊥
  -- nor does a call of the other side
  pub no_guest : (m : Moment) (c : GuestCall) (page : ℕ) (o : Moment) → m.side ≡ host → Covers m (Guest c) page o → ⊥
  pub no_host : (m : Moment) (c : HostCall) (page : ℕ) (o : Moment) → m.side ≡ guest → Covers m (Host c) page o → ⊥

-- which moments bear on an access at m
pub record MomentsBear : Type 0 where
  -- none with a Bare guest root
  pub bare_before : (o m : Moment) (a : Access) → is_paged o.world.guest ≡ false → Bears o m a → ⊥
  -- and none on an access under a Bare guest root
  pub bare_now : (o m : Moment) (a : Access) → is_paged m.world.guest ≡ false → Bears o m a → ⊥
  -- under the same ASID each one
  pub same_asid : (o m : Moment) (a : Access) → is_paged o.world.guest ≡ true → is_paged m.world.guest ≡ true
      → asid_of o.world.guest ≡ asid_of m.world.guest → Bears o m a
  -- under another ASID exactly if the walk of the page was global there
  pub other_asid : (o m : Moment) (a : Access) → is_paged o.world.guest ≡ true → is_paged m.world.guest ≡ true
      → (asid_of o.world.guest ≢ asid_of m.world.guest) → Bears o m a ↔ (global_at o (page_of a) ≡ true)

-- g names what h names, has no right that h lacks, and is global only if h is
pub record Within (g h : Grant) : Type 0 where
  pub asid : g.asid ≡ h.asid
  pub frame : g.frame ≡ h.frame
  pub user : g.user ≡ h.user
  pub rights : (k : Kind) → has_right k g ≡ true → has_right k h ≡ true
  pub global : g.global ≡ true → h.global ≡ true

-- what is known of true grants and of the fullest
pub record GrantsTrue : Type 0 where
  -- the fullest grant is true
  pub fullest : (w : World) (g : Grant) → Fullest w g → True w g
  -- it is the only one of its page
  pub one : (w : World) (g h : Grant) → g.page ≡ h.page → Fullest w g → Fullest w h → g ≡ h
  -- where the walk gives an access a frame under an Sv39 guest root, the fullest grant of its page is there, with that frame
  pub there : (w : World) (a : Access) (frame : ℕ) → is_paged w.guest ≡ true → walked_to w a ≡ Ok frame
      → (g : Grant) × (g.page ≡ page_of a) × (g.frame ≡ frame) × Fullest w g
  -- the true grants of its page are exactly those within it
  pub within : (w : World) (g h : Grant) → g.page ≡ h.page → Fullest w h → True w g ↔ Within g h
  -- a true grant that allows an aligned access of its page means that the walk gives that access the grant's frame
  pub gives : (w : World) (g : Grant) (a : Access) → True w g → is_aligned a ≡ true → g.page ≡ page_of a → allows a g ≡ true → walked_to w a ≡ Ok g.frame
  -- none is true under a Bare guest root
  pub bare : (w : World) (g : Grant) → is_paged w.guest ≡ false → True w g → ⊥
