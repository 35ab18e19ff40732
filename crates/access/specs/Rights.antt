-- What the leaves of the two stages allow.
use Rattle.std.specs.Prelude.{Bool, false, not, ◌&&◌, ◌||◌, ℕ}
use Rattle.entry.specs.Entry.{is_readable, is_writable, is_executable, is_user, is_accessed, is_dirty}
use Rattle.access.specs.declared.accesses.Kind.{Kind}
use Rattle.access.specs.declared.accesses.Kind.TheVariants.{Load, Store, Fetch}
use Rattle.access.specs.declared.accesses.Mode.{Mode}
use Rattle.access.specs.declared.accesses.Mode.TheVariants.{Supervisor, User}
use Rattle.access.specs.declared.accesses.Access.{Access}

-- a leaf gives a kind of access its right: A with R for a load, with W and D for a store, with X for a fetch
abbrev pub gives : Kind → ℕ → Bool
gives Load w = is_accessed w && is_readable w
gives Store w = is_accessed w && (is_writable w && is_dirty w)
gives Fetch w = is_accessed w && is_executable w

-- a host leaf allows a kind of access: U, and the right
abbrev pub host_allows : Kind → ℕ → Bool
host_allows k w = is_user w && gives k w

-- SUM lets mode s load from user pages and store to them, and never fetch
abbrev pub sum_allows : Kind → Bool → Bool
sum_allows Load sum = sum
sum_allows Store sum = sum
sum_allows Fetch sum = false

-- a page is open to a mode, where user tells whether it is a user page
abbrev pub mode_allows : Mode → Kind → Bool → Bool → Bool
mode_allows User k sum user = user
mode_allows Supervisor k sum user = not user || sum_allows k sum

abbrev pub user_allows : Access → Bool → Bool
user_allows a user = mode_allows a.mode a.kind a.sum user

-- MXR lets a load use the right to fetch
abbrev pub mxr_gives : Kind → Bool → ℕ → Bool
mxr_gives Load mxr w = mxr && gives Fetch w
mxr_gives Store mxr w = false
mxr_gives Fetch mxr w = false

-- a guest leaf allows an access
abbrev pub guest_allows : Access → ℕ → Bool
guest_allows a w = user_allows a (is_user w) && (gives a.kind w || mxr_gives a.kind a.mxr w)
