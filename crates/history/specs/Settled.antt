-- When an access is settled, and what a run may do where it is not: by the numbers of moments and calls.
-- Calls are counted from 0. Call k is made at moment k and leads to moment k + 1; moment 0 is the machine as it is made.
use Rattle.std.specs.Prelude.{◌≡◌, ℕ, suc, ◌<◌, ◌≤◌, Bool, true, ◌⊎◌, List, length, take, Some, Ok}
use Rattle.std.specs.List.{slice_get}
use Rattle.access.specs.declared.accesses.Access.{Access}
use Rattle.access.specs.Accesses.{page_of}
use Rattle.registers.specs.Registers.{is_paged, asid_of}
use Rattle.translator.specs.Truth.{is_global_walk}
use Rattle.translator.specs.Fences.{covers}
use Rattle.translator.specs.Rules.{walked_to}
use Rattle.calls.specs.declared.Call.{Call}
use Rattle.calls.specs.declared.Answer.{Answer}
use Rattle.history.specs.Moments.{Moment}
use Rattle.history.specs.Plain.{done_at, plain, plain_end}
use Rattle.history.specs.Asks.{Ask, nothing, reach, forget, clear, asks}

-- the walk of a page at the moment is global
abbrev pub global_at : Moment → ℕ → Bool
global_at o page = is_global_walk o.world page

abbrev pub CoversBy : Ask → ℕ → Moment → Type 0
CoversBy nothing page o = ⊥
CoversBy (reach a new) page o = ⊥
CoversBy (forget f) page o = covers f (asid_of o.world.guest) page (global_at o page) ≡ true
CoversBy clear page o = Unit {0}

-- the call, made at m, is an accepted fence that covers the page as it was at the moment o: with the ASID of o, and its walk global or not
abbrev pub Covers : Moment → Call → ℕ → Moment → Type 0
Covers m c page o = CoversBy (asks m c) page o

-- the moment o bears on an access at m: both guest roots are Sv39, with equal ASIDs or a global walk of the page at o
pub record Bears (o m : Moment) (a : Access) : Type 0 where
  pub before : is_paged o.world.guest ≡ true
  pub now : is_paged m.world.guest ≡ true
  pub shared : (asid_of o.world.guest ≡ asid_of m.world.guest) ⊎ (global_at o (page_of a) ≡ true)

-- the walk at the moment gives the access this frame
abbrev pub Gives : Moment → Access → ℕ → Type 0
Gives o a frame = walked_to o.world a ≡ Ok frame

-- the call goes as in the plain machine from m
abbrev pub Plainly : Moment → Call → Answer → Moment → Type 0
Plainly m c x n = (x ≡ (plain m c).0) × (n ≡ (plain m c).1)

-- the moments of the plain machine
abbrev pub plain_at : Moment → List Call → ℕ → Moment
plain_at m cs k = plain_end m (take k cs)

module _ (at : ℕ → Moment) (cs : List Call) where
  -- a call from i on and before k is an accepted fence that covers the page as it was at moment i
  abbrev pub CoveredFrom : ℕ → ℕ → ℕ → Type 0
  CoveredFrom page i k = (j : ℕ) × (c : Call) × (i ≤ j) × (j < k) × (slice_get cs j ≡ Some c) × Covers (at j) c page (at i)

  -- each access that is not refused is settled: what an earlier bearing moment gives is covered, or the walk now gives it
  abbrev pub AllSettled : Type 0
  AllSettled =
      (k : ℕ) (c : Call) (a : Access) (new i frame : ℕ) → slice_get cs k ≡ Some c → asks (at k) c ≡ reach a new
      → i < k → Bears (at i) (at k) a → Gives (at i) a frame → CoveredFrom (page_of a) i k ⊎ Gives (at k) a frame

  -- call k is an access, done at a frame that an earlier bearing moment gives, with no covering fence since
  pub record Remembered (k : ℕ) (c : Call) (x : Answer) : Type 0 where
    pub access : Access
    pub new : ℕ
    pub origin : ℕ
    pub frame : ℕ
    pub reaches : asks (at k) c ≡ reach access new
    pub earlier : origin < k
    pub bears : Bears (at origin) (at k) access
    pub gives : Gives (at origin) access frame
    pub uncovered : CoveredFrom (page_of access) origin k → ⊥
    pub answer : x ≡ (done_at (at k).world access new frame).0
    pub after : at (suc k) ≡ (done_at (at k).world access new frame).1

  -- each call goes as in the plain machine from its own moment, or is an access that was remembered
  abbrev pub AllServed : List Answer → Type 0
  AllServed xs = (k : ℕ) (c : Call) (x : Answer) → slice_get cs k ≡ Some c → slice_get xs k ≡ Some x → Plainly (at k) c x (at (suc k)) ⊎ Remembered k c x

-- there are moments of the run's own, from m to the end, at which each call is served
pub record Faithful (m : Moment) (cs : List Call) (xs : List Answer) (end : Moment) : Type 0 where
  pub at : ℕ → Moment
  pub first : at 0 ≡ m
  pub last : at (length cs) ≡ end
  pub many : length xs ≡ length cs
  pub served : AllServed at cs xs
