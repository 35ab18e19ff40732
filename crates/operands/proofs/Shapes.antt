-- What a call looks like, by its letter.
use Rattle.std.proofs.Common.{◌≡◌, ℕ, Bool, true, false, cond, eqb, List, length, get_or, sym, refl, ap, ◌∙◌, subst}
use Rattle.translator.specs.declared.fences.Fence.{Fence}
use Rattle.calls.specs.declared.Target.{Target}
use Rattle.calls.specs.declared.HostCall.{HostCall}
use Rattle.calls.specs.declared.HostCall.TheVariants as host
use Rattle.calls.specs.declared.GuestCall.{GuestCall}
use Rattle.calls.specs.declared.GuestCall.TheVariants as guest
use Rattle.operands.specs.Texts.{host_letter, host_rest, guest_letter, guest_rest}

-- one of two statements, by a test
abbrev pub either : Bool → Type 0 → Type 0 → Type 0
either true A B = A
either false A B = B

-- the letters r, w, h, y and e
abbrev pub HostShape : List ℕ → HostCall → Type 0
HostShape v c =
    let b = get_or v 0 0 in
    either (eqb b 114) ((a : ℕ) × (c ≡ host.Load a))
    (either (eqb b 119) ((a : ℕ) × (d : ℕ) × (c ≡ host.Store a d))
    (either (eqb b 104) ((r : ℕ) × (c ≡ host.Root r))
    (either (eqb b 121) (c ≡ host.Fence)
    (either (eqb b 101) (c ≡ host.Enter) ⊥))))

-- the letters l, s, f, z, g and x
abbrev pub GuestShape : List ℕ → GuestCall → Type 0
GuestShape v c =
    let b = get_or v 0 0 in
    either (eqb b 108) ((t : Target) × (c ≡ guest.Load t))
    (either (eqb b 115) ((t : Target) × (d : ℕ) × (c ≡ guest.Store t d))
    (either (eqb b 102) ((t : Target) × (c ≡ guest.Fetch t))
    (either (eqb b 122) ((f : Fence) × (c ≡ guest.Fence f))
    (either (eqb b 103) ((r : ℕ) × (c ≡ guest.Root r))
    (either (eqb b 120) (c ≡ guest.Leave) ⊥)))))

pub host_shape : (c : HostCall) → HostShape (host_letter c) c
host_shape (host.Load a) = (a, refl)
host_shape (host.Store a d) = (a, d, refl)
host_shape (host.Root r) = (r, refl)
host_shape host.Fence = refl
host_shape host.Enter = refl

pub guest_shape : (c : GuestCall) → GuestShape (guest_letter c) c
guest_shape (guest.Load t) = (t, refl)
guest_shape (guest.Store t d) = (t, d, refl)
guest_shape (guest.Fetch t) = (t, refl)
guest_shape (guest.Fence f) = (f, refl)
guest_shape (guest.Root r) = (r, refl)
guest_shape guest.Leave = refl

-- at a letter that is known
pub host_at_lem : (c : HostCall) (v w : List ℕ) → host_letter c ≡ v → v ≡ w → HostShape w c
host_at_lem c v w e i = subst (λ l. HostShape l c) (e ∙ i) (host_shape c)

pub guest_at_lem : (c : GuestCall) (v w : List ℕ) → guest_letter c ≡ v → v ≡ w → GuestShape w c
guest_at_lem c v w e i = subst (λ l. GuestShape l c) (e ∙ i) (guest_shape c)

-- how many fields follow a letter
abbrev host_count : List ℕ → ℕ
host_count v = let b = get_or v 0 0 in cond (eqb b 119) 2 (cond (eqb b 121) 0 (cond (eqb b 101) 0 1))

host_count_lem : (c : HostCall) → length (host_rest c) ≡ host_count (host_letter c)
host_count_lem (host.Load a) = refl
host_count_lem (host.Store a d) = refl
host_count_lem (host.Root r) = refl
host_count_lem host.Fence = refl
host_count_lem host.Enter = refl

pub host_even : (c d : HostCall) → host_letter c ≡ host_letter d → length (host_rest c) ≡ length (host_rest d)
host_even c d e = host_count_lem c ∙ ap host_count e ∙ sym (host_count_lem d)

abbrev guest_count : List ℕ → ℕ
guest_count v = let b = get_or v 0 0 in cond (eqb b 115) 5 (cond (eqb b 122) 2 (cond (eqb b 103) 1 (cond (eqb b 120) 0 4)))

guest_count_lem : (c : GuestCall) → length (guest_rest c) ≡ guest_count (guest_letter c)
guest_count_lem (guest.Load t) = refl
guest_count_lem (guest.Store t d) = refl
guest_count_lem (guest.Fetch t) = refl
guest_count_lem (guest.Fence f) = refl
guest_count_lem (guest.Root r) = refl
guest_count_lem guest.Leave = refl

pub guest_even : (c d : GuestCall) → guest_letter c ≡ guest_letter d → length (guest_rest c) ≡ length (guest_rest d)
guest_even c d e = guest_count_lem c ∙ ap guest_count e ∙ sym (guest_count_lem d)
