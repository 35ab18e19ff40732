-- A call whose fields after its letter are not next is not next.
use Rattle.std.proofs.Common.{◌≡◌, ℕ, List, [], ◌∷◌, None}
use Rattle.calls.specs.declared.HostCall.{HostCall}
use Rattle.calls.specs.declared.GuestCall.{GuestCall}
use Rattle.operands.specs.Texts.{host_letter, host_rest, guest_letter, guest_rest}
use Rattle.operands.specs.Reads.{Takes, TakesRest}
use Rattle.operands.proofs.Shapes.{HostShape, GuestShape, host_shape, guest_shape}
use Rattle.operands.proofs.Spelling.{host_spelled, guest_spelled}
use Rattle.operands.proofs.Tails.{no_call}

pub no_host : {A : Type 0} (make : A → HostCall) {b n : ℕ} {left : List ℕ} (on : List ℕ) → b ≡ n → ((c : HostCall) → HostShape (n ∷ []) c → (a : A) × (c ≡ make a))
    → Takes (λ a. host_rest (make a)) left None on → TakesRest host_letter host_rest b left None on
no_host = no_call host_letter host_rest host_spelled HostShape host_shape

pub no_guest : {A : Type 0} (make : A → GuestCall) {b n : ℕ} {left : List ℕ} (on : List ℕ) → b ≡ n → ((c : GuestCall) → GuestShape (n ∷ []) c → (a : A) × (c ≡ make a))
    → Takes (λ a. guest_rest (make a)) left None on → TakesRest guest_letter guest_rest b left None on
no_guest = no_call guest_letter guest_rest guest_spelled GuestShape guest_shape
