-- What a call that reaches comes to in the plain machine.
use Rattle.std.proofs.Common.{◌≡◌, ℕ, Bool, true, false, cond, Result, sym, refl, ap, ◌∙◌, subst}
use Rattle.access.specs.declared.accesses.Access.{Access}
use Rattle.fault.specs.declared.faults.Fault.{Fault}
use Rattle.stages.specs.Stages.{World}
use Rattle.translator.specs.declared.fences.Fence.{Fence}
use Rattle.translator.specs.Rules.{walked_to}
use Rattle.calls.specs.declared.HostCall.TheVariants as host_call
use Rattle.calls.specs.declared.GuestCall.TheVariants as guest_call
use Rattle.calls.specs.declared.Call.{Call}
use Rattle.calls.specs.declared.Call.TheVariants.{Host, Guest, Unreadable}
use Rattle.calls.specs.declared.Answer.{Answer}
use Rattle.history.specs.Moments.{Side, host, guest, Moment}
use Rattle.history.specs.Plain.{is_fence_asid, landed, plain_access, plain, plain_by}
use Rattle.history.specs.Asks.{Ask, nothing, reach, forget, clear, asks_by, asks}
use Rattle.history.specs.Settled.{Plainly}

-- what the plain machine makes of an access; of any other ask nothing is said
abbrev Lands : World → Ask → Answer × Moment → Type 0
Lands w nothing y = Unit {0}
Lands w (reach a new) y = y ≡ plain_access w a new
Lands w (forget f) y = Unit {0}
Lands w clear y = Unit {0}

lands_fence : (w : World) (f : Fence) (test : Bool) (y : Answer × Moment) → Lands w (cond test (forget f) nothing) y
lands_fence w f true y = tt
lands_fence w f false y = tt

lands_by : (w : World) (s : Side) (c : Call) → Lands w (asks_by s c) (plain_by s w c)
lands_by w host (Host (host_call.Load address)) = tt
lands_by w host (Host (host_call.Store address new)) = tt
lands_by w host (Host (host_call.Root register)) = tt
lands_by w host (Host host_call.Fence) = tt
lands_by w host (Host host_call.Enter) = tt
lands_by w host (Guest c) = tt
lands_by w host Unreadable = tt
lands_by w guest (Host c) = tt
lands_by w guest (Guest (guest_call.Load target)) = refl
lands_by w guest (Guest (guest_call.Store target new)) = refl
lands_by w guest (Guest (guest_call.Fetch target)) = refl
lands_by w guest (Guest (guest_call.Fence fence)) = lands_fence w fence (is_fence_asid fence.asid) _
lands_by w guest (Guest (guest_call.Root register)) = tt
lands_by w guest (Guest guest_call.Leave) = tt
lands_by w guest Unreadable = tt

-- a call that reaches is done where the walk says
pub reach_lands : (m : Moment) (c : Call) (a : Access) (new : ℕ) → asks m c ≡ reach a new → plain m c ≡ landed m.world a new (walked_to m.world a)
reach_lands m c a new e = subst (λ q. Lands m.world q (plain m c)) e (lands_by m.world m.side c)

-- so one that is done as the walk says goes as in the plain machine
pub reach_plainly : (m : Moment) (c : Call) (a : Access) (new : ℕ) (r : Result ℕ Fault) (x : Answer) (n : Moment) → asks m c ≡ reach a new
    → walked_to m.world a ≡ r → x ≡ (landed m.world a new r).0 → n ≡ (landed m.world a new r).1 → Plainly m c x n
reach_plainly m c a new r x n e w p q =
    let l : landed m.world a new r ≡ plain m c = ap (landed m.world a new) (sym w) ∙ sym (reach_lands m c a new e) in
    (p ∙ ap (λ y. y.0) l, q ∙ ap (λ y. y.1) l)
