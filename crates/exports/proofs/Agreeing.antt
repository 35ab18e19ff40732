-- The loads are settled: no root is paged before they begin, and from then on nothing changes.
use Rattle.std.proofs.Common.{◌≡◌, ℕ, zero, suc, ◌<◌, ◌≤◌, Bool, true, false, List, [], ◌∷◌, map, take, Ok, Err, Result, sym, refl, ap, ◌∙◌, subst, inl, inr, arith}
use Rattle.std.proofs.lemmas.Bool.{cases_lt, both_ways}
use Rattle.refusal.specs.declared.Refusal.TheVariants.{HostRoot}
use Rattle.access.specs.declared.accesses.Kind.TheVariants.{Load}
use Rattle.fault.specs.declared.faults.Fault.{Fault}
use Rattle.registers.specs.Registers.{is_paged, is_guest_root, is_host_root}
use Rattle.stages.specs.Stages.{World}
use Rattle.translator.specs.declared.translators.Translator.{Ghosts}
use Rattle.translator.specs.Rules.{walked_to}
use Rattle.calls.specs.declared.Target.{Target}
use Rattle.calls.specs.declared.HostCall.TheVariants as host_call
use Rattle.calls.specs.declared.GuestCall.TheVariants as guest_call
use Rattle.calls.specs.declared.Call.TheVariants.{Host, Guest}
use Rattle.calls.specs.declared.Answer.TheVariants.{Done}
use Rattle.calls.specs.Targets.{access_of}
use Rattle.history.specs.Moments.{Side, host, guest, Moment, host_at, with_host, start}
use Rattle.history.specs.Plain.{accepted, landed, plain_by, plain, plain_end}
use Rattle.history.specs.Settled.{plain_at, AllSettled}
use Rattle.history.specs.Theorem.{RunsAgree}
use Rattle.exports.specs.Loads.{load_from, load_calls, sum_of, plain_sum, FromRun}

-- a load leaves words and roots as they are
landed_still : (w : World) (t : Target) (r : Result ℕ Fault) → (landed w (access_of Load t) 0 r).1.world ≡ w
landed_still w t (Ok frame) = refl
landed_still w t (Err fault) = refl

load_still : (side : Side) (w : World) (t : Target) → (plain_by side w (Guest (guest_call.Load t))).1.world ≡ w
load_still host w t = refl
load_still guest w t = landed_still w t (walked_to w (access_of Load t))

loads_still : (m : Moment) (addresses : List ℕ) (j : ℕ) → (plain_end m (take j (map load_from addresses))).world ≡ m.world
unfolding plain_end
loads_still m addresses zero = refl
loads_still m [] (suc j) = refl
loads_still m (a ∷ more) (suc j) = loads_still (plain m (load_from a)).1 more j ∙ load_still m.side m.world _

module _ (ws : List ℕ) (guestRoot hostRoot : ℕ) (addresses : List ℕ) where
  -- the moment at which the loads begin
  abbrev begin : Moment
  begin = (plain (plain (plain (start ws) (Host (host_call.Root hostRoot))).1 (Host host_call.Enter)).1 (Guest (guest_call.Root guestRoot))).1

  -- before it the guest's root is 0
  early : (i : ℕ) → i < 3 → (plain_at (start ws) (load_calls guestRoot hostRoot addresses) i).world.guest ≡ 0
  unfolding plain_end
  early zero l = refl
  early (suc zero) l =
      let after : Bool → Moment = λ b. (accepted b HostRoot (start ws) (Done, host_at (with_host (start ws).world hostRoot))).1 in
      elim (is_host_root hostRoot) as (λ b. (after b).world.guest ≡ 0) [ true ↦ refl | false ↦ refl ]
  early (suc (suc zero)) l =
      let after : Bool → Moment = λ b. (accepted b HostRoot (start ws) (Done, host_at (with_host (start ws).world hostRoot))).1 in
      elim (is_host_root hostRoot) as (λ b. (plain (after b) (Host host_call.Enter)).1.world.guest ≡ 0) [ true ↦ refl | false ↦ refl ]
  early (suc (suc (suc i))) l = absurd (omega arith)

  late : (i : ℕ) → 3 ≤ i → (plain_at (start ws) (load_calls guestRoot hostRoot addresses) i).world ≡ begin.world
  unfolding plain_end
  late zero l = absurd (omega arith)
  late (suc zero) l = absurd (omega arith)
  late (suc (suc zero)) l = absurd (omega arith)
  late (suc (suc (suc i))) l = loads_still begin addresses i

  pub loads_settled : AllSettled (plain_at (start ws) (load_calls guestRoot hostRoot addresses)) (load_calls guestRoot hostRoot addresses)
  loads_settled k c a new i frame call asked before bears gives =
      elim (cases_lt i 3) [
        | inl l ↦ absurd (both_ways _ refl (subst (λ r. is_paged r ≡ true) (early i l) bears.before))
        | inr l ↦ inr (subst (λ w. walked_to w a ≡ Ok frame) (late i l ∙ sym (late k (omega arith))) gives)
      ]

module _ {S : Type 0} (members : Ghosts S) (agree : RunsAgree members) where
  -- the sum of a run over any translator is the plain machine's
  pub sum_is_plain : (s : S) (ws : List ℕ) (guestRoot hostRoot : ℕ) (addresses : List ℕ) (sum : ℕ) → is_guest_root guestRoot ≡ true → is_host_root hostRoot ≡ true
      → FromRun members s ws guestRoot hostRoot addresses (Ok sum) → Ok sum ≡ plain_sum ws guestRoot hostRoot addresses
  sum_is_plain s ws guestRoot hostRoot addresses sum g h run =
      let same = (agree (start ws) s (load_calls guestRoot hostRoot addresses) run.0 run.1 run.2 run.3).1 (loads_settled ws guestRoot hostRoot addresses) in
      rw (g, h) (ap Ok (run.4 ∙ ap sum_of same.answers))
