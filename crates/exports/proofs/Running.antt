-- A machine that is given its roots, and then loads.
use Rattle.std.proofs.Common.{◌≡◌, ℕ, Bool, true, false, List, ◌∷◌, Ok, sym, refl, ap, subst}
use Rattle.refusal.specs.declared.Refusal.{Refusal}
use Rattle.refusal.specs.declared.Refusal.TheVariants.{GuestRoot, HostRoot}
use Rattle.registers.specs.declared.roots.Roots.{Roots}
use Rattle.registers.specs.Registers.{is_guest_root, is_host_root}
use Rattle.stages.specs.Stages.{world_of}
use Rattle.translator.specs.declared.translators.Translator.{Ghosts}
use Rattle.calls.specs.declared.HostCall.TheVariants as host_call
use Rattle.calls.specs.declared.GuestCall.TheVariants as guest_call
use Rattle.calls.specs.declared.Call.TheVariants.{Host, Guest}
use Rattle.calls.specs.declared.Answer.TheVariants.{Done, Refused}
use Rattle.history.specs.Moments.{Moment, start}
use Rattle.history.specs.Plain.{accepted, on_host, on_guest}
use Rattle.history.specs.Settled.{Plainly}
use Rattle.history.specs.Runs.{Ran}
use Rattle.sides.specs.Sides.{host_moment, guest_moment}
use Rattle.exports.specs.Loads.{LoadsFrom, FromRun}

-- a call that is refused failed its test
refused_by : (test : Bool) (refusal r : Refusal) (m n k : Moment) → accepted test refusal m (Done, n) ≡ (Refused r, k) → (test ≡ false) × (r ≡ refusal)
refused_by true refusal r m n k e = absurd (let f = ap (λ p. p.0) e in cc)
refused_by false refusal r m n k e = let f = ap (λ p. p.0) e in (refl, cc)

-- a call that is done passed it
accepted_by : (test : Bool) (refusal : Refusal) (m n k : Moment) → accepted test refusal m (Done, n) ≡ (Done, k) → test ≡ true
accepted_by true refusal m n k e = refl
accepted_by false refusal m n k e = absurd (let f = ap (λ p. p.0) e in cc)

-- a host root register that is accepted keeps its layout
pub host_accepted : (ws : List ℕ) (before after : Roots) (register : ℕ) → on_host (world_of ws before) (host_call.Root register) ≡ (Done, host_moment ws after)
    → is_host_root register ≡ true
host_accepted ws before after register e = accepted_by (is_host_root register) HostRoot _ _ _ e

module _ (ws : List ℕ) (before after : Roots) (register : ℕ) (r : Refusal) where
  -- a root register that is refused breaks its layout
  pub host_refused : on_host (world_of ws before) (host_call.Root register) ≡ (Refused r, host_moment ws after) → (is_host_root register ≡ false) × (r ≡ HostRoot)
  host_refused e = refused_by (is_host_root register) HostRoot r _ _ _ e

  pub guest_refused : on_guest (world_of ws before) (guest_call.Root register) ≡ (Refused r, guest_moment ws after) → (is_guest_root register ≡ false) × (r ≡ GuestRoot)
  guest_refused e = refused_by (is_guest_root register) GuestRoot r _ _ _ e

module _ {S : Type 0} {members : Ghosts S} where
  -- the run of the roots that are written, and of the loads after them
  pub runs_loads : (ws : List ℕ) (guest host : ℕ) (first written entered last : Roots) (s u t : S) (addresses : List ℕ) (sum : ℕ)
      → host_moment ws first ≡ start ws → members.clears s u
      → on_host (world_of ws first) (host_call.Root host) ≡ (Done, host_moment ws written) → entered ≡ written
      → on_guest (world_of ws entered) (guest_call.Root guest) ≡ (Done, guest_moment ws last)
      → LoadsFrom members (guest_moment ws last) u addresses t sum → FromRun members s ws guest host addresses (Ok sum)
  unfolding Ran
  runs_loads ws guest host first written entered last s u t addresses sum new fenced rooted same guested loads =
      let one : Plainly (start ws) (Host (host_call.Root host)) Done (host_moment ws written) =
      subst (λ m. Plainly m (Host (host_call.Root host)) Done (host_moment ws written)) new (sym (ap (λ p. p.0) rooted), sym (ap (λ p. p.1) rooted)) in
      let three : Plainly (guest_moment ws written) (Guest (guest_call.Root guest)) Done (guest_moment ws last) =
      subst (λ r. Plainly (guest_moment ws r) (Guest (guest_call.Root guest)) Done (guest_moment ws last)) same (sym (ap (λ p. p.0) guested), sym (ap (λ p. p.1) guested)) in (
        Done ∷ (Done ∷ (Done ∷ loads.given)),
        guest_moment ws last,
        t,
        (
          u,
          fenced,
          (host_moment ws written, u, (one, refl), (guest_moment ws written, u, ((refl, refl), refl), (guest_moment ws last, u, (three, refl), loads.ran))),
        ),
        loads.total,
      )
