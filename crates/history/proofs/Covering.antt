-- What fences cover.
use Rattle.std.proofs.Common.{◌≡◌, ℕ, ◌/◌, ◌^◌, ◌<◌, ◌≤◌, Bool, true, false, cond, not, eqb, ◌⊎◌, ◌↔◌, Some, None, Option, sym, refl, ap, ◌∙◌, subst, inl, inr, ⊎_elim, arith}
use Rattle.std.proofs.lemmas.Bool.{cases_Bool, both_ways, and_parts, and_from, not-true, not_from_false, eqb-true, eq-eqb, leb-true, le-leb}
use Rattle.registers.specs.Registers.{asid_of}
use Rattle.translator.specs.declared.fences.Fence.{Fence}
use Rattle.translator.specs.Fences.{covers_page, covers_asid, covers}
use Rattle.calls.specs.declared.HostCall.TheVariants as host_call
use Rattle.calls.specs.declared.GuestCall.TheVariants as guest_call
use Rattle.calls.specs.declared.Call.{Call}
use Rattle.calls.specs.declared.Call.TheVariants.{Host, Guest, Unreadable}
use Rattle.history.specs.Moments.{Side, host, guest, Moment}
use Rattle.history.specs.Plain.{is_fence_asid}
use Rattle.history.specs.Asks.{nothing, forget, asks_by}
use Rattle.history.specs.Settled.{global_at, CoversBy, Covers}
use Rattle.history.specs.Vocabulary.{OfPage, OfAsid, FitsAsid, fence_all, GrantsCovered, MomentsCovered}

-- what is none or else holds, holds of what is there
else_of : {X B : Type 0} {o : Option X} {x : X} → o ≡ Some x → (o ≡ None) ⊎ B → B
else_of e (inl n) = absurd cc
else_of e (inr b) = b

-- the three tests of a fence, as propositions
of_page : (o : Option ℕ) (page : ℕ) → (covers_page o page ≡ true) ↔ ((o ≡ None) ⊎ ((address : ℕ) × (o ≡ Some address) × (address / 2 ^ 12 ≡ page)))
of_page None page = (λ e. inl refl, λ h. refl)
of_page (Some address) page = (
  λ e. inr (address, refl, eqb-true _ _ e),
  λ o. let h = else_of refl o in let f = h.1 in let same : address ≡ h.0 = cc in eq-eqb _ _ (ap (λ y. y / 2 ^ 12) same ∙ h.2),
)

of_asid : (o : Option ℕ) (asid : ℕ) (global : Bool) → (covers_asid o asid global ≡ true) ↔ ((o ≡ None) ⊎ ((o ≡ Some asid) × (global ≡ false)))
of_asid None asid global = (λ e. inl refl, λ h. refl)
of_asid (Some k) asid global = (
  λ e. let p = and_parts (eqb k asid) (not global) e in inr (ap Some (eqb-true _ _ p.0), not-true global p.1),
  λ o. let h = else_of refl o in let f = h.0 in let same : k ≡ asid = cc in and_from (eqb k asid) (not global) (eq-eqb k asid same) (not_from_false global h.1),
)

fits_asid : (o : Option ℕ) → (is_fence_asid o ≡ true) ↔ ((o ≡ None) ⊎ ((asid : ℕ) × (o ≡ Some asid) × (asid ≤ 15)))
fits_asid None = (λ e. inl refl, λ h. refl)
fits_asid (Some k) = (
  λ e. inr (k, refl, leb-true _ _ e),
  λ o. let h = else_of refl o in let f = h.1 in let l = h.2 in let same : k ≡ h.0 = cc in le-leb k 15 (omega arith),
)

not_fits : (f : Fence) (k : ℕ) → f.asid ≡ Some k → 15 < k → FitsAsid f → ⊥
not_fits f k e l o = let h = else_of e o in let i = h.1 in let b = h.2 in let same : k ≡ h.0 = cc in omega arith

module _ (f : Fence) (asid page : ℕ) (global : Bool) where
  -- a fence covers exactly what is of its page and its ASID
  pub covers_exactly : (covers f asid page global ≡ true) ↔ (OfPage f page × OfAsid f asid global)
  covers_exactly = (
    λ e. let p = and_parts (covers_page f.address page) (covers_asid f.asid asid global) e in
        ((of_page f.address page).0 p.0, (of_asid f.asid asid global).0 p.1),
    λ h. and_from (covers_page f.address page) (covers_asid f.asid asid global) ((of_page f.address page).1 h.0) ((of_asid f.asid asid global).1 h.1),
  )

  spares : (OfPage f page × OfAsid f asid global → ⊥) → covers f asid page global ≡ false
  spares outside = ⊎_elim (λ e. absurd (outside (covers_exactly.0 e))) (λ e. e) (cases_Bool (covers f asid page global))

  not_global : (k : ℕ) → f.asid ≡ Some k → global ≡ true → OfAsid f asid global → ⊥
  not_global k e g o = both_ways global (else_of e o).1 g

  not_asid : (k : ℕ) → f.asid ≡ Some k → (k ≡ asid → ⊥) → OfAsid f asid global → ⊥
  not_asid k e other o = let i = (else_of e o).0 in other cc

  not_page : (address : ℕ) → f.address ≡ Some address → (address / 2 ^ 12 ≡ page → ⊥) → OfPage f page → ⊥
  not_page address e other o = let h = else_of e o in let i = h.1 in let same : address ≡ h.0 = cc in other (ap (λ y. y / 2 ^ 12) same ∙ h.2)

pub grants_covered : GrantsCovered
grants_covered =
    record {
      exactly = λ f g. covers_exactly f g.asid g.page g.global;
      spares_global = λ f g k e h. spares f g.asid g.page g.global (λ o. not_global f g.asid g.page g.global k e h o.1);
      spares_asids = λ f g k e h. spares f g.asid g.page g.global (λ o. not_asid f g.asid g.page g.global k e h o.1);
      spares_pages = λ f g k e h. spares f g.asid g.page g.global (λ o. not_page f g.asid g.page g.global k e h o.0);
      all = λ g. refl;
    }

host_not_guest : host ≡ guest → ⊥
host_not_guest e = cc

-- what is needed for a guest fence to cover
abbrev Needs : Side → Fence → ℕ → Moment → Type 0
Needs s f page o = (s ≡ guest) × FitsAsid f × OfPage f page × OfAsid f (asid_of o.world.guest) (global_at o page)

guest_by : (s : Side) (f : Fence) (page : ℕ) (o : Moment) → CoversBy (asks_by s (Guest (guest_call.Fence f))) page o ↔ Needs s f page o
guest_by host f page o = (λ h. absurd h, λ h. absurd (host_not_guest h.0))
guest_by guest f page o = on (is_fence_asid f.asid) refl
  where
    on : (b : Bool) → is_fence_asid f.asid ≡ b → CoversBy (cond b (forget f) nothing) page o ↔ Needs guest f page o
    on true e =
        let exactly = covers_exactly f (asid_of o.world.guest) page (global_at o page) in
        (λ h. let p = exactly.0 h in (refl, (fits_asid f.asid).0 e, p.0, p.1), λ h. exactly.1 (h.2, h.3))
    on false e = (λ h. absurd h, λ h. absurd (both_ways _ e ((fits_asid f.asid).1 h.1)))

host_by : (s : Side) (page : ℕ) (o : Moment) → CoversBy (asks_by s (Host host_call.Fence)) page o ↔ (s ≡ host)
host_by host page o = (λ h. refl, λ h. tt)
host_by guest page o = (λ h. absurd h, λ h. absurd (host_not_guest (sym h)))

no_other_by : (s : Side) (c : Call) (page : ℕ) (o : Moment) → CoversBy (asks_by s c) page o → (c ≡ Host host_call.Fence) ⊎ ((f : Fence) × (c ≡ Guest (guest_call.Fence f)))
no_other_by host (Host (host_call.Load address)) page o h = absurd h
no_other_by host (Host (host_call.Store address new)) page o h = absurd h
no_other_by host (Host (host_call.Root register)) page o h = absurd h
no_other_by host (Host host_call.Fence) page o h = inl refl
no_other_by host (Host host_call.Enter) page o h = absurd h
no_other_by host (Guest c) page o h = absurd h
no_other_by host Unreadable page o h = absurd h
no_other_by guest (Host c) page o h = absurd h
no_other_by guest (Guest (guest_call.Load target)) page o h = absurd h
no_other_by guest (Guest (guest_call.Store target new)) page o h = absurd h
no_other_by guest (Guest (guest_call.Fetch target)) page o h = absurd h
no_other_by guest (Guest (guest_call.Fence f)) page o h = inr (f, refl)
no_other_by guest (Guest (guest_call.Root register)) page o h = absurd h
no_other_by guest (Guest guest_call.Leave) page o h = absurd h
no_other_by guest Unreadable page o h = absurd h

of_fence : (m : Moment) (f : Fence) (page : ℕ) (o : Moment) → Covers m (Guest (guest_call.Fence f)) page o → Needs m.side f page o
of_fence m f page o = (guest_by m.side f page o).0

pub moments_covered : MomentsCovered
moments_covered =
    record {
      guest_fence = λ m f page o. guest_by m.side f page o;
      host_fence = λ m page o. host_by m.side page o;
      no_other = λ m c page o. no_other_by m.side c page o;
      spares_global = λ m f page k o e g h. not_global f (asid_of o.world.guest) page (global_at o page) k e g (of_fence m f page o h).3;
      spares_asids = λ m f page k o e other h. not_asid f (asid_of o.world.guest) page (global_at o page) k e other (of_fence m f page o h).3;
      spares_pages = λ m f page k o e other h. not_page f (asid_of o.world.guest) page (global_at o page) k e other (of_fence m f page o h).2;
      all = λ m page o e. (guest_by m.side fence_all page o).1 (e, inl refl, inl refl, inl refl);
      refused = λ m f page k o e l h. not_fits f k e l (of_fence m f page o h).1;
      no_guest = λ m c page o e h. subst (λ s. CoversBy (asks_by s (Guest c)) page o) e h;
      no_host = λ m c page o e h. subst (λ s. CoversBy (asks_by s (Host c)) page o) e h;
    }
