-- What holds of the grants in a set after it is filled or cleared, and the invariant of the sets kept.
use Rattle.std.specs.Prelude.{◌≡◌, ℕ, zero, suc, ◌%◌, ◌<◌, Bool, true, false, cond, List, [], ◌∷◌, map, get_or, Some, None, Option, slice_index_or, slice_set, refl}
use Rattle.std.proofs.Common.{sym, subst, arith}
use Rattle.std.specs.List.{position, ContainsAt as Has, AllByRecursion}
use Rattle.std.proofs.ByRecursion.{all-has, All-weaker, all_has_itself}
use Rattle.translator.specs.declared.grants.Grant.{Grant}
use Rattle.translator.specs.declared.fences.Fence.{Fence}
use Rattle.translator.specs.Fences.{covers_grant}
use Rattle.tlb.specs.declared.ways.Set.{Set}
use Rattle.tlb.specs.Ways.{is_alike, is_empty, standing, filled_by, filled, spared, cleared}
use Rattle.tlb.specs.Tables.{no_set, set_of, Placed, Ready, sets_after}

-- what holds of each grant in the ways of a set
abbrev pub Holding : (Grant → Type 0) → Set → Type 0
Holding P s = AllByRecursion P (standing s.ways)

module _ (P : Grant → Type 0) where
  all_put : (ways : List (Option Grant)) (i : ℕ) (g : Grant) → P g → AllByRecursion P (standing ways) → AllByRecursion P (standing (slice_set ways i (Some g)))
  all_put [] i g p h = tt
  all_put (None ∷ ways) zero g p h = (p, h)
  all_put (Some x ∷ ways) zero g p h = (p, h.1)
  all_put (None ∷ ways) (suc i) g p h = all_put ways i g p h
  all_put (Some x ∷ ways) (suc i) g p h = (h.0, all_put ways i g p h.1)

  filled_by_lem : (alike empty : Option ℕ) (g : Grant) (s : Set) → P g → Holding P s → Holding P (filled_by alike empty g s)
  filled_by_lem (Some i) empty g s = all_put s.ways i g
  filled_by_lem None (Some i) g s = all_put s.ways i g
  filled_by_lem None None g s = all_put s.ways s.next g

  pub filled_holds : (g : Grant) (s : Set) → P g → Holding P s → Holding P (filled g s)
  filled_holds g s = filled_by_lem (position (is_alike g) s.ways) (position is_empty s.ways) g s

  -- a fence leaves the grants that it does not cover
  pub spared_all : (f : Fence) (ways : List (Option Grant)) → AllByRecursion P (standing ways) → AllByRecursion (λ g. P g × (covers_grant f g ≡ false)) (standing (map (spared f) ways))
  spared_all f [] h = tt
  spared_all f (None ∷ ways) h = spared_all f ways h
  spared_all f (Some g ∷ ways) h = by_test (covers_grant f g) refl (spared_all f ways h.1)
    where
      Q : Grant → Type 0
      Q x = P x × (covers_grant f x ≡ false)

      by_test : (b : Bool) → covers_grant f g ≡ b → AllByRecursion Q (standing (map (spared f) ways)) → AllByRecursion Q (standing (cond b None (Some g) ∷ map (spared f) ways))
      by_test true e rest = rest
      by_test false e rest = ((h.0, e), rest)

-- what holds of each set, by its place
pub each_set : (P : ℕ → Set → Type 0) (sets : List Set) (i : ℕ) (s : Set) → P i s → ((j : ℕ) → P j (slice_index_or sets j no_set)) → (j : ℕ) → P j (slice_index_or (slice_set sets i s) j no_set)
each_set P [] i s p all j = all j
each_set P (x ∷ xs) zero s p all zero = p
each_set P (x ∷ xs) zero s p all (suc j) = all (suc j)
each_set P (x ∷ xs) (suc i) s p all zero = all zero
each_set P (x ∷ xs) (suc i) s p all (suc j) = each_set (λ k. P (suc k)) xs i s p (λ k. all (suc k)) j

pub each_map : (P Q : ℕ → Set → Type 0) (f : Set → Set) (sets : List Set) → ((j : ℕ) → Q j no_set) → ((j : ℕ) (s : Set) → P j s → Q j (f s)) → ((j : ℕ) → P j (slice_index_or sets j no_set)) → (j : ℕ) → Q j (slice_index_or (map f sets) j no_set)
each_map P Q f [] past keep all j = past j
each_map P Q f (x ∷ xs) past keep all zero = keep zero x (all zero)
each_map P Q f (x ∷ xs) past keep all (suc j) = each_map (λ k. P (suc k)) (λ k. Q (suc k)) f xs (λ k. past (suc k)) (λ k. keep (suc k)) (λ k. all (suc k)) j

next_filled_by : (alike empty : Option ℕ) (g : Grant) (s : Set) → s.next < 4 → (filled_by alike empty g s).next < 4
next_filled_by (Some i) empty g s l = l
next_filled_by None (Some i) g s l = l
next_filled_by None None g s l = omega arith

-- each grant of the set i is of a page that is i mod 16
abbrev pub Of : ℕ → Set → Type 0
Of i = Holding (λ g. g.page % 16 ≡ i)

pub placed_all : (sets : List Set) → Placed sets → (i : ℕ) → Of i (slice_index_or sets i no_set)
placed_all sets placed i = let s = standing (get_or sets i no_set).ways in All-weaker (Has s) _ (placed i) s (all_has_itself s)

all_placed : (sets : List Set) → ((i : ℕ) → Of i (slice_index_or sets i no_set)) → Placed sets
all_placed sets all i g h = all-has (λ x. x.page % 16 ≡ i) (standing (get_or sets i no_set).ways) g (all i) h

-- the invariant, kept
module _ (sets : List Set) (placed : Placed sets) (ready : Ready sets) where
  pub store_keeps : (g : Grant) (s : Set) → s ≡ filled g (set_of sets g.page) → Placed (slice_set sets (g.page % 16) s) × Ready (slice_set sets (g.page % 16) s)
  store_keeps g s e =
      let t = set_of sets g.page in
      let here : Of (g.page % 16) (filled g t) = filled_holds _ g t refl (placed_all sets placed (g.page % 16)) in
      let low : (filled g t).next < 4 = next_filled_by (position (is_alike g) t.ways) (position is_empty t.ways) g t (ready (g.page % 16)) in (
        all_placed _ (each_set Of sets (g.page % 16) s (subst (Of (g.page % 16)) (sym e) here) (placed_all sets placed)),
        (each_set (λ i x. x.next < 4) sets (g.page % 16) s (subst (λ (x : Set). x.next < 4) (sym e) low) ready),
      )

  pub clear_keeps : (f : Fence) (after : List Set) → after ≡ sets_after f sets → Placed after × Ready after
  clear_keeps f after e =
      subst (λ (x : List Set). Placed x × Ready x) (sym e) (
        all_placed _ (each_map Of Of (cleared f) sets (λ j. tt) (λ j s h. All-weaker _ _ (λ g q. q.0) _ (spared_all _ f s.ways h)) (placed_all sets placed)),
        (each_map (λ j s. s.next < 4) (λ j s. s.next < 4) (cleared f) sets (λ j. omega arith) (λ j s l. l) ready),
      )
