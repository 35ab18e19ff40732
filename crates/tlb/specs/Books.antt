-- The book of the sets: what holds of it, and that the look-up in one set is the look-up in the whole book.
use Rattle.std.specs.Prelude.{◌≡◌, ℕ, length, nat_lt, zero, suc, ◌%◌, Bool, true, false, cond, ◌||◌, List, [], ◌∷◌, get_or, Some, None, Option, ◌==◌, ◌≢◌, slice_index_or}
use Rattle.std.proofs.Math.Path.{refl, sym}
use Rattle.std.proofs.Common.{ap, ◌∙◌, arith}
use Rattle.std.specs.List.{find, position, position_or_len, slice_get, ContainsAt as Has, AllByRecursion}
use Rattle.std.specs.Option.{option_flatten}
use Rattle.std.proofs.ByRecursion.{All-append, All-weaker, has_append_left, has_append_right}
use Rattle.std.proofs.lemmas.Bool.{and_left, ne_eqb}
use Rattle.std.proofs.lemmas.List.Folds.{find_at}
use Rattle.std.proofs.lemmas.List.{get_or_past}
use Rattle.access.specs.declared.accesses.Access.{Access}
use Rattle.access.specs.Accesses.{page_of}
use Rattle.registers.specs.Registers.{asid_of}
use Rattle.stages.specs.Stages.{World}
use Rattle.translator.specs.declared.grants.Grant.{Grant}
use Rattle.translator.specs.Grants.{matches, allows, serves, first_of, consults, answering}
use Rattle.translator.proofs.Books.{or_else, first_append, first_none}
use Rattle.tlb.specs.declared.ways.Set.{Set}
use Rattle.tlb.specs.Ways.{is_serving, way_at, first_serving, standing}
use Rattle.tlb.specs.Tables.{no_set, set_of, book_of, Placed, hit}
use Rattle.tlb.specs.Standing.{Holding, placed_all}

pub has_book : (sets : List Set) (i : ℕ) (g : Grant) → Has (standing (get_or sets i no_set).ways) g → Has (book_of sets) g
has_book [] i g h = h
has_book (s ∷ sets) zero g h = has_append_left (standing s.ways) (book_of sets) g h
has_book (s ∷ sets) (suc i) g h = has_append_right (standing s.ways) (book_of sets) g (has_book sets i g h)

pub all_book : (P : Grant → Type 0) (sets : List Set) → ((i : ℕ) → Holding P (slice_index_or sets i no_set)) → AllByRecursion P (book_of sets)
all_book P [] all = tt
all_book P (s ∷ sets) all = All-append P (standing s.ways) (book_of sets) (all 0) (all_book P sets (λ i. all (suc i)))

or_none : (o : Option Grant) → or_else o None ≡ o
or_none None = refl
or_none (Some g) = refl

-- where the grants of one set alone may pass, the first of the book is the first of that set
only_set : (p : Grant → Bool) (sets : List Set) (j : ℕ) → ((i : ℕ) → (i ≢ j) → Holding (λ g. p g ≡ false) (slice_index_or sets i no_set))
    → first_of p (book_of sets) ≡ first_of p (standing (get_or sets j no_set).ways)
only_set p [] j apart = refl
only_set p (s ∷ sets) zero apart =
    let none = first_none p (book_of sets) (all_book _ sets (λ i. apart (suc i) (λ e. omega arith))) in
    first_append p (standing s.ways) (book_of sets) ∙ ap (or_else (first_of p (standing s.ways))) none ∙ or_none _
only_set p (s ∷ sets) (suc j) apart =
    let none = first_none p (standing s.ways) (apart 0 (λ e. omega arith)) in
    first_append p (standing s.ways) (book_of sets) ∙ ap (λ o. or_else o (first_of p (book_of sets))) none ∙ only_set p sets j (λ i n. apart (suc i) (λ e. n (omega arith)))

way_got : (ways : List (Option Grant)) (i : ℕ) → option_flatten (slice_get ways i) ≡ slice_index_or ways i None
way_got [] i = refl
way_got (way ∷ ways) zero = refl
way_got (way ∷ ways) (suc i) = way_got ways i

way_within : (b : Bool) (ways : List (Option Grant)) (i : ℕ) → nat_lt i (length ways) ≡ b → way_at ways (cond b (Some i) None) ≡ slice_index_or ways i None
way_within true ways i e = refl
way_within false ways i e = sym (get_or_past ways i None (grind arith))

-- the way at the first place that passes is the first way that does
way_found : (test : Option Grant → Bool) (ways : List (Option Grant)) → way_at ways (position test ways) ≡ option_flatten (find test ways)
way_found test ways =
    let i = position_or_len test ways in
    way_within (nat_lt i (length ways)) ways i refl ∙ sym (way_got ways i) ∙ ap option_flatten (sym (find_at test ways))

module _ (asid : ℕ) (a : Access) where
  found_way : (ways : List (Option Grant)) → first_of (serves asid a) (standing ways) ≡ option_flatten (find (is_serving asid a) ways)
  unfolding first_of
  found_way [] = refl
  found_way (None ∷ ways) = found_way ways
  found_way (Some g ∷ ways) = by_test (serves asid a g) (found_way ways)
    where
      by_test : (b : Bool) → first_of (serves asid a) (standing ways) ≡ option_flatten (find (is_serving asid a) ways)
          → cond b (Some g) (first_of (serves asid a) (standing ways)) ≡ option_flatten (cond b (Some (Some g)) (find (is_serving asid a) ways))
      by_test true e = refl
      by_test false e = e

  -- the first grant that serves is that of the first way that does
  first_way : (ways : List (Option Grant)) → first_of (serves asid a) (standing ways) ≡ first_serving asid a ways
  first_way ways = found_way ways ∙ sym (way_found (is_serving asid a) ways)

module _ (w : World) (a : Access) where
  elsewhere : (g : Grant) → (g.page % 16 ≢ page_of a % 16) → serves (asid_of w.guest) a g ≡ false
  elsewhere g n =
      and_left (matches (asid_of w.guest) a g) (allows a g)
      (and_left (g.page == page_of a) (g.global || g.asid == asid_of w.guest) (ne_eqb g.page (page_of a) (λ e. n (ap (λ (p : ℕ). p % 16) e))))

  -- the grant that the book answers is that of the page's set
  pub book_hit : (sets : List Set) → Placed sets → answering w a (book_of sets) ≡ hit w a sets
  book_hit sets placed =
      ap (λ (o : Option Grant). cond (consults w a) o None)
      (only_set (serves (asid_of w.guest) a) sets (page_of a % 16)
      (λ i n. All-weaker _ _ (λ g (e : g.page % 16 ≡ i). elsewhere g (λ q. n (sym e ∙ q))) _ (placed_all sets placed i))
      ∙ first_way (asid_of w.guest) a (set_of sets (page_of a)).ways)
