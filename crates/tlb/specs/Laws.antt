-- The buffer keeps the rules of a translator over any translator that does.
use Rattle.std.specs.Prelude.{◌≡◌, ℕ, ◌%◌, false, ◌⊎◌, List, [], ◌∷◌, ◌++◌, map, get_or, Some, None, Option, MatchOption, slice_index_or, refl}
use Rattle.std.proofs.Common.{sym, ap, subst, ◌∙◌, inl, inr, ⊎_elim, arith}
use Rattle.std.specs.List.{ContainsAt as Has, AllByRecursion}
use Rattle.std.proofs.ByRecursion.{All-append, All-weaker, all_has_itself, has_append_left, has_append_right}
use Rattle.access.specs.declared.accesses.Access.{Access}
use Rattle.stages.specs.Stages.{World}
use Rattle.translator.specs.declared.grants.Grant.{Grant}
use Rattle.translator.specs.declared.replies.Reply.{Reply}
use Rattle.translator.specs.declared.fences.Fence.{Fence}
use Rattle.translator.specs.Grants.{answering}
use Rattle.translator.specs.Fences.{covers_grant}
use Rattle.translator.specs.Truth.{True}
use Rattle.translator.specs.Rules.{walked_to, or_walk, Fresh, Given, Answered, Fenced}
use Rattle.translator.proofs.Truths.{fullest_true}
use Rattle.translator.proofs.Books.{or_else, answering_append, answering_has, answering_paged}
use Rattle.tlb.specs.declared.ways.Set.{Set}
use Rattle.tlb.specs.declared.layers.Tlb.{Tlb}
use Rattle.tlb.specs.Ways.{standing, filled, spared, cleared}
use Rattle.tlb.specs.Tables.{no_set, set_of, book_of, hit, stored, sets_after, everything}
use Rattle.tlb.specs.Layer.{sets_of, Hit, Miss, Layered}
use Rattle.tlb.specs.Standing.{Holding, each_set, each_map, filled_holds, spared_all}
use Rattle.tlb.specs.Books.{has_book, all_book, book_hit}

given_weaker : (P Q : Grant → Type 0) → ((g : Grant) → P g → Q g) → (o : Option Grant) → Given o P → Given o Q
given_weaker P Q f None p = tt
given_weaker P Q f (Some g) p = f g p

-- what the ways of each set hold is in the book
in_book : (sets : List Set) (i : ℕ) → Holding (Has (book_of sets)) (slice_index_or sets i no_set)
in_book sets i = let s = standing (get_or sets i no_set).ways in All-weaker (Has s) _ (has_book sets i) s (all_has_itself s)

-- what holds of the book, and of the grant stored, holds of the book afterwards
stored_all : (P : Grant → Type 0) (sets : List Set) → ((g : Grant) → Has (book_of sets) g → P g) → (o : Option Grant) → Given o P → AllByRecursion P (book_of (stored o sets))
stored_all P sets old None p = All-weaker _ P old (book_of sets) (all_has_itself (book_of sets))
stored_all P sets old (Some g) p =
    let each : (i : ℕ) → Holding P (slice_index_or sets i no_set) = λ i. All-weaker _ P old _ (in_book sets i) in
    all_book P (stored (Some g) sets)
    (each_set (λ i. Holding P) sets (g.page % 16) (filled g (set_of sets g.page)) (filled_holds P g (set_of sets g.page) p (each (g.page % 16))) each)

none_standing : (ways : List (Option Grant)) → standing (map (spared everything) ways) ≡ []
none_standing [] = refl
none_standing (None ∷ ways) = none_standing ways
none_standing (Some g ∷ ways) = none_standing ways

-- after the fence of everything no grant is left
pub none_left : (sets : List Set) → book_of (sets_after everything sets) ≡ []
none_left [] = refl
none_left (s ∷ sets) = rw (none_standing s.ways) (none_left sets)

-- a fence of the sets and of the book below is a fence of the whole book
pub fence_keeps : (f : Fence) (sets : List Set) (b c : List Grant) → Fenced b f c → Fenced (book_of sets ++ b) f (book_of (sets_after f sets) ++ c)
fence_keeps f sets b c low =
    let P : Grant → Type 0 = λ g. Has (book_of sets ++ b) g × (covers_grant f g ≡ false) in
    let here : (i : ℕ) → Holding (Has (book_of sets ++ b)) (slice_index_or sets i no_set) = λ i. All-weaker _ _ (has_append_left (book_of sets) b) _ (in_book sets i) in
    All-append P (book_of (sets_after f sets)) c
    (all_book P (sets_after f sets) (each_map (λ i. Holding (Has (book_of sets ++ b))) (λ i. Holding P) (cleared f) sets (λ i. tt) (λ i s h. spared_all _ f s.ways h) here))
    (All-weaker _ P (λ g q. (has_append_right (book_of sets) b g q.0, q.1)) c low)

module _ {T : Type 0} (book : T → List Grant) (below : T → World → Access → Reply → T → Type 0)
    (law : (s t : T) (w : World) (a : Access) (r : Reply) → below s w a r t → Answered (book s) w a r (book t))
    (s t : Tlb T) (w : World) (a : Access) (r : Reply) where
  abbrev whole : Tlb T → List Grant
  whole x = book_of (sets_of x) ++ book x.below

  answers_by : (o : Option Grant) → hit w a (sets_of s) ≡ o → answering w a (whole s) ≡ or_else o (answering w a (book s.below))
  answers_by o e = answering_append w a (book_of (sets_of s)) (book s.below) ∙ ap (λ (q : Option Grant). or_else q (answering w a (book s.below))) (book_hit w a (sets_of s) s.table.placed ∙ e)

  by_hit : (o : Option Grant) → hit w a (sets_of s) ≡ o → MatchOption o (Miss below s w a r t) (λ g. Hit g s r t) → Answered (whole s) w a r (whole t)
  by_hit (Some g) e h =
      let f : answering w a (whole s) ≡ Some g = answers_by (Some g) e in
      let same : whole t ≡ whole s = rw (h.sets, h.below) in
      record {
        outcome = ap (λ (q : Reply). q.outcome) h.reply ∙ sym (ap (λ o. or_walk o (walked_to w a)) f);
        kept = subst (AllByRecursion (λ x. Has (whole s) x ⊎ True w x)) (sym same) (All-weaker _ _ (λ x k. inl k) (whole s) (all_has_itself (whole s)));
        handed = subst (λ (q : Reply). Given q.grant (λ x. Has (whole s) x ⊎ Fresh (whole s) w a x)) (sym h.reply) (inl (answering_has w a (whole s) g f));
        bare = λ b. let p = answering_paged w a (whole s) g f in let z : ◌≡◌ {A = ℕ} 0 1 = cc in absurd (omega arith);
      }
  by_hit None e h =
      let low = law s.below t.below w a r h.below in
      let f : answering w a (whole s) ≡ answering w a (book s.below) = answers_by None e in
      let up : (g : Grant) → Has (book s.below) g → Has (whole s) g = has_append_right (book_of (sets_of s)) (book s.below) in
      let hand : Given r.grant (λ x. Has (whole s) x ⊎ Fresh (whole s) w a x) =
      given_weaker _ _ (λ g. ⊎_elim (λ k. inl (up g k)) (λ k. inr (record { unanswered = f ∙ k.unanswered; page = k.page; fullest = k.fullest }))) r.grant low.handed in
      let true-hand = given_weaker _ (λ x. Has (whole s) x ⊎ True w x) (λ g. ⊎_elim (λ k. inl k) (λ k. inr (fullest_true w g k.fullest))) r.grant hand in
      record {
        outcome = low.outcome ∙ sym (ap (λ o. or_walk o (walked_to w a)) f);
        kept =
            All-append _ (book_of (sets_of t)) (book t.below)
            (subst (λ (x : List Set). AllByRecursion (λ g. Has (whole s) g ⊎ True w g) (book_of x)) (sym h.sets) (stored_all _ (sets_of s) (λ g k. inl (has_append_left (book_of (sets_of s)) (book s.below) g k)) r.grant true-hand))
            (All-weaker _ _ (λ g. ⊎_elim (λ k. inl (up g k)) (λ k. inr k)) (book t.below) low.kept);
        handed = hand;
        bare = low.bare;
      }

  pub layer_answers : Layered below s w a r t → Answered (whole s) w a r (whole t)
  layer_answers l = by_hit (hit w a (sets_of s)) refl l
