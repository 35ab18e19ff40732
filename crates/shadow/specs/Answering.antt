-- An access keeps the rules of a translator.
use Rattle.std.specs.Prelude.{◌≡◌, ℕ, ◌^◌, ◌<◌, true, ◌&&◌, ◌⊎◌, List, Some, None, Option, nat_lt, refl}
use Rattle.std.proofs.Common.{sym, ap, subst, ◌∙◌, inl, inr, arith}
use Rattle.std.specs.List.{ContainsAt as Has, AllByRecursion}
use Rattle.std.proofs.ByRecursion.{All-weaker, all_has_itself}
use Rattle.std.proofs.lemmas.Bool.{cases_eq, cases_Bool, cond-true, cond-false, lt-ltb, ltb-true, and_parts, both_ways, false≢true}
use Rattle.std.proofs.lemmas.Option.{none-some}
use Rattle.entry.specs.declared.entries.Entry.{Entry}
use Rattle.access.specs.declared.accesses.Access.{Access}
use Rattle.access.specs.declared.accesses.Kind.{Kind}
use Rattle.access.specs.declared.accesses.Kind.TheVariants.{Load, Store, Fetch}
use Rattle.registers.specs.Registers.{is_paged}
use Rattle.stages.specs.Stages.{World}
use Rattle.stages.specs.Paths.{Path}
use Rattle.translator.specs.declared.grants.Grant.{Grant}
use Rattle.translator.specs.Grants.{has_right, answering}
use Rattle.translator.specs.Truth.{True, Fullest}
use Rattle.translator.specs.Rules.{walked_to, or_walk, Answered}
use Rattle.translator.specs.Walked.{walked_reply}
use Rattle.translator.proofs.Books.{answering_has, answering_paged}
use Rattle.translator.specs.Walks.{walked_outcome, walked_handed, walked_bare}
use Rattle.layout.specs.Changes.{has_room, inserted}
use Rattle.layout.specs.Sound.{Sound}
use Rattle.layout.specs.Finds.{found}
use Rattle.layout.proofs.Holds.{inserts}
use Rattle.leaves.specs.Leaves.{has_some_right, leaf_word, grant_of, as_grant}
use Rattle.leaves.specs.Lookups.{grant_at, hit}
use Rattle.shadow.specs.Steps.{is_kept, learnt, reply_by, after_by}
use Rattle.shadow.specs.Book.{book_of}
use Rattle.leaves.proofs.Words.{word_read, word_write, word_fetch, word_user, word_frame, word_leaf}
use Rattle.shadow.specs.Books.{held, book_all, book_has, answering_hit}
use Rattle.shadow.specs.Fullest.{fullest_canonical, fullest_reads, walked_fullest}

-- the grant that the leaf of a fullest grant gives back is true
module _ (w : World) (g : Grant) (f : Fullest w g) (small : g.frame < 2 ^ 16) where
  kept_right : (k : Kind) → has_right k (grant_of g.asid g.page (record { word = leaf_word g })) ≡ has_right k g
  kept_right Load = word_read g
  kept_right Store = word_write g
  kept_right Fetch = word_fetch g

  new_true : True w (grant_of g.asid g.page (record { word = leaf_word g }))
  new_true =
      let n = f.named in
      record {
        named =
            record {
              guest = n.guest;
              host = n.host;
              paged = n.paged;
              asid = n.asid;
              path = subst (λ (x : ℕ). Path w g.page (Some n.guest) n.host x) (sym (word_frame g small)) n.path;
              user = word_user g ∙ n.user;
            };
        rights = λ k h. sym (f.rights k) ∙ (sym (kept_right k) ∙ h);
        global = λ h. absurd (false≢true h);
      }

-- the parts of a grant that is kept
pub record Kept (g : Grant) : Type 0 where
  pub rights : has_some_right g ≡ true
  pub asid : g.asid < 16
  pub frame : g.frame < 2 ^ 16

pub kept : (g : Grant) → is_kept g ≡ true → Kept g
kept g h =
    let x = and_parts (has_some_right g) (nat_lt g.asid 16 && nat_lt g.frame (2 ^ 16)) h in
    let y = and_parts (nat_lt g.asid 16) (nat_lt g.frame (2 ^ 16)) x.1 in
    record { rights = x.0; asid = ltb-true g.asid 16 y.0; frame = ltb-true g.frame (2 ^ 16) y.1 }

-- a grant that is kept is written
pub learnt_made : (pool p : List ℕ) (g : Grant) (a q v : ℕ) → p ≡ inserted pool a q v → a ≡ g.asid → q ≡ g.page → v ≡ leaf_word g → has_some_right g ≡ true
    → a < 16 → g.frame < 2 ^ 16 → p ≡ learnt pool (Some g)
learnt_made pool p g a q v e ea eq ev h l f =
    let k : is_kept g ≡ true = rw (h, lt-ltb g.asid 16 (omega arith), lt-ltb g.frame (2 ^ 16) f) refl in
    e ∙ (rw (ea, eq, ev) refl ∙ sym (cond-true (is_kept g) (inserted pool g.asid g.page (leaf_word g)) pool k))

-- what the pool holds under an ASID that has tables
pub grant_found : (pool : List ℕ) (a page : ℕ) (o : Option Entry) → a < 16 → found pool a page ≡ o → grant_at pool a page ≡ as_grant a page o
grant_found pool a page o h e = cond-true (nat_lt a 16) (as_grant a page (found pool a page)) None (lt-ltb a 16 h) ∙ ap (as_grant a page) e

both_eq : (a b c d : ℕ) → ((a ≡ b) × (c ≡ d)) ⊎ ((a ≡ b) × (c ≡ d) → ⊥)
both_eq a b c d =
    elim (cases_eq a b) [ inr ne ↦ inr (λ z. ne z.0) | inl e ↦ elim (cases_eq c d) [ inr ne ↦ inr (λ z. ne z.1) | inl f ↦ inl (e, f) ] ]

module _ (pool : List ℕ) (s : Sound pool) (w : World) where
  abbrev Fine : Grant → Type 0
  Fine x = Has (book_of pool) x ⊎ True w x

  same_fine : AllByRecursion Fine (book_of pool)
  same_fine = All-weaker (Has (book_of pool)) Fine (λ x h. inl h) (book_of pool) (all_has_itself (book_of pool))

  module _ (g : Grant) (f : Fullest w g) (k : Kept g) where
    -- what the pool holds once a grant is put in: the grant as its leaf gives it back, and what it held elsewhere, where it had room
    pub inserted_holds : (b q : ℕ) (x : Grant) → grant_at (inserted pool g.asid g.page (leaf_word g)) b q ≡ Some x
        → (x ≡ grant_of g.asid g.page (record { word = leaf_word g }))
        ⊎ ((grant_at pool b q ≡ Some x) × ((b ≡ g.asid) × (q ≡ g.page) → ⊥) × (has_room pool g.asid g.page ≡ true))
    inserted_holds b q x e =
        let p = inserted pool g.asid g.page (leaf_word g) in
        let law = inserts pool g.asid g.page (leaf_word g) s k.asid (fullest_canonical w g f) (word_leaf g k.frame k.rights (fullest_reads w g f)) in
        let few = (held p b q x e).few in
        elim (both_eq b g.asid q g.page) [
          | inl y ↦
              let there : found p b q ≡ Some (record { word = leaf_word g }) = rw (y.0, y.1) law.here in
              let new = sym (grant_found p b q (Some (record { word = leaf_word g })) few there) ∙ e in
              let is : x ≡ grant_of b q (record { word = leaf_word g }) = cc in
              inl (is ∙ rw (y.0, y.1) refl)
          | inr ne ↦
              let l = law.elsewhere b q few ne in
              elim (cases_Bool (has_room pool g.asid g.page)) [
                | inl r ↦
                    let same = l ∙ cond-true (has_room pool g.asid g.page) (found pool b q) None r in
                    inr (grant_found pool b q (found p b q) few (sym same) ∙ (sym (grant_found p b q (found p b q) few refl) ∙ e), ne, r)
                | inr r ↦
                    let none = l ∙ cond-false (has_room pool g.asid g.page) (found pool b q) None r in
                    absurd (none-some x (sym (grant_found p b q None few none) ∙ e))
              ]
        ]

    inserted_fine : AllByRecursion Fine (book_of (inserted pool g.asid g.page (leaf_word g)))
    inserted_fine =
        book_all (inserted pool g.asid g.page (leaf_word g)) Fine
        (λ b q x e. elim (inserted_holds b q x e) [
          | inl is ↦ inr (subst (True w) (sym is) (new_true w g f k.frame))
          | inr h ↦ inl (book_has pool b q x h.0)
        ])

  learnt_fine : (o : Option Grant) → ((g : Grant) → o ≡ Some g → Fullest w g) → AllByRecursion Fine (book_of (learnt pool o))
  learnt_fine None f = same_fine
  learnt_fine (Some g) f =
      elim (cases_Bool (is_kept g)) [
        | inl h ↦ rw h (inserted_fine g (f g refl) (kept g h))
        | inr h ↦ rw h same_fine
      ]

  pub answered_pool : (a : Access) (o : Option Grant) → hit pool w.guest a ≡ o
      → Answered (book_of pool) w a (reply_by o (walked_reply w a)) (book_of (after_by pool o (walked_reply w a)))
  answered_pool a None e =
      let none : answering w a (book_of pool) ≡ None = answering_hit pool w a ∙ e in
      record {
        outcome = walked_outcome (book_of pool) w a none;
        kept = learnt_fine (walked_reply w a).grant (λ g h. walked_fullest w a g h);
        handed = walked_handed (book_of pool) w a none;
        bare = walked_bare (book_of pool) w a;
      }
  answered_pool a (Some g) e =
      let some : answering w a (book_of pool) ≡ Some g = answering_hit pool w a ∙ e in
      record {
        outcome = ap (λ (o : Option Grant). or_walk o (walked_to w a)) (sym some);
        kept = same_fine;
        handed = inl (answering_has w a (book_of pool) g some);
        bare = λ b. absurd (both_ways (is_paged w.guest) b (answering_paged w a (book_of pool) g some));
      }
