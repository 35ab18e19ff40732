-- A fence keeps the rules of a translator.
use Rattle.std.specs.Prelude.{◌≡◌, ℕ, ◌/◌, ◌^◌, ◌<◌, ◌≤◌, Bool, true, false, cond, ◌&&◌, ◌↔◌, List, [], Some, None, Option, ◌==◌, ◌≢◌, refl}
use Rattle.std.proofs.Common.{sym, ap, ◌∙◌, inl, inr, arith}
use Rattle.std.specs.List.{ContainsAt as Has, AllByRecursion}
use Rattle.std.proofs.ByRecursion.{all-has}
use Rattle.std.proofs.lemmas.Bool.{cases_eq, cases_lt, cases_Bool, cond-true, cond-false, lt-ltb, le-ltb, eq-eqb, ne_eqb, and_from, and_left, and_right}
use Rattle.std.proofs.lemmas.Option.{none-some}
use Rattle.stages.specs.Stages.{is_canonical}
use Rattle.translator.specs.declared.grants.Grant.{Grant}
use Rattle.translator.specs.Fences.{covers_page, covers_asid}
use Rattle.layout.specs.Tables.{frames}
use Rattle.layout.specs.Changes.{reset, removed, removed_below, dropped}
use Rattle.layout.specs.Sound.{Sound}
use Rattle.layout.specs.Finds.{found}
use Rattle.layout.proofs.Found.{found_not}
use Rattle.layout.proofs.Holds.{resets, drops, removes, removes_everywhere}
use Rattle.leaves.specs.Lookups.{grant_at}
use Rattle.shadow.specs.Book.{page_number, listed, under, book_of}
use Rattle.leaves.specs.Fences.{unmapped, emptied, fenced}
use Rattle.shadow.specs.Books.{held, book_all, book_has, booked, up_to_none}
use Rattle.shadow.specs.Answering.{grant_found}

-- whether a fence covers what is held for a page under an ASID, which is never global
abbrev covers : Option ℕ → Option ℕ → ℕ → ℕ → Bool
covers address asid b q = covers_page address q && covers_asid asid b false

-- at a page under an ASID nothing is found after the fence where it covers them, and elsewhere what was found before
abbrev Left : List ℕ → List ℕ → Option ℕ → Option ℕ → ℕ → ℕ → Type 0
Left pool p address asid b q = found p b q ≡ cond (covers address asid b q) None (found pool b q)

module _ (pool p : List ℕ) (address asid : Option ℕ) (b q : ℕ) where
  covered : covers address asid b q ≡ true → found p b q ≡ None → Left pool p address asid b q
  covered c e = e ∙ sym (cond-true (covers address asid b q) None (found pool b q) c)

  spared : covers address asid b q ≡ false → found p b q ≡ found pool b q → Left pool p address asid b q
  spared c e = e ∙ sym (cond-false (covers address asid b q) None (found pool b q) c)

  nowhere : found p b q ≡ None → found pool b q ≡ None → Left pool p address asid b q
  nowhere e h = elim (cases_Bool (covers address asid b q)) [ inl c ↦ covered c e | inr c ↦ spared c (e ∙ sym h) ]

on_asid : (k b : ℕ) → b ≡ k → covers_asid (Some k) b false ≡ true
on_asid k b e = and_from (k == b) true (eq-eqb k b (sym e)) refl

off_asid : (k b : ℕ) → (b ≢ k) → covers_asid (Some k) b false ≡ false
off_asid k b ne = and_left (k == b) true (ne_eqb k b (λ e. ne (sym e)))

module _ (pool : List ℕ) (s : Sound pool) where
  left_emptied : (asid : Option ℕ) (b q : ℕ) → b < 16 → Left pool (emptied pool asid) None asid b q
  left_emptied None b q hb = resets pool s.0 b q hb
  left_emptied (Some k) b q hb =
      elim (cases_lt k 16) [
        | inr n ↦ rw (le-ltb k 16 n) (spared pool pool None (Some k) b q (off_asid k b (λ e. omega arith)) refl)
        | inl l ↦
            let law = drops pool k s l in
            let p = dropped pool k in
            rw (lt-ltb k 16 l)
            (elim (cases_eq b k) [
              | inl e ↦ covered pool p None (Some k) b q (on_asid k b e) (rw e (law.here q))
              | inr e ↦ spared pool p None (Some k) b q (off_asid k b e) (law.elsewhere b q hb e)
            ])
      ]

  module _ (address : ℕ) where
    on_page : (asid : Option ℕ) (b q : ℕ) → q ≡ address / 2 ^ 12 → covers_asid asid b false ≡ true → covers (Some address) asid b q ≡ true
    on_page asid b q e h = and_from (address / 2 ^ 12 == q) (covers_asid asid b false) (eq-eqb (address / 2 ^ 12) q (sym e)) h

    off_page : (asid : Option ℕ) (b q : ℕ) → (q ≢ address / 2 ^ 12) → covers (Some address) asid b q ≡ false
    off_page asid b q ne = and_left (address / 2 ^ 12 == q) (covers_asid asid b false) (ne_eqb (address / 2 ^ 12) q (λ e. ne (sym e)))

    -- a page of another ASID
    off_both : (k b q : ℕ) → (b ≢ k) → covers (Some address) (Some k) b q ≡ false
    off_both k b q ne = and_right (covers_page (Some address) q) (covers_asid (Some k) b false) (off_asid k b ne)

    left_unmapped : (asid : Option ℕ) (b q : ℕ) → b < 16 → is_canonical (address / 2 ^ 12) ≡ true → Left pool (unmapped pool (address / 2 ^ 12) asid) (Some address) asid b q
    left_unmapped None b q hb c =
        let page = address / 2 ^ 12 in
        let law = removes_everywhere pool page s c in
        let p = removed_below pool page 16 in
        elim (cases_eq q page) [
          | inl e ↦ covered pool p (Some address) None b q (on_page None b q e refl) (rw e (law.here b hb))
          | inr e ↦ spared pool p (Some address) None b q (off_page None b q e) (law.elsewhere b q hb e)
        ]
    left_unmapped (Some k) b q hb c =
        let page = address / 2 ^ 12 in
        elim (cases_lt k 16) [
          | inr n ↦ rw (le-ltb k 16 n) (spared pool pool (Some address) (Some k) b q (off_both k b q (λ e. omega arith)) refl)
          | inl l ↦
              let law = removes pool k page s l c in
              let p = removed pool k page in
              rw (lt-ltb k 16 l)
              (elim (cases_eq q page) [
                | inr e ↦ spared pool p (Some address) (Some k) b q (off_page (Some k) b q e) (law.elsewhere b q hb (λ z. e z.1))
                | inl e ↦
                    elim (cases_eq b k) [
                      | inl f ↦ covered pool p (Some address) (Some k) b q (on_page (Some k) b q e (on_asid k b f)) (rw (e, f) law.here)
                      | inr f ↦ spared pool p (Some address) (Some k) b q (off_both k b q f) (law.elsewhere b q hb (λ z. f z.0))
                    ]
              ])
        ]

  left_fenced : (address asid : Option ℕ) (b q : ℕ) → b < 16 → Left pool (fenced pool address asid) address asid b q
  left_fenced None asid b q hb = left_emptied asid b q hb
  left_fenced (Some address) asid b q hb =
      let page = address / 2 ^ 12 in
      elim (cases_Bool (is_canonical page)) [
        | inl c ↦ rw c (left_unmapped address asid b q hb c)
        | inr c ↦
            rw c
            (elim (cases_eq q page) [
              | inl e ↦ nowhere pool pool (Some address) asid b q (rw e (found_not pool b page c)) (rw e (found_not pool b page c))
              | inr e ↦ spared pool pool (Some address) asid b q (off_page address asid b q e) refl
            ])
      ]

  module _ (address asid : Option ℕ) where
    abbrev Stays : Grant → Type 0
    Stays x = Has (book_of pool) x × ((covers_page address x.page && covers_asid asid x.asid x.global) ≡ false)

    -- a page under an ASID that the fence does not cover holds what it held
    same_grant : (b q : ℕ) → b < 16 → covers address asid b q ≡ false
        → grant_at (fenced pool address asid) b q ≡ grant_at pool b q
    same_grant b q hb c =
        let p = fenced pool address asid in
        let e = left_fenced address asid b q hb ∙ cond-false (covers address asid b q) None (found pool b q) c in
        grant_found p b q (found pool b q) hb e ∙ sym (grant_found pool b q (found pool b q) hb refl)

    pub fenced_pool : AllByRecursion Stays (book_of (fenced pool address asid))
    fenced_pool =
        let p = fenced pool address asid in
        book_all p Stays
        (λ b q x e.
        let h = held p b q x e in
        elim (cases_Bool (covers address asid b q)) [
          | inl c ↦
              let none = left_fenced address asid b q h.few ∙ cond-true (covers address asid b q) None (found pool b q) c in
              absurd (none-some x (sym (grant_found p b q None h.few none) ∙ e))
          | inr c ↦ (book_has pool b q x (sym (same_grant b q h.few c) ∙ e), rw (h.page, h.asid, h.global) c)
        ])

    -- the book after the fence holds exactly the grants of the book before that it does not cover
    pub fenced_exactly : (x : Grant) → Has (book_of (fenced pool address asid)) x ↔ Stays x
    fenced_exactly x = (
      all-has Stays (book_of (fenced pool address asid)) x fenced_pool,
      λ y.
          let e = (booked pool x).0 y.0 in
          let h = held pool x.asid x.page x e in
          let c : covers address asid x.asid x.page ≡ false = rw h.global at y.1 in
          book_has (fenced pool address asid) x.asid x.page x (same_grant x.asid x.page h.few c ∙ e),
    )

pub reset_empty : (pool : List ℕ) → 4 ≤ frames pool → book_of (reset pool) ≡ []
unfolding book_of under
reset_empty pool l =
    up_to_none (under (reset pool)) 16
    (λ a h. up_to_none (λ n. listed (grant_at (reset pool) a (page_number n))) (2 ^ 27)
    (λ n k. ap listed (grant_found (reset pool) a (page_number n) None h (resets pool l a (page_number n) h))))
