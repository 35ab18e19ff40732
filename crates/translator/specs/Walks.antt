-- The walk's own reply keeps the rules wherever no grant answers.
use Rattle.std.specs.Prelude.{◌≡◌, ℕ, true, false, ◌⊎◌, List, Some, None, Ok, Err, Option, Result, refl}
use Rattle.std.proofs.Common.{sym, ap, subst, ◌∙◌, inl, inr, arith}
use Rattle.std.specs.Result.{result_map_both}
use Rattle.std.specs.List.{ContainsAt as Has}
use Rattle.std.proofs.lemmas.Bool.{cases_Bool, cond-false}
use Rattle.table.specs.declared.walks.Leaf.{Leaf}
use Rattle.access.specs.declared.accesses.Access.{Access}
use Rattle.access.specs.declared.accesses.Kind.{Kind}
use Rattle.access.specs.declared.accesses.Kind.TheVariants.{Load, Store, Fetch}
use Rattle.fault.specs.declared.faults.Fault.{Fault}
use Rattle.stages.specs.declared.landings.Landing.{Landing}
use Rattle.stages.specs.declared.outcomes.Translation.{Translation}
use Rattle.access.specs.Accesses.{page_of}
use Rattle.registers.specs.Registers.{is_paged, asid_of}
use Rattle.stages.specs.Host.{bare}
use Rattle.stages.specs.Stages.{World, guest_path, translate_of}
use Rattle.stages.specs.Paths.{Path}
use Rattle.stages.proofs.Grants.{granted}
use Rattle.translator.specs.declared.grants.Grant.{Grant}
use Rattle.translator.specs.Grants.{has_right, answering}
use Rattle.translator.specs.Truth.{both_give, Fullest}
use Rattle.translator.specs.Walked.{full_grant, grant_by, grant_of, reply_of, walked_reply}
use Rattle.translator.specs.Rules.{walked_to, or_walk, outcome_of, Fresh, Given}

-- under a Bare guest root a page comes to itself, by no leaf
bare_leaf : (w : World) (p : ℕ) (at : Landing) → is_paged w.guest ≡ false → guest_path w p ≡ Ok at → at.leaf ≡ None
bare_leaf w p at b e =
    let q : Ok (bare p) ≡ Ok at = sym (cond-false (is_paged w.guest) _ _ b) ∙ e in
    let same : bare p ≡ at = cc in
    sym (ap (λ l. l.leaf) same)

module _ (w : World) (a : Access) (t : Translation) (e : translate_of w a ≡ Ok t) where
  none_under_bare : is_paged w.guest ≡ false → t.guest ≡ None
  none_under_bare b = let p = ((granted w a t).0 e).path in bare_leaf w (page_of a) (record { frame = p.middle; leaf = t.guest }) b p.first

  leaf_paged : (leaf : Leaf) → t.guest ≡ Some leaf → is_paged w.guest ≡ true
  leaf_paged leaf h =
      elim (cases_Bool (is_paged w.guest)) [
        | inl b ↦ b
        | inr b ↦ let n = none_under_bare b in let z : ◌≡◌ {A = ℕ} 0 1 = cc in absurd (omega arith)
      ]

  has_rights : (leaf : Leaf) (k : Kind) → has_right k (full_grant (asid_of w.guest) a t leaf) ≡ both_give k leaf t.host
  has_rights leaf Load = refl
  has_rights leaf Store = refl
  has_rights leaf Fetch = refl

  made_by : (o : Option Leaf) → t.guest ≡ o → Given (grant_by (asid_of w.guest) a t o) (λ g. (g.page ≡ page_of a) × Fullest w g)
  made_by None h = tt
  made_by (Some leaf) h = (
    refl,
    record {
      named =
          record {
            guest = leaf;
            host = t.host;
            paged = leaf_paged leaf h;
            asid = refl;
            path = subst (λ (o : Option Leaf). Path w (page_of a) o t.host t.frame) h ((granted w a t).0 e).path;
            user = refl;
          };
      rights = has_rights leaf;
      global = refl;
    },
  )

  -- after a walk that grants, the grant made of it is the fullest true one of the page
  pub made_fullest : Given (grant_of (asid_of w.guest) a t) (λ g. (g.page ≡ page_of a) × Fullest w g)
  made_fullest = made_by t.guest refl

given_weaker : (o : Option Grant) (P Q : Grant → Type 0) → ((g : Grant) → P g → Q g) → Given o P → Given o Q
given_weaker None P Q f h = tt
given_weaker (Some g) P Q f h = f g h

reply_outcome : (asid : ℕ) (a : Access) (q : Result Translation Fault) → (reply_of asid a q).outcome ≡ result_map_both (λ t. t.frame) (λ fault. fault) q
reply_outcome asid a (Ok t) = refl
reply_outcome asid a (Err f) = refl

-- the walk's own reply goes where the walk goes
pub walked_to_lem : (w : World) (a : Access) → (walked_reply w a).outcome ≡ walked_to w a
walked_to_lem w a = reply_outcome (asid_of w.guest) a (translate_of w a)

module _ (book : List Grant) (w : World) (a : Access) where
  pub walked_bare : is_paged w.guest ≡ false → (walked_reply w a).grant ≡ None
  walked_bare b = bare_on (translate_of w a) refl
    where
      bare_on : (q : Result Translation Fault) → translate_of w a ≡ q → (reply_of (asid_of w.guest) a q).grant ≡ None
      bare_on (Ok t) e = ap (grant_by (asid_of w.guest) a t) (none_under_bare w a t e b)
      bare_on (Err f) e = refl

  module _ (none : answering w a book ≡ None) where
    pub walked_outcome : (walked_reply w a).outcome ≡ outcome_of book w a
    walked_outcome = walked_to_lem w a ∙ ap (λ o. or_walk o (walked_to w a)) (sym none)

    handed_on : (q : Result Translation Fault) → translate_of w a ≡ q
        → Given (reply_of (asid_of w.guest) a q).grant (λ g. Has book g ⊎ Fresh book w a g)
    handed_on (Ok t) e =
        given_weaker (grant_of (asid_of w.guest) a t) _ _ (λ g h. inr (record { unanswered = none; page = h.0; fullest = h.1 })) (made_fullest w a t e)
    handed_on (Err f) e = tt

    pub walked_handed : Given (walked_reply w a).grant (λ g. Has book g ⊎ Fresh book w a g)
    walked_handed = handed_on (translate_of w a) refl
