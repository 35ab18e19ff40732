-- The lists of calls, worked by computing the walks.
use Rattle.std.proofs.Common.{◌≡◌, ℕ, zero, suc, ◌<◌, ◌≤◌, ◌⊎◌, List, [], ◌∷◌, Some, refl, subst, inl, inr, arith}
use Rattle.std.specs.List.{slice_get}
use Rattle.std.proofs.lemmas.Bool.{cases_lt}
use Rattle.table.specs.Walk.{walk_from}
use Rattle.access.specs.declared.accesses.Kind.TheVariants.{Load}
use Rattle.access.specs.declared.accesses.Access.{Access}
use Rattle.stages.specs.Stages.{translate_of}
use Rattle.calls.specs.declared.GuestCall.TheVariants as guest_call
use Rattle.calls.specs.declared.Call.{Call}
use Rattle.calls.specs.declared.Call.TheVariants.{Guest}
use Rattle.calls.specs.declared.Answer.{Answer}
use Rattle.calls.specs.declared.Answer.TheVariants.{Done, Word}
use Rattle.calls.specs.Targets.{access_of}
use Rattle.history.specs.Moments.{Moment, start}
use Rattle.history.specs.Plain.{plain_answers, plain_end}
use Rattle.history.specs.Asks.{reach, asks}
use Rattle.history.specs.Settled.{Bears, Gives, Covers, Plainly, plain_at, AllSettled, Remembered}
use Rattle.history.specs.Vocabulary.{fence_all}
use Rattle.history_examples.specs.Editing.{words, enter, root, target, load, store, unfenced, fenced, stale, FencedAnswers, FencedSettled, UnfencedUnsettled, UnfencedStale}

pub fenced_answers : FencedAnswers
unfolding words walk_from translate_of plain_answers
fenced_answers = refl

-- the moments of the plain machine, without the fence and with it
abbrev stepped : ℕ → Moment
stepped = plain_at (start words) unfenced

abbrev fencing : ℕ → Moment
fencing = plain_at (start words) fenced

-- the load at 8
abbrev read : Access
read = access_of Load (target 8)

-- a store over the leaf between two loads at 8, and any calls after them
module _ (rest : List Call) where
  abbrev edits : List Call
  edits = enter ∷ root ∷ load 8 ∷ store 0x1000 0 ∷ load 8 ∷ rest

  abbrev along : ℕ → Moment
  along = plain_at (start words) edits

  -- no call between moments 2 and 4 is a fence
  edits_uncovered : (j : ℕ) (c : Call) → 2 ≤ j → j < 4 → slice_get edits j ≡ Some c → Covers (along j) c 0 (along 2) → ⊥
  unfolding words walk_from translate_of plain_end
  edits_uncovered zero c l b e h = omega arith
  edits_uncovered (suc zero) c l b e h = omega arith
  edits_uncovered (suc (suc zero)) c l b e h = let same : c ≡ load 8 = cc in subst (λ y. Covers (along 2) y 0 (along 2)) same h
  edits_uncovered (suc (suc (suc zero))) c l b e h = let same : c ≡ store 0x1000 0 = cc in subst (λ y. Covers (along 3) y 0 (along 2)) same h
  edits_uncovered (suc (suc (suc (suc j)))) c l b e h = omega arith

  read_bears : Bears (along 2) (along 4) read
  unfolding words walk_from translate_of plain_end
  read_bears = record { before = refl; now = refl; shared = inl refl }

  read_gives : Gives (along 2) read 0
  unfolding words walk_from translate_of plain_end
  read_gives = refl

  -- so the second load is not settled
  pub edits_unsettled : AllSettled along edits → ⊥
  unfolding words walk_from translate_of plain_end
  edits_unsettled all =
      elim (all 4 (load 8) read 0 2 0 refl refl (omega arith) read_bears read_gives) [
        | inl v ↦ edits_uncovered v.0 v.1 v.2 v.3 v.4 v.5
        | inr e ↦ cc
      ]

pub unfenced_unsettled : UnfencedUnsettled
unfenced_unsettled = edits_unsettled []

-- the last load is done at the frame that moment 2 gives
read_remembered : Remembered stepped unfenced 4 (load 8) (Word 0)
unfolding words walk_from translate_of plain_end
read_remembered =
    record {
      access = read;
      new = 0;
      origin = 2;
      frame = 0;
      reaches = refl;
      earlier = omega arith;
      bears = read_bears [];
      gives = read_gives [];
      uncovered = λ v. edits_uncovered [] v.0 v.1 v.2 v.3 v.4 v.5;
      answer = refl;
      after = refl;
    }

-- call k, taken for c and x, is plain or remembered
abbrev Served : ℕ → Call → Answer → Type 0
Served k c x =
    Plainly (stepped k) c x (stepped (suc k)) ⊎ Remembered stepped unfenced k c x

served_as : (k : ℕ) (c d : Call) (x y : Answer) → Some c ≡ Some d → Some x ≡ Some y → Served k c x → Served k d y
served_as k c d x y e f p = let a : c ≡ d = cc in let b : x ≡ y = cc in subst (Served k d) b (subst (λ z. Served k z x) a p)

unfenced_served : (k : ℕ) (c : Call) (x : Answer) → slice_get unfenced k ≡ Some c → slice_get stale k ≡ Some x → Served k c x
unfolding words walk_from translate_of plain_end
unfenced_served zero c x e f = served_as 0 enter c Done x e f (inl (refl, refl))
unfenced_served (suc zero) c x e f = served_as 1 root c Done x e f (inl (refl, refl))
unfenced_served (suc (suc zero)) c x e f = served_as 2 (load 8) c (Word 0) x e f (inl (refl, refl))
unfenced_served (suc (suc (suc zero))) c x e f = served_as 3 (store 0x1000 0) c Done x e f (inl (refl, refl))
unfenced_served (suc (suc (suc (suc zero)))) c x e f = served_as 4 (load 8) c (Word 0) x e f (inr read_remembered)
unfenced_served (suc (suc (suc (suc (suc k))))) c x e f = absurd cc

pub unfenced_stale : UnfencedStale
unfolding words walk_from translate_of plain_end plain_answers
unfenced_stale = (record { at = stepped; first = refl; last = refl; many = refl; served = unfenced_served }, λ e. cc)

-- before moment 2 the guest root is Bare
early : (i : ℕ) (m : Moment) (a : Access) → i < 2 → Bears (fencing i) m a → ⊥
unfolding plain_end
early zero m a l b = let e = b.before in cc
early (suc zero) m a l b = let e = b.before in cc
early (suc (suc i)) m a l b = omega arith

pub fenced_settled : FencedSettled
unfolding words walk_from translate_of plain_end
fenced_settled zero c a new i frame e f l bears gives = absurd (omega arith)
fenced_settled (suc zero) c a new i frame e f l bears gives = absurd (early i _ a (omega arith) bears)
fenced_settled (suc (suc zero)) c a new i frame e f l bears gives = absurd (early i _ a (omega arith) bears)
fenced_settled (suc (suc (suc zero))) c a new i frame e f l bears gives =
    elim (cases_lt i 2) [
      | inl b ↦ absurd (early i _ a b bears)
      | inr b ↦ let at : i ≡ 2 = omega arith in inr (subst (λ j. Gives (fencing j) a frame) at gives)
    ]
fenced_settled (suc (suc (suc (suc zero)))) c a new i frame e f l bears gives =
    let same : c ≡ Guest (guest_call.Fence fence_all) = cc in
    let asked : asks (fencing 4) (Guest (guest_call.Fence fence_all)) ≡ reach a new = subst (λ y. asks (fencing 4) y ≡ reach a new) same f in
    absurd cc
fenced_settled (suc (suc (suc (suc (suc zero))))) c a new i frame e f l bears gives =
    elim (cases_lt i 2) [
      | inl b ↦ absurd (early i _ a b bears)
      | inr b ↦ inl (4, Guest (guest_call.Fence fence_all), omega arith, omega arith, refl, refl)
    ]
fenced_settled (suc (suc (suc (suc (suc (suc k)))))) c a new i frame e f l bears gives = absurd cc
