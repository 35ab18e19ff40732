-- What a true grant says of the walk: the facts on which everything above rests.
use Rattle.std.proofs.Common.{◌≡◌, ℕ, true, ◌||◌, Some, Ok, sym, refl, ap, ◌∙◌, subst}
use Rattle.std.specs.Result.{result_map_both}
use Rattle.std.proofs.lemmas.Bool.{and_parts, and_from, or_left}
use Rattle.entry.specs.Entry.{is_user}
use Rattle.access.specs.declared.accesses.Access.{Access}
use Rattle.stages.specs.declared.outcomes.Translation.{Translation}
use Rattle.access.specs.Accesses.{page_of, word_of, is_aligned}
use Rattle.registers.specs.Registers.{is_paged, asid_of}
use Rattle.access.specs.Rights.{gives, host_allows, user_allows, mxr_gives}
use Rattle.stages.specs.Stages.{World}
use Rattle.stages.specs.Paths.{Path, passes, Granted}
use Rattle.stages.proofs.Grants.{granted}
use Rattle.translator.specs.declared.grants.Grant.{Grant}
use Rattle.translator.specs.Grants.{has_right, allows}
use Rattle.translator.specs.Truth.{True, Fullest, global_by, is_global_walk}
use Rattle.translator.specs.Rules.{walked_to}

pub fullest_true : (w : World) (g : Grant) → Fullest w g → True w g
fullest_true w g f = record { named = f.named; rights = λ k h. sym (f.rights k) ∙ h; global = λ h. sym f.global ∙ h }

pub true_paged : (w : World) (g : Grant) → True w g → is_paged w.guest ≡ true
true_paged w g t = t.named.paged

pub true_asid : (w : World) (g : Grant) → True w g → g.asid ≡ asid_of w.guest
true_asid w g t = t.named.asid

-- a true grant is global only if the walk of its page is
pub true_global : (w : World) (g : Grant) → True w g → g.global ≡ true → is_global_walk w g.page ≡ true
unfolding is_global_walk
true_global w g t h = ap global_by t.named.path.first ∙ t.global h

-- a true grant that allows an access of its page means that the walk gives that access the grant's frame
pub true_gives : (w : World) (g : Grant) (a : Access) → True w g → is_aligned a ≡ true → g.page ≡ page_of a → allows a g ≡ true
    → walked_to w a ≡ Ok g.frame
true_gives w g a t al p h =
    let n = t.named in
    let parts = and_parts (has_right a.kind g) (user_allows a g.user) h in
    let both = t.rights a.kind parts.0 in
    let give = and_parts (gives a.kind n.guest.entry.word) (passes (host_allows a.kind) n.host) both in
    let to : Translation = record { frame = g.frame; word = word_of a; guest = Some n.guest; host = n.host } in
    let ok : Granted w a to =
    record {
      aligned = al;
      path = subst (λ (q : ℕ). Path w q (Some n.guest) n.host g.frame) p n.path;
      guest = and_from (user_allows a (is_user n.guest.entry.word)) (gives a.kind n.guest.entry.word || mxr_gives a.kind a.mxr n.guest.entry.word)
          (ap (user_allows a) (sym n.user) ∙ parts.1) (or_left (gives a.kind n.guest.entry.word) (mxr_gives a.kind a.mxr n.guest.entry.word) give.0);
      host = give.1;
      word = refl;
    } in
    ap (result_map_both (λ x. x.frame) (λ e. e)) ((granted w a to).1 ok)
