-- True grants, and the fullest of a page.
use Rattle.std.proofs.Common.{◌≡◌, ℕ, Bool, true, false, cond, Some, None, Ok, Err, Option, Result, sym, refl, ap, ◌∙◌, subst}
use Rattle.std.specs.Result.{result_map_both}
use Rattle.std.proofs.lemmas.Bool.{both_ways, cond-true}
use Rattle.table.specs.declared.walks.Leaf.{Leaf}
use Rattle.entry.specs.Entry.{is_user}
use Rattle.access.specs.declared.accesses.Kind.{Kind}
use Rattle.access.specs.declared.accesses.Kind.TheVariants.{Load, Store, Fetch}
use Rattle.access.specs.declared.accesses.Access.{Access}
use Rattle.fault.specs.declared.faults.Fault.{Fault}
use Rattle.fault.specs.declared.faults.GuestFault.{GuestFault}
use Rattle.fault.specs.declared.faults.GuestFault.TheVariants.{NotCanonical, Walk}
use Rattle.stages.specs.declared.landings.Landing.{Landing}
use Rattle.stages.specs.declared.outcomes.Translation.{Translation}
use Rattle.access.specs.Accesses.{page_of}
use Rattle.registers.specs.Registers.{is_paged, asid_of}
use Rattle.stages.specs.Host.{by_leaf}
use Rattle.stages.specs.Stages.{World, is_canonical, guest_path, translate_of}
use Rattle.stages.specs.Paths.{Path}
use Rattle.stages.proofs.Grants.{granted}
use Rattle.translator.specs.declared.grants.Grant.{Grant}
use Rattle.translator.specs.Grants.{has_right}
use Rattle.translator.specs.Truth.{both_give, Named, True, Fullest}
use Rattle.translator.specs.Walked.{full_grant, grant_by}
use Rattle.translator.specs.Rules.{Given}
use Rattle.translator.proofs.Truths.{fullest_true, true_paged, true_gives}
use Rattle.translator.specs.Walks.{made_fullest}
use Rattle.history.specs.Vocabulary.{Within, GrantsTrue}

-- the path of a page is one
module _ (w : World) (p frame frame' : ℕ) (guest guest' : Leaf) (host host' : Option Leaf) (q : Path w p (Some guest) host frame) (r : Path w p (Some guest') host' frame') where
  first_same : ◌≡◌ {A = Landing} (record { frame = q.middle; leaf = Some guest }) (record { frame = r.middle; leaf = Some guest' })
  first_same = let a = q.first in let b = r.first in cc

  leaf_same : guest ≡ guest'
  leaf_same = let e : Some guest ≡ Some guest' = ap (λ l. l.leaf) first_same in cc

  second_same : ◌≡◌ {A = Landing} (record { frame = frame; leaf = host }) (record { frame = frame'; leaf = host' })
  second_same =
      let a = q.second in
      let b = r.second in
      let m : q.middle ≡ r.middle = ap (λ l. l.frame) first_same in
      cc

-- two grants of a page that are named by the walk have the same leaves
module _ (w : World) (g h : Grant) (page : g.page ≡ h.page) (n : Named w g) (o : Named w h) where
  on_page : Path w h.page (Some n.guest) n.host g.frame
  on_page = subst (λ (p : ℕ). Path w p (Some n.guest) n.host g.frame) page n.path

  named_guest : n.guest ≡ o.guest
  named_guest = leaf_same w h.page g.frame h.frame n.guest o.guest n.host o.host on_page o.path

  named_host : n.host ≡ o.host
  named_host = ap (λ l. l.leaf) (second_same w h.page g.frame h.frame n.guest o.guest n.host o.host on_page o.path)

  named_frame : g.frame ≡ h.frame
  named_frame = ap (λ l. l.frame) (second_same w h.page g.frame h.frame n.guest o.guest n.host o.host on_page o.path)

  named_asid : g.asid ≡ h.asid
  named_asid = n.asid ∙ sym o.asid

  named_user : g.user ≡ h.user
  named_user = n.user ∙ ap (λ l. is_user l.entry.word) named_guest ∙ sym o.user

  named_rights : (k : Kind) → both_give k n.guest n.host ≡ both_give k o.guest o.host
  named_rights k = ap (λ l. both_give k l n.host) named_guest ∙ ap (both_give k o.guest) named_host

abbrev fields : Grant → Grant
fields g = record { asid = g.asid; page = g.page; frame = g.frame; read = g.read; write = g.write; fetch = g.fetch; user = g.user; global = g.global }

-- grants with equal fields are equal
same_grant : (g h : Grant) → g.asid ≡ h.asid → g.page ≡ h.page → g.frame ≡ h.frame → g.read ≡ h.read → g.write ≡ h.write → g.fetch ≡ h.fetch
    → g.user ≡ h.user → g.global ≡ h.global → g ≡ h
same_grant g h asid page frame read write fetch user global = let same : fields g ≡ fields h = cc in same

one_fullest : (w : World) (g h : Grant) → g.page ≡ h.page → Fullest w g → Fullest w h → g ≡ h
one_fullest w g h page f e =
    let right : (k : Kind) → has_right k g ≡ has_right k h = λ k. f.rights k ∙ named_rights w g h page f.named e.named k ∙ sym (e.rights k) in
    let asid = named_asid w g h page f.named e.named in
    let frame = named_frame w g h page f.named e.named in
    let user = named_user w g h page f.named e.named in
    let global : g.global ≡ h.global = f.global ∙ ap (λ l. l.global) (named_guest w g h page f.named e.named) ∙ sym e.global in
    let read : g.read ≡ h.read = right Load in
    let write : g.write ≡ h.write = right Store in
    let fetch : g.fetch ≡ h.fetch = right Fetch in
    same_grant g h asid page frame read write fetch user global

module _ (w : World) (g h : Grant) (page : g.page ≡ h.page) (f : Fullest w h) where
  within_fullest : True w g → Within g h
  within_fullest t =
      record {
        asid = named_asid w g h page t.named f.named;
        frame = named_frame w g h page t.named f.named;
        user = named_user w g h page t.named f.named;
        rights = λ k e. f.rights k ∙ sym (named_rights w g h page t.named f.named k) ∙ t.rights k e;
        global = λ e. f.global ∙ sym (ap (λ l. l.global) (named_guest w g h page t.named f.named)) ∙ t.global e;
      }

  path_within : g.frame ≡ h.frame → Path w g.page (Some f.named.guest) f.named.host g.frame
  path_within frame =
      subst (λ (p : ℕ). Path w p (Some f.named.guest) f.named.host g.frame) (sym page)
      (subst (λ (q : ℕ). Path w h.page (Some f.named.guest) f.named.host q) (sym frame) f.named.path)

  true_within : Within g h → True w g
  true_within i =
      let n = f.named in
      record {
        named = record { guest = n.guest; host = n.host; paged = n.paged; asid = i.asid ∙ n.asid; path = path_within i.frame; user = i.user ∙ n.user };
        rights = λ k e. sym (f.rights k) ∙ i.rights k e;
        global = λ e. sym f.global ∙ i.global e;
      }

-- under an Sv39 guest root a page comes to its frame by a leaf
leaf_by : {F : Type 0} (walk : F → GuestFault) (canonical : Bool) (r : Result Leaf F) (at : Landing) → cond canonical (result_map_both by_leaf walk r) (Err NotCanonical) ≡ Ok at
    → at.leaf ≡ None → ⊥
leaf_by walk true (Ok leaf) at e n = let same : by_leaf leaf ≡ at = cc in cc (ap (λ l. l.leaf) same)
leaf_by walk true (Err fault) at e n = cc
leaf_by walk false r at e n = cc

paged_leaf : (w : World) (p : ℕ) (at : Landing) → is_paged w.guest ≡ true → guest_path w p ≡ Ok at → at.leaf ≡ None → ⊥
paged_leaf w p at paged e n = leaf_by Walk (is_canonical p) _ at (sym (cond-true (is_paged w.guest) _ _ paged) ∙ e) n

module _ (w : World) (a : Access) (frame : ℕ) (paged : is_paged w.guest ≡ true) where
  abbrev There : Type 0
  There = (g : Grant) × (g.page ≡ page_of a) × (g.frame ≡ frame) × Fullest w g

  there_by : (t : Translation) (o : Option Leaf) → translate_of w a ≡ Ok t → t.frame ≡ frame → t.guest ≡ o
      → Given (grant_by (asid_of w.guest) a t o) (λ g. (g.page ≡ page_of a) × Fullest w g) → There
  there_by t None e f n h =
      let p = ((granted w a t).0 e).path in
      absurd (paged_leaf w (page_of a) (record { frame = p.middle; leaf = t.guest }) paged p.first n)
  there_by t (Some leaf) e f n h = (full_grant (asid_of w.guest) a t leaf, h.0, f, h.1)

  fullest_there : (q : Result Translation Fault) → translate_of w a ≡ q → result_map_both (λ t. t.frame) (λ fault. fault) q ≡ Ok frame → There
  fullest_there (Ok t) e f = let same : t.frame ≡ frame = cc in there_by t t.guest e same refl (made_fullest w a t e)
  fullest_there (Err fault) e f = absurd cc

pub grants_true : GrantsTrue
grants_true =
    record {
      fullest = fullest_true;
      one = one_fullest;
      there = λ w a frame paged e. fullest_there w a frame paged (translate_of w a) refl e;
      within = λ w g h page f. (within_fullest w g h page f, true_within w g h page f);
      gives = true_gives;
      bare = λ w g e t. both_ways _ e (true_paged w g t);
    }
