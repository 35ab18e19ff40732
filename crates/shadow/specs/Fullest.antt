-- The fullest grant of a page: its page is canonical, and it has the right to write only with that to read.
use Rattle.std.specs.Prelude.{◌≡◌, ℕ, Bool, true, false, cond, not, ◌&&◌, Some, None, Ok, Err, Option, Result, refl}
use Rattle.std.proofs.Common.{sym, ap, subst, ◌∙◌, arith}
use Rattle.std.proofs.lemmas.Option.{none-some}
use Rattle.std.specs.Result.{result_map_both}
use Rattle.std.proofs.lemmas.Bool.{and_parts, and_from, or_parts, false≢true, true≢false}
use Rattle.entry.specs.Entry.{is_valid, is_readable, is_writable, is_accessed, is_dirty, is_user, is_malformed}
use Rattle.table.specs.Walk.{walk_of}
use Rattle.table.specs.declared.walks.Leaf.{Leaf}
use Rattle.table.specs.declared.walks.WalkFault.{WalkFault}
use Rattle.table.proofs.Chains.{follows}
use Rattle.memory.specs.Words.{read_of}
use Rattle.access.specs.declared.accesses.Access.{Access}
use Rattle.access.specs.declared.accesses.Kind.TheVariants.{Load, Store}
use Rattle.fault.specs.declared.faults.Fault.{Fault}
use Rattle.fault.specs.declared.faults.GuestFault.TheVariants as guest
use Rattle.fault.specs.declared.faults.HostFault.TheVariants as host
use Rattle.stages.specs.declared.outcomes.Translation.{Translation}
use Rattle.access.specs.Accesses.{page_of}
use Rattle.registers.specs.Registers.{is_paged, asid_of, root_of}
use Rattle.access.specs.Rights.{gives, host_allows}
use Rattle.stages.specs.Host.{bare, by_leaf, is_in_range, host_path, guest_reads}
use Rattle.stages.specs.Stages.{World, is_canonical, translate_of}
use Rattle.stages.specs.Paths.{passes}
use Rattle.translator.specs.declared.grants.Grant.{Grant}
use Rattle.translator.specs.declared.replies.Reply.{Reply}
use Rattle.translator.specs.Truth.{Fullest}
use Rattle.translator.specs.Rules.{Given}
use Rattle.translator.specs.Walked.{reply_of, walked_reply}
use Rattle.translator.specs.Walks.{made_fullest}

-- a stage that gives a leaf: its page is in range, and the walk ends at the leaf
staged : {F E : Type 0} (paged fits : Bool) (q : Result Leaf (WalkFault F)) (fault : WalkFault F → E) (bad : E) (p frame : ℕ) (leaf : Leaf)
    → cond paged (cond fits (result_map_both by_leaf fault q) (Err bad)) (Ok (bare p)) ≡ Ok (record { frame = frame; leaf = Some leaf }) → (fits ≡ true) × (q ≡ Ok leaf)
staged true true (Ok l) fault bad p frame leaf e =
    let s : by_leaf l ≡ record { frame = frame; leaf = Some leaf } = cc in
    let t : Some l ≡ Some leaf = ap (λ x. x.leaf) s in
    let u : l ≡ leaf = cc in
    (refl, ap (λ x. Ok x) u)
staged true true (Err f) fault bad p frame leaf e = let z : ◌≡◌ {A = ℕ} 0 1 = cc in absurd (omega arith)
staged true false q fault bad p frame leaf e = let z : ◌≡◌ {A = ℕ} 0 1 = cc in absurd (omega arith)
staged false fits q fault bad p frame leaf e =
    let s : bare p ≡ record { frame = frame; leaf = Some leaf } = cc in
    absurd (none-some leaf (ap (λ x. x.leaf) s))

-- a leaf that a walk ends at has W only with R
writes_read : (r w : Bool) → (not r && w) ≡ false → w ≡ true → r ≡ true
writes_read true w h e = refl
writes_read false true h e = absurd (true≢false h)
writes_read false false h e = absurd (false≢true e)

well_formed : {F : Type 0} (reads : ℕ → Result ℕ F) (top wide root p : ℕ) (leaf : Leaf) → walk_of reads top wide root p ≡ Ok leaf
    → is_writable leaf.entry.word ≡ true → is_readable leaf.entry.word ≡ true
well_formed reads top wide root p leaf e h =
    let w = leaf.entry.word in
    let s = (((follows reads top wide root p).leaf leaf).0 e).stands in
    let m = (or_parts (is_malformed w) _ s).0 in
    let n = (or_parts (not (is_valid w)) _ m).1 in
    let o = (or_parts (not (is_readable w) && is_writable w) _ n).0 in
    writes_read (is_readable w) (is_writable w) o h

-- where a leaf gives a store its right, it gives a load its right
store_load : (w : ℕ) → (is_writable w ≡ true → is_readable w ≡ true) → gives Store w ≡ true → gives Load w ≡ true
store_load w f h =
    let x = and_parts (is_accessed w) (is_writable w && is_dirty w) h in
    let y = and_parts (is_writable w) (is_dirty w) x.1 in
    and_from (is_accessed w) (is_readable w) x.0 (f y.0)

module _ (w : World) (g : Grant) (f : Fullest w g) where
  guest_leaf : (is_canonical g.page ≡ true) × (walk_of (guest_reads w.words w.host) 2 9 (root_of w.guest) g.page ≡ Ok f.named.guest)
  guest_leaf =
      staged (is_paged w.guest) (is_canonical g.page) (walk_of (guest_reads w.words w.host) 2 9 (root_of w.guest) g.page) guest.Walk guest.NotCanonical g.page
      f.named.path.middle f.named.guest f.named.path.first

  pub fullest_canonical : is_canonical g.page ≡ true
  fullest_canonical = guest_leaf.0

  host_loads : (p frame : ℕ) (o : Option Leaf) → host_path w.words w.host p ≡ Ok (record { frame = frame; leaf = o }) → passes (host_allows Store) o ≡ true
      → passes (host_allows Load) o ≡ true
  host_loads p frame None e h = refl
  host_loads p frame (Some leaf) e h =
      let l = leaf.entry.word in
      let s = staged (is_paged w.host) (is_in_range p) (walk_of (read_of w.words) 2 11 (root_of w.host) p) host.Walk host.OutOfRange p frame leaf e in
      let x = and_parts (is_user l) (gives Store l) h in
      and_from (is_user l) (gives Load l) x.0 (store_load l (well_formed (read_of w.words) 2 11 (root_of w.host) p leaf s.1) x.1)

  pub fullest_reads : g.write ≡ true → g.read ≡ true
  fullest_reads h =
      let n = f.named in
      let l = n.guest.entry.word in
      let x = and_parts (gives Store l) (passes (host_allows Store) n.host) (sym (f.rights Store) ∙ h) in
      f.rights Load
      ∙ and_from (gives Load l) (passes (host_allows Load) n.host)
      (store_load l (well_formed (guest_reads w.words w.host) 2 9 (root_of w.guest) g.page n.guest guest_leaf.1) x.0)
      (host_loads n.path.middle g.frame n.host n.path.second x.1)

-- the grant that a walk hands out is the fullest
pub walked_fullest : (w : World) (a : Access) (g : Grant) → (walked_reply w a).grant ≡ Some g → Fullest w g
walked_fullest w a g h = by_walk (translate_of w a) refl h
  where
    by_walk : (q : Result Translation Fault) → translate_of w a ≡ q → (reply_of (asid_of w.guest) a q).grant ≡ Some g → Fullest w g
    by_walk (Ok t) e h = (subst (λ (o : Option Grant). Given o (λ x. (x.page ≡ page_of a) × Fullest w x)) h (made_fullest w a t e)).1
    by_walk (Err f) e h = absurd (none-some g h)

pub handed_fullest : (w : World) (a : Access) (r : Reply) (g : Grant) → r ≡ walked_reply w a → r.grant ≡ Some g → Fullest w g
handed_fullest w a r g e h = walked_fullest w a g (subst (λ (x : Reply). x.grant ≡ Some g) e h)
