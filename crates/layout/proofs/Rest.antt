-- No change touches a word past the frames that are used.
use Rattle.std.proofs.Common.{◌≡◌, ℕ, zero, suc, ◌*◌, ◌/◌, ◌<◌, ◌≤◌, min, eqb, List, set, refl, ap, ◌∙◌, inl, inr, arith}
use Rattle.std.proofs.lemmas.List.{length-set, get_or-set_other}
use Rattle.std.proofs.lemmas.Bool.{cases_Bool}
use Rattle.layout.specs.Tables.{frames, path_of, leaf_table, leaf_place}
use Rattle.layout.specs.Changes.{cleared, reset, built, has_room, ready, written, inserted, removed, removed_below, dropped}
use Rattle.layout.specs.Sound.{Sound}
use Rattle.layout.specs.Laws.{RestKept}
use Rattle.layout.proofs.Takes.{cleared_out}
use Rattle.layout.proofs.Walks.{path_inside}
use Rattle.layout.proofs.Grows.{indices_of, built_path, built_length}
use Rattle.layout.proofs.Writes.{reset_length}
use Rattle.layout.proofs.Inserts.{treed_of, ready_roomy, removed_lacks}

same_rest : (pool : List ℕ) → RestKept pool pool
same_rest pool = record { long = refl; rest = λ i l. refl }

more_rest : (p q r : List ℕ) → RestKept p q → RestKept q r → RestKept p r
more_rest p q r x y =
    let f : frames q ≡ frames p = ap (λ m. min 512 (m / 512)) x.long in
    record { long = y.long ∙ x.long; rest = λ i l. y.rest i (omega arith) ∙ x.rest i l }

-- one word below the frames that are used is set
set_rest : (pool : List ℕ) (i w : ℕ) → i < frames pool * 512 → RestKept pool (set pool i w)
set_rest pool i w h = record { long = length-set pool i w; rest = λ j l. get_or-set_other pool i j w 0 (λ e. omega arith) }

pub reset_rest : (pool : List ℕ) → 4 ≤ frames pool → RestKept pool (reset pool)
reset_rest pool h =
    record {
      long = reset_length pool;
      rest = λ i l. get_or-set_other (cleared pool 0 16) 16 i 1 0 (λ e. omega arith) ∙ cleared_out pool 0 16 i (inr (omega arith));
    }

pub dropped_rest : (pool : List ℕ) (a : ℕ) → Sound pool → a < 16 → RestKept pool (dropped pool a)
dropped_rest pool a g h = let l = g.0 in set_rest pool a 0 (omega arith)

written_rest : (pool : List ℕ) (a page w : ℕ) → Sound pool → a < 16 → RestKept pool (written pool a page w)
written_rest pool a page w g h =
    let t = path_inside pool (frames pool) (treed_of pool g) a (path_of page) h (indices_of page) in
    let f = g.2 in
    set_rest pool (leaf_place pool a page) w (omega arith)

pub removed_rest : (pool : List ℕ) (a page : ℕ) → Sound pool → a < 16 → RestKept pool (removed pool a page)
removed_rest pool a page g h =
    elim (cases_Bool (eqb (leaf_table pool a page) 0)) [ inl e ↦ rw e (same_rest pool) | inr e ↦ rw e (written_rest pool a page 0 g h) ]

removed_below_lem : (pool : List ℕ) (page : ℕ) → Sound pool → (n : ℕ) → n ≤ 16 → Sound (removed_below pool page n) × RestKept pool (removed_below pool page n)
unfolding removed_below
removed_below_lem pool page g zero h = (g, same_rest pool)
removed_below_lem pool page g (suc n) h =
    let r = removed_below_lem pool page g n (omega arith) in
    let p = removed_below pool page n in
    ((removed_lacks p n page r.0 (omega arith)).sound, more_rest pool p (removed p n page) r.1 (removed_rest p n page r.0 (omega arith)))

pub removed_everywhere_rest : (pool : List ℕ) (page : ℕ) → Sound pool → RestKept pool (removed_below pool page 16)
removed_everywhere_rest pool page g = (removed_below_lem pool page g 16 (omega arith)).1

pub inserted_rest : (pool : List ℕ) (a page w : ℕ) → Sound pool → a < 16 → RestKept pool (inserted pool a page w)
inserted_rest pool a page w g h =
    let p = ready pool a page in
    let q = built p a (path_of page) in
    let r = ready_roomy pool a page g in
    let room : RestKept pool p = elim (cases_Bool (has_room pool a page)) [ inl e ↦ rw e (same_rest pool) | inr e ↦ rw e (reset_rest pool g.0) ] in
    let y = built_path p (frames p) (treed_of p r.sound) a h (path_of page) (indices_of page) (omega arith) r.room in
    let long = built_length p a (path_of page) in
    let grows : RestKept p q = record { long = long; rest = y.extends.rest } in
    let t = path_inside q (frames p) y.extends.treed a (path_of page) h (indices_of page) in
    let f = y.extends.treed.fits in
    let e : frames q ≡ frames p = ap (λ m. min 512 (m / 512)) long in
    more_rest pool p (written q a page w) room (more_rest p q (written q a page w) grows (set_rest q (leaf_place q a page) w (omega arith)))

pub same_kept : (pool p q : List ℕ) → q ≡ p → RestKept pool p → RestKept pool q
same_kept pool p q e k = rw e k
