-- The ghost fields of a pool as one fact, and back; and what a change of its words leaves.
use Rattle.std.proofs.Common.{◌≡◌, ℕ, ◌≤◌, List, ◌++◌, length, take, vec_items, ap, ◌∙◌}
use Rattle.std.proofs.lemmas.List.{take_at}
use Rattle.layout.specs.Tables.{frames, next}
use Rattle.layout.specs.Sound.{Inside, Apart, Shaped, Sound}
use Rattle.pool.specs.declared.pools.Pool.{Pool}

pub sound_of : (s : Pool) → Sound (vec_items s.words)
sound_of s = (s.large, s.some, s.fits, s.inside, s.apart, s.shaped)

abbrev Fields : List ℕ → Type 0
Fields p = record { large : 4 ≤ frames p; some : 1 ≤ next p; fits : next p ≤ frames p; inside : Inside p; apart : Apart p; shaped : Shaped p }

pub fields : (p q : List ℕ) → q ≡ p → Sound p → Fields q
fields p q e g = rw e (record { large = g.0; some = g.1; fits = g.2; inside = g.3; apart = g.4; shaped = g.5 })

-- the words of a Vec after a change of the slice of all of them
pub written_back : (f : List ℕ → List ℕ) (n : ℕ) (was now items past : List ℕ) → was ≡ items → length was ≡ n → length now ≡ length was → now ≡ f was
    → take n (now ++ past) ≡ f items
written_back f n was now items past e l k h = take_at now past n (k ∙ l) ∙ h ∙ ap f e
