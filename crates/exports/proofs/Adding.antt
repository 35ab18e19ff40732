-- Loads one after another, and their words.
use Rattle.std.proofs.Common.{ℕ, ◌+◌, ◌%◌, ◌^◌, ◌<◌, List, [], ◌∷◌, ◌++◌, map, length, get_or, take, sum_by, ◌≡◌, Ok, Err, Result, sym, refl, ap, ◌∙◌}
use native.Mathlib.Nat.{mod-add-mod}
use Rattle.std.specs.Result.{result_unwrap_or}
use Rattle.std.proofs.lemmas.List.{map_more}
use Rattle.std.proofs.lemmas.List.Sums.{sum_by_push}
use Rattle.fault.specs.declared.faults.Fault.{Fault}
use Rattle.translator.specs.declared.translators.Translator.{Ghosts}
use Rattle.calls.specs.Answers.{word_or_fault}
use Rattle.history.specs.Moments.{Moment}
use Rattle.history.proofs.Pushed.{ran_none, ran_push}
use Rattle.exports.specs.Loads.{load_from, word_at, LoadsWord, LoadsFrom}

-- the word that a load gives, 0 for a fault
pub word_at-load : (r : Result ℕ Fault) → word_at (word_or_fault r) ≡ result_unwrap_or r 0
word_at-load (Ok word) = refl
word_at-load (Err fault) = refl

module _ {S : Type 0} {members : Ghosts S} where
  -- no load yet
  pub loads_none : (m : Moment) (s : S) → LoadsFrom members m s [] s 0
  loads_none m s = record { given = []; ran = ran_none members m s; total = refl }

  -- one load more
  pub loads_more : (m : Moment) (s : S) (addresses : List ℕ) (i : ℕ) (t : S) (sum : ℕ) (u : S) (word : ℕ)
      → i < length addresses → LoadsFrom members m s (take i addresses) t sum → LoadsWord members m t (get_or addresses i 0) u word
      → LoadsFrom members m s (take (i + 1) addresses) u ((sum + word) % 2 ^ 64)
  loads_more m s addresses i t sum u word below loads load = record {
    given = loads.given ++ load.0 ∷ [];
    ran =
        rw (map_more load_from addresses i 0 below)
        (ran_push members m s (map load_from (take i addresses)) loads.given m t
        (load_from (get_or addresses i 0)) load.0 m u loads.ran load.1);
    total =
        ap (λ n. (n + word) % 2 ^ 64) loads.total
        ∙ mod-add-mod (sum_by word_at loads.given) (2 ^ 64) word
        ∙ sym (ap (λ n. n % 2 ^ 64) (sum_by_push word_at loads.given load.0 ∙ ap (λ n. sum_by word_at loads.given + n) (sym load.2)));
  }
