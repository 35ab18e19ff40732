-- A play as a C function: its status and length, and what it leaves in the image and the report.
use Rattle.std.specs.Prelude.{◌≡◌, ℕ, List, IfOk, Ok, Err, Result}
use Rattle.std.specs.declared.alloc.AllocError.{AllocError}
use Rattle.refusal.specs.declared.Refusal.{Refusal}
use Rattle.translator.specs.declared.translators.Translator.{Ghosts}
use Rattle.player.specs.Plays.{Plays}
use Rattle.exports.specs.declared.results.Played.{Played}
use Rattle.exports.specs.Results.{played_of, unplayed}

module _ {S : Type 0} (members : Ghosts S) where
  -- a play over the translator s, which it leaves as some t
  abbrev pub PlaysOver : S → List ℕ → List ℕ → List ℕ → Played → List ℕ → List ℕ → Type 0
  PlaysOver s image trace report p image' report' =
      (r : Result ℕ Refusal) × (t : S) × (p ≡ played_of r)
      × Plays members image s trace report r image' t report'

  -- over the translator that was made; or no memory could be had for one, and nothing changes
  unfoldable pub PlaysOn : Result S AllocError → List ℕ → List ℕ → List ℕ → Played → List ℕ → List ℕ → Type 0
  PlaysOn (Ok s) image trace report p image' report' = PlaysOver s image trace report p image' report'
  PlaysOn (Err error) image trace report p image' report' = (p ≡ unplayed) × (image' ≡ image) × (report' ≡ report)

  -- over a new translator, if one could be made
  abbrev pub PlaysOnNew : (S → Type 0) → List ℕ → List ℕ → List ℕ → Played → List ℕ → List ℕ → Type 0
  PlaysOnNew New image trace report p image' report' = (m : Result S AllocError) × PlaysOn m image trace report p image' report' × IfOk m New
