-- What a guest fence answers, and what it does to the translator.
use Rattle.std.specs.Prelude.{◌≡◌, true, false, Ok, Err, Result}
use Rattle.refusal.specs.declared.Refusal.{Refusal}
use Rattle.refusal.specs.declared.Refusal.TheVariants.{FenceAsid}
use Rattle.translator.specs.declared.fences.Fence.{Fence}
use Rattle.history.specs.Plain.{is_fence_asid}

-- accepted, the translator forgets what the fence covers; refused, by its ASID, nothing changes
abbrev pub FenceDone : {S : Type 0} → (S → Fence → S → Type 0) → S → Fence → Result (Unit {0}) Refusal → S → Type 0
FenceDone forgets s f (Ok done) t = (is_fence_asid f.asid ≡ true) × forgets s f t
FenceDone forgets s f (Err refusal) t = (is_fence_asid f.asid ≡ false) × (refusal ≡ FenceAsid) × (t ≡ s)
