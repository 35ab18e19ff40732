-- A line and its call, of either side.
use Rattle.std.proofs.Common.{ℕ, List, [], ◌∷◌, Some, None}
use Rattle.fields.specs.declared.tags.Tag.TheVariants.{Op}
use Rattle.calls.specs.declared.Call.{Call}
use Rattle.calls.specs.declared.Call.TheVariants.{Host, Guest, Unreadable}
use Rattle.operands.specs.Texts.{host_letter, host_rest, guest_letter, guest_rest}
use Rattle.operands.specs.Reads.{Takes}
use Rattle.reader.specs.Texts.{side_parts}
use Rattle.reader.specs.Reads.{ReadsCall, Reads}
use Rattle.operands.proofs.Spelling.{host_spelled, guest_spelled}
use Rattle.reader.proofs.Sides.{no_letter, split, joined}

module _ (line on : List ℕ) where
  -- with no letter a line is of no call
  pub no_call : Takes (λ b. (Op, b ∷ []) ∷ []) (32 ∷ line) None on → Reads line Unreadable
  no_call none = (no_letter host_letter host_rest host_spelled line on none, no_letter guest_letter guest_rest guest_spelled line on none)

  -- else of that of its letter and the rest
  pub by_letter : (b : ℕ) → Takes (λ b. (Op, b ∷ []) ∷ []) (32 ∷ line) (Some b) on
      → (r : Call) → ReadsCall (side_parts host_letter host_rest) (side_parts guest_letter guest_rest) (b ∷ [], on) r → Reads line r
  by_letter b first (Host c) e = joined host_letter host_rest host_spelled line b on first c e
  by_letter b first (Guest c) e = joined guest_letter guest_rest guest_spelled line b on first c e
  by_letter b first Unreadable none = (
    λ c e. none.0 c (split host_letter host_rest host_spelled line b on first c e),
    λ c e. none.1 c (split guest_letter guest_rest guest_spelled line b on first c e),
  )
