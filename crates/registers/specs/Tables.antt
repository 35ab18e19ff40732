-- What the root registers decode to.
use Rattle.std.specs.Prelude.{◌≡◌, ℕ, Bool, true, false, Some, None, Ok, Err, Option, Result}
use Rattle.refusal.specs.declared.Refusal.{Refusal}
use Rattle.table.specs.declared.walks.RootIndex.{RootIndex}
use Rattle.table.specs.declared.walks.Table.{Table}
use Rattle.registers.specs.Registers.{is_paged, root_of}

-- a root for a register that passes its test, the refusal for any other
abbrev pub DecodesTo : {Root : Type 0} → Bool → (Root → Type 0) → Refusal → Result Root Refusal → Type 0
DecodesTo passes Holds refusal (Ok root) = (passes ≡ true) × Holds root
DecodesTo passes Holds refusal (Err e) = (passes ≡ false) × (e ≡ refusal)

-- a table of three levels for a register in mode 8, none for any other
abbrev pub IsTable : ℕ → RootIndex → Option Table → Type 0
IsTable register index None = is_paged register ≡ false
IsTable register index (Some t) = (is_paged register ≡ true) × (t.root.number ≡ root_of register) × (t.top ≡ 2) × (t.index ≡ index)
