-- How the values of fields are written.
use Rattle.std.specs.Prelude.{ℕ, Bool, true, false, List, Some, None, codes, Option}
use Rattle.access.specs.declared.accesses.Mode.{Mode}
use Rattle.access.specs.declared.accesses.Mode.TheVariants.{Supervisor, User}

abbrev pub mode_text : Mode → List ℕ
mode_text Supervisor = codes "s"
mode_text User = codes "u"

abbrev pub bit_text : Bool → List ℕ
bit_text false = codes "0"
bit_text true = codes "1"

-- what `text` writes of one, or the word for all of them
abbrev pub all_or : {A : Type 0} → (A → List ℕ) → Option A → List ℕ
all_or text (Some a) = text a
all_or text None = codes "all"
