-- What every call leaves as it is.
use Rattle.std.specs.Prelude.{◌≡◌}
use Rattle.memory.specs.declared.Memory.{Ghosts}

-- what lies past the words of a memory, as it is stored, and whom it borrows from: a fact of two moments, so no type can hold it
abbrev pub Keeps : {S : Type 0} → Ghosts S → S → S → Type 0
Keeps M before after = (M.rest after ≡ M.rest before) × (M.lenders after ≡ M.lenders before)
