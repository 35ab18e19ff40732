-- The text of a call: its line in a trace, with its LF.
use Rattle.std.specs.Prelude.{ℕ, List, [], ◌∷◌}
use Rattle.fields.specs.declared.tags.Tag.TheVariants.{Op}
use Rattle.fields.specs.Items.{Item, line_text, more_text}
use Rattle.calls.specs.declared.HostCall.{HostCall}
use Rattle.calls.specs.declared.GuestCall.{GuestCall}
use Rattle.operands.specs.Texts.{host_letter, host_rest, guest_letter, guest_rest}

-- all fields of a call
abbrev pub host_items : HostCall → List Item
host_items c = (Op, host_letter c) ∷ host_rest c

abbrev pub guest_items : GuestCall → List Item
guest_items c = (Op, guest_letter c) ∷ guest_rest c

-- the line of a call of one side, by the letter of each and the fields after it
abbrev pub side_text : {C : Type 0} → (C → List ℕ) → (C → List Item) → C → List ℕ
side_text letter rest c = line_text ((Op, letter c) ∷ rest c)

-- such a call in two parts: its letter, and what follows that up to the end of the line
abbrev pub side_parts : {C : Type 0} → (C → List ℕ) → (C → List Item) → C → List ℕ × List ℕ
side_parts letter rest c = (letter c, more_text (rest c) (10 ∷ []))

-- the line of a call, with its LF
abbrev pub host_text : HostCall → List ℕ
host_text c = line_text (host_items c)

abbrev pub guest_text : GuestCall → List ℕ
guest_text c = line_text (guest_items c)
