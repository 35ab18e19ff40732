-- What reading a line answers, said by the text of what is read.
use Rattle.std.specs.Prelude.{◌≡◌, ℕ, List, ◌≢◌}
use Rattle.calls.specs.declared.HostCall.{HostCall}
use Rattle.calls.specs.declared.GuestCall.{GuestCall}
use Rattle.calls.specs.declared.Call.{Call}
use Rattle.calls.specs.declared.Call.TheVariants.{Host, Guest, Unreadable}
use Rattle.reader.specs.Texts.{host_text, guest_text}

-- a reader of a call: the call that has this text, or that no call of either side has it
abbrev pub ReadsCall : {X : Type 0} → (HostCall → X) → (GuestCall → X) → X → Call → Type 0
ReadsCall host guest x (Host c) = x ≡ host c
ReadsCall host guest x (Guest c) = x ≡ guest c
ReadsCall host guest x Unreadable = ((c : HostCall) → x ≢ host c) × ((c : GuestCall) → x ≢ guest c)

-- what reading a line answers
abbrev pub Reads : List ℕ → Call → Type 0
Reads line r = ReadsCall host_text guest_text line r
