-- How the letter of a call and the fields after it are written.
use Rattle.std.specs.Prelude.{ℕ, List, [], ◌∷◌, codes}
use Rattle.digits.specs.Hexadecimal.{hex_of}
use Rattle.fields.specs.declared.tags.Tag.TheVariants.{Mode, Sum, Mxr, Va, Asid, Data, Pa}
use Rattle.fields.specs.Items.{Item}
use Rattle.values.specs.Texts.{mode_text, bit_text, all_or}
use Rattle.translator.specs.declared.fences.Fence.{Fence}
use Rattle.calls.specs.declared.Target.{Target}
use Rattle.calls.specs.declared.HostCall.{HostCall}
use Rattle.calls.specs.declared.HostCall.TheVariants as host
use Rattle.calls.specs.declared.GuestCall.{GuestCall}
use Rattle.calls.specs.declared.GuestCall.TheVariants as guest

-- the fields of a target, and those after them
abbrev pub target_items : Target → List Item → List Item
target_items t after =
    (Mode, mode_text t.mode) ∷ (Sum, bit_text t.sum) ∷ (Mxr, bit_text t.mxr) ∷ (Va, hex_of 16 t.address) ∷ after

-- the fields of a guest fence
abbrev pub fence_items : Fence → List Item
fence_items f = (Va, all_or (hex_of 16) f.address) ∷ (Asid, all_or (hex_of 4) f.asid) ∷ []

-- the letter of a call of the host side
abbrev pub host_letter : HostCall → List ℕ
host_letter (host.Load a) = codes "r"
host_letter (host.Store a d) = codes "w"
host_letter (host.Root r) = codes "h"
host_letter host.Fence = codes "y"
host_letter host.Enter = codes "e"

-- its fields after the letter, in their order
abbrev pub host_rest : HostCall → List Item
host_rest (host.Load a) = (Pa, hex_of 16 a) ∷ []
host_rest (host.Store a d) = (Pa, hex_of 16 a) ∷ (Data, hex_of 16 d) ∷ []
host_rest (host.Root r) = (Data, hex_of 16 r) ∷ []
host_rest host.Fence = []
host_rest host.Enter = []

-- the letter of a call of the guest side
abbrev pub guest_letter : GuestCall → List ℕ
guest_letter (guest.Load t) = codes "l"
guest_letter (guest.Store t d) = codes "s"
guest_letter (guest.Fetch t) = codes "f"
guest_letter (guest.Fence f) = codes "z"
guest_letter (guest.Root r) = codes "g"
guest_letter guest.Leave = codes "x"

-- its fields after the letter, in their order
abbrev pub guest_rest : GuestCall → List Item
guest_rest (guest.Load t) = target_items t []
guest_rest (guest.Store t d) = target_items t ((Data, hex_of 16 d) ∷ [])
guest_rest (guest.Fetch t) = target_items t []
guest_rest (guest.Fence f) = fence_items f
guest_rest (guest.Root r) = (Data, hex_of 16 r) ∷ []
guest_rest guest.Leave = []
