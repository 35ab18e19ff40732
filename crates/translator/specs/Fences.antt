-- What a guest fence covers.
use Rattle.std.specs.Prelude.{ℕ, ◌/◌, ◌^◌, Bool, true, not, ◌&&◌, Some, None, Option, ◌==◌}
use Rattle.translator.specs.declared.grants.Grant.{Grant}
use Rattle.translator.specs.declared.fences.Fence.{Fence}

-- the address is all, or lies in the page
abbrev pub covers_page : Option ℕ → ℕ → Bool
covers_page None page = true
covers_page (Some address) page = address / 2 ^ 12 == page

-- the ASID is all, or equals that of what is not global
abbrev pub covers_asid : Option ℕ → ℕ → Bool → Bool
covers_asid None asid global = true
covers_asid (Some k) asid global = k == asid && not global

-- the fence covers what stands for a page under an ASID, global or not
abbrev pub covers : Fence → ℕ → ℕ → Bool → Bool
covers f asid page global = covers_page f.address page && covers_asid f.asid asid global

abbrev pub covers_grant : Fence → Grant → Bool
covers_grant f g = covers f g.asid g.page g.global
