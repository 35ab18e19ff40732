-- The root registers: mode in bits 63 to 60, the guest's ASID in 59 to 44, the frame of the first table in 43 to 0.
use Rattle.std.specs.Prelude.{ℕ, Bool, ◌&&◌, ◌||◌, ◌==◌, nat_le}
use Rattle.entry.specs.Bits.{bits}

-- mode 8: Sv39 in the guest's register, Sv39x4 in the host's
abbrev pub is_paged : ℕ → Bool
is_paged register = bits 60 4 register == 8

abbrev pub asid_of : ℕ → ℕ
asid_of register = bits 44 16 register

abbrev pub root_of : ℕ → ℕ
root_of register = bits 0 44 register

-- Bare with every bit 0, or Sv39 with an ASID of at most 15
abbrev pub is_guest_root : ℕ → Bool
is_guest_root register = register == 0 || (is_paged register && nat_le (asid_of register) 15)

-- Bare with every bit 0, or Sv39x4 with bits 59 to 44 all 0 and a first table that begins at a multiple of four frames
abbrev pub is_host_root : ℕ → Bool
is_host_root register = register == 0 || (is_paged register && (asid_of register == 0 && bits 0 2 register == 0))
