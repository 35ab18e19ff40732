-- The two-stage walk: what an access comes to, at the words of a memory and the two root registers.
use Rattle.std.specs.Prelude.{ℕ, ◌+◌, ◌-◌, ◌*◌, ◌/◌, ◌%◌, ◌^◌, Bool, cond, ◌||◌, List, Ok, Err, Result, ◌==◌}
use Rattle.std.specs.Result.{result_map_both}
use Rattle.table.specs.Walk.{walk_of}
use Rattle.access.specs.declared.accesses.Access.{Access}
use Rattle.fault.specs.declared.faults.Unreached.{Unreached}
use Rattle.fault.specs.declared.faults.GuestFault.{GuestFault}
use Rattle.fault.specs.declared.faults.GuestFault.TheVariants.{Misaligned, NotCanonical, Walk, Denied, Host}
use Rattle.fault.specs.declared.faults.Fault.{Fault}
use Rattle.stages.specs.declared.landings.Landing.{Landing}
use Rattle.stages.specs.declared.outcomes.Translation.{Translation}
use Rattle.registers.specs.declared.roots.Roots.{Roots}
use Rattle.access.specs.Accesses.{page_of, word_of, is_aligned}
use Rattle.registers.specs.Registers.{is_paged, root_of}
use Rattle.access.specs.Rights.{guest_allows}
use Rattle.stages.specs.Host.{and_then, bare, by_leaf, judged, unreached, guest_reads, host_reach}

-- everything that a walk depends on: the words of the memory and the two root registers
pub record World : Type 0 where
  pub words : List ℕ
  pub guest : ℕ
  pub host : ℕ

abbrev pub world_of : List ℕ → Roots → World
world_of ws roots = record { words = ws; guest = roots.guest.register; host = roots.host.register }

-- a virtual page is canonical: bits 63 to 39 of its addresses equal bit 38
abbrev pub is_canonical : ℕ → Bool
is_canonical p = p / 2 ^ 26 == 0 || p / 2 ^ 26 == 2 ^ 26 - 1

-- the path of a virtual page to a guest frame, whatever the rights; each entry is read as a load through the host stage
abbrev pub guest_path : World → ℕ → Result Landing GuestFault
guest_path w p =
    cond (is_paged w.guest)
    (cond (is_canonical p) (result_map_both by_leaf Walk (walk_of (guest_reads w.words w.host) 2 9 (root_of w.guest) p)) (Err NotCanonical))
    (Ok (bare p))

-- the same for an access, which the leaf has to allow
abbrev pub guest_stage : World → Access → Result Landing GuestFault
guest_stage w a = and_then (guest_path w (page_of a)) (judged (guest_allows a) Denied)

-- the guest-physical address of an access whose page came to a guest frame
abbrev pub physical_of : Access → ℕ → ℕ
physical_of a f = f * 2 ^ 12 + a.address % 2 ^ 12

-- the host stage of the final address, by the access's own kind
abbrev pub final_stage : World → Access → Landing → Result Landing Unreached
final_stage w a at = result_map_both (λ end. end) (unreached (physical_of a at.frame)) (host_reach w.words w.host a.kind at.frame)

abbrev pub translation : Access → Landing → Landing → Translation
translation a at end = record { frame = end.frame; word = word_of a; guest = at.leaf; host = end.leaf }

abbrev pub two_stages : World → Access → Result Translation GuestFault
two_stages w a =
    cond (is_aligned a)
    (and_then (guest_stage w a) (λ at. result_map_both (translation a at) Host (final_stage w a at)))
    (Err Misaligned)

-- a fault, with the access that it stopped
abbrev pub fault_of : Access → GuestFault → Fault
fault_of a reason = record { kind = a.kind; address = a.address; reason = reason }

-- the two-stage walk of an access: the frame, the word in it and the leaves, or the whole fault
unfoldable pub translate_of : World → Access → Result Translation Fault
translate_of w a = result_map_both (λ t. t) (fault_of a) (two_stages w a)
