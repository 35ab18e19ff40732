-- A fault as the six numbers of a report: cause, virtual address, guest-physical address, stage, guest level, host level.
use Rattle.std.specs.Prelude.{ℕ, ◌/◌, Some, None, Option}
use Rattle.table.specs.declared.walks.WalkFault.TheVariants.{Source, Stopped}
use Rattle.access.specs.declared.accesses.Kind.{Kind}
use Rattle.access.specs.declared.accesses.Kind.TheVariants.{Load, Store, Fetch}
use Rattle.fault.specs.declared.faults.HostFault.{HostFault}
use Rattle.fault.specs.declared.faults.HostFault.TheVariants.{OutOfRange, Walk, Denied, Word}
use Rattle.fault.specs.declared.faults.GuestFault.{GuestFault}
use Rattle.fault.specs.declared.faults.GuestFault.TheVariants as guest
use Rattle.fault.specs.declared.faults.Fault.{Fault}
use Rattle.fault.specs.declared.numbers.Stage.{Stage}
use Rattle.fault.specs.declared.numbers.Stage.TheVariants.{Alignment, Guest, Host, Memory}
use Rattle.fault.specs.declared.numbers.Place.{Place}
use Rattle.fault.specs.declared.numbers.Numbers.{Numbers}

-- a guest-physical address is named where the host stage did not translate it, and a level where an entry of it was wanted
abbrev pub place : Stage → Option ℕ → Option ℕ → Option ℕ → Place
place s gpa gl hl = record { stage = s; guest_physical = gpa; guest_level = gl; host_level = hl }

-- where the host stage of an address faults, gl being the guest level whose entry was wanted
abbrev pub host_place : Option ℕ → ℕ → HostFault → Place
host_place gl address OutOfRange = place Host (Some address) gl None
host_place gl address (Walk (Stopped level)) = place Host (Some address) gl (Some level)
host_place gl address (Walk (Source level o)) = place Memory None gl (Some level)
host_place gl address (Denied level) = place Host (Some address) gl (Some level)
host_place gl address (Word o) = place Memory None gl None

-- where an access faults
abbrev pub place_of : GuestFault → Place
place_of guest.Misaligned = place Alignment None None None
place_of guest.NotCanonical = place Guest None None None
place_of (guest.Walk (Stopped level)) = place Guest None (Some level) None
place_of (guest.Walk (Source level u)) = host_place (Some level) u.address u.fault
place_of (guest.Denied level) = place Guest None (Some level) None
place_of (guest.Host u) = host_place None u.address u.fault

abbrev pub stage_number : Stage → ℕ
stage_number Alignment = 0
stage_number Guest = 1
stage_number Host = 2
stage_number Memory = 3

-- the cause of a fault at a stage, by the kind of the access that was asked for
abbrev pub cause_of : Stage → Kind → ℕ
cause_of Alignment Load = 4
cause_of Alignment Store = 6
cause_of Alignment Fetch = 0
cause_of Guest Load = 13
cause_of Guest Store = 15
cause_of Guest Fetch = 12
cause_of Host Load = 21
cause_of Host Store = 23
cause_of Host Fetch = 20
cause_of Memory Load = 5
cause_of Memory Store = 7
cause_of Memory Fetch = 1

-- the number of a level, or 3 where there is none
abbrev pub level_number : Option ℕ → ℕ
level_number None = 3
level_number (Some level) = level

-- the guest-physical address shifted right by 2, or 0 where there is none
abbrev pub address_number : Option ℕ → ℕ
address_number None = 0
address_number (Some address) = address / 4

abbrev pub numbers_at : Kind → ℕ → Place → Numbers
numbers_at k va at =
    record {
      cause = cause_of at.stage k;
      address = va;
      guest_physical = address_number at.guest_physical;
      stage = stage_number at.stage;
      guest_level = level_number at.guest_level;
      host_level = level_number at.host_level;
    }

abbrev pub numbers_of : Fault → Numbers
numbers_of f = numbers_at f.kind f.address (place_of f.reason)
