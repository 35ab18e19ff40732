-- The worked examples: walks as equations, and a machine over a buffer.
use Rattle.std.specs.Prelude.{◌≡◌, ℕ, false, replicate, Ok, Err, Result, slice_set}
use Rattle.std.specs.Result.{result_map_both}
use Rattle.access.specs.declared.accesses.Kind.TheVariants.{Load}
use Rattle.access.specs.declared.accesses.Mode.{Mode}
use Rattle.access.specs.declared.accesses.Mode.TheVariants.{Supervisor, User}
use Rattle.access.specs.declared.accesses.Access.{Access}
use Rattle.fault.specs.declared.numbers.Numbers.{Numbers}
use Rattle.fault.specs.Numbers.{numbers_of}
use Rattle.stages.specs.Stages.{World, translate_of}
use Rattle.history.specs.Moments.{start}
use Rattle.history.specs.Settled.{plain_at, AllSettled}
use Rattle.worked.specs.Remembered.{editing, stopped, Remembers}

-- two frames, host Bare: the guest's table is frame 1, whose first entry maps the first GiB onto frame 0 on
abbrev pub two_frames : World
two_frames = record { words = slice_set (replicate 1024 0) 512 0xc7; guest = 0x8000100000000001; host = 0 }

-- eight zero frames, guest Bare: the host's table begins at frame 4
abbrev pub zero_frames : World
zero_frames = record { words = replicate 4096 0; guest = 0; host = 0x8000000000000004 }

-- a load with SUM and MXR 0
abbrev pub load : Mode → ℕ → Access
load mode address = record { kind = Load; mode = mode; sum = false; mxr = false; address = address }

-- the frame that an access is granted, or the six numbers of its fault
abbrev pub asked : World → Access → Result ℕ Numbers
asked w a = result_map_both (λ t. t.frame) numbers_of (translate_of w a)

-- a fault by its six numbers: cause, virtual and guest-physical address, stage, guest level, host level
abbrev pub numbers : ℕ → ℕ → ℕ → ℕ → ℕ → ℕ → Numbers
numbers cause va gpa stage gl hl =
    record { cause = cause; address = va; guest_physical = gpa; stage = stage; guest_level = gl; host_level = hl }

-- all of them, jointly
pub record Examples : Type 0 where
  -- the page is mapped for mode s
  pub granted : asked two_frames (load Supervisor 8) ≡ Ok 0
  -- and not for mode u: its leaf of level 2 lacks U
  pub denied : asked two_frames (load User 8) ≡ Err (numbers 13 8 0 1 2 3)
  -- an address that is not a multiple of 8
  pub misaligned : asked two_frames (load Supervisor 4) ≡ Err (numbers 4 4 0 0 3 3)
  -- an address whose bit 38 is set and whose bits 63 to 39 are not
  pub not_canonical : asked two_frames (load Supervisor 0x4000000000) ≡ Err (numbers 13 0x4000000000 0 1 3 3)
  -- the host's first table has no valid entry
  pub unmapped : asked zero_frames (load Supervisor 0x10) ≡ Err (numbers 21 0x10 4 2 3 2)
  -- a machine over a buffer answers by what it remembers of a cleared entry, until a fence
  pub remembered : Remembers two_frames.words
  -- the fault that it then answers
  pub faulted : numbers_of stopped ≡ numbers 13 8 0 1 2 3
  -- so the list of its calls is not settled
  pub unsettled : AllSettled (plain_at (start two_frames.words) editing) editing → ⊥
