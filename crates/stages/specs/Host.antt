-- The host stage: what a guest-physical page comes to, at the words of a memory and the host's root register.
use Rattle.std.specs.Prelude.{ℕ, ◌+◌, ◌*◌, ◌/◌, ◌%◌, ◌^◌, Bool, cond, List, length, Some, None, Ok, Err, Option, Result, ◌==◌, nat_lt}
use Rattle.std.specs.Result.{result_map_both}
use Rattle.memory.specs.Words.{read_of, outside}
use Rattle.table.specs.declared.walks.Leaf.{Leaf}
use Rattle.table.specs.Walk.{walk_of}
use Rattle.access.specs.declared.accesses.Kind.{Kind}
use Rattle.access.specs.declared.accesses.Kind.TheVariants.{Load}
use Rattle.fault.specs.declared.faults.HostFault.{HostFault}
use Rattle.fault.specs.declared.faults.HostFault.TheVariants.{OutOfRange, Walk, Denied, Word}
use Rattle.fault.specs.declared.faults.Unreached.{Unreached}
use Rattle.stages.specs.declared.landings.Landing.{Landing}
use Rattle.registers.specs.Registers.{is_paged, root_of}
use Rattle.access.specs.Rights.{host_allows}

-- the first fault stops; a value goes on
abbrev pub and_then : {X Y E : Type 0} → Result X E → (X → Result Y E) → Result Y E
and_then (Ok x) next = next x
and_then (Err e) next = Err e

-- where a page comes to at a stage: under Bare to the frame of its own number, by no leaf
abbrev pub bare : ℕ → Landing
bare p = record { frame = p; leaf = None }

abbrev pub by_leaf : Leaf → Landing
by_leaf leaf = record { frame = leaf.frame; leaf = Some leaf }

-- a leaf has to pass a test, or is denied at its level; under Bare nothing is asked
abbrev pub judged_by : {E : Type 0} → (ℕ → Bool) → (ℕ → E) → Landing → Option Leaf → Result Landing E
judged_by test denied at None = Ok at
judged_by test denied at (Some leaf) = cond (test leaf.entry.word) (Ok at) (Err (denied leaf.level))

abbrev pub judged : {E : Type 0} → (ℕ → Bool) → (ℕ → E) → Landing → Result Landing E
judged test denied at = judged_by test denied at at.leaf

-- a guest-physical page of at most 29 bits: bits 63 to 41 of its addresses are 0
abbrev pub is_in_range : ℕ → Bool
is_in_range p = p / 2 ^ 29 == 0

-- a fault of the host stage, with the guest-physical address that was wanted
abbrev pub unreached : ℕ → HostFault → Unreached
unreached address fault = record { address = address; fault = fault }

-- the frame lies inside a memory of these words
abbrev pub is_inside : List ℕ → ℕ → Bool
is_inside ws f = nat_lt f (length ws / 512)

abbrev pub inside_of : List ℕ → Landing → Result Landing HostFault
inside_of ws at = cond (is_inside ws at.frame) (Ok at) (Err (Word outside))

module _ (ws : List ℕ) (register : ℕ) where
  -- the path of a guest-physical page, whatever the rights
  abbrev pub host_path : ℕ → Result Landing HostFault
  host_path p =
      cond (is_paged register)
      (cond (is_in_range p) (result_map_both by_leaf Walk (walk_of (read_of ws) 2 11 (root_of register) p)) (Err OutOfRange))
      (Ok (bare p))

  -- the same for a kind of access, which the leaf has to allow
  abbrev pub host_stage : Kind → ℕ → Result Landing HostFault
  host_stage k p = and_then (host_path p) (judged (host_allows k) Denied)

  -- word i of the frame that a page came to
  abbrev pub word_at : ℕ → Landing → Result ℕ HostFault
  word_at i at = result_map_both (λ word. word) Word (read_of ws (at.frame * 512 + i))

  -- what a load of word i of the guest's physical memory answers
  abbrev pub host_load : ℕ → Result ℕ HostFault
  host_load i = and_then (host_stage Load (i / 512)) (word_at (i % 512))

  -- the same as a source of table words
  abbrev pub guest_reads : ℕ → Result ℕ Unreached
  guest_reads i = result_map_both (λ word. word) (unreached (i * 8)) (host_load i)

  -- the host stage of the final address of an access, whose frame has to lie inside the memory
  abbrev pub host_reach : Kind → ℕ → Result Landing HostFault
  host_reach k p = and_then (host_stage k p) (inside_of ws)
