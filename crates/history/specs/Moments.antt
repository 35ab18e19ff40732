-- A moment of a machine: the words of its memory, its two root registers, and the side whose turn it is.
use Rattle.std.specs.Prelude.{ℕ, List}
use Rattle.stages.specs.Stages.{World}

pub data Side : Type 0 where
  host : Side
  guest : Side

pub record Moment : Type 0 where
  pub world : World
  pub side : Side

abbrev pub host_at : World → Moment
host_at w = record { world = w; side = host }

abbrev pub guest_at : World → Moment
guest_at w = record { world = w; side = guest }

-- a world with other words, or with another root
abbrev pub with_words : World → List ℕ → World
with_words w ws = record { words = ws; guest = w.guest; host = w.host }

abbrev pub with_guest : World → ℕ → World
with_guest w register = record { words = w.words; guest = register; host = w.host }

abbrev pub with_host : World → ℕ → World
with_host w register = record { words = w.words; guest = w.guest; host = register }

-- a machine as it is made: both roots 0, at the host side
abbrev pub start : List ℕ → Moment
start ws = host_at (record { words = ws; guest = 0; host = 0 })
