-- How a trace is judged before anything is played.
use Rattle.std.specs.Prelude.{◌≡◌, ℕ, ◌≤◌, ◌⊎◌, List, ◌∷◌, Some, None, Ok, Err, Option, Result}
use Rattle.std.specs.Borrow.{Bor}
use Rattle.refusal.specs.declared.Refusal.{Refusal}
use Rattle.refusal.specs.declared.Refusal.TheVariants.{Frames, Room}
use Rattle.trace.specs.Lines.{lines_of}
use Rattle.trace.specs.Headers.{header_text}
use Rattle.judging.specs.declared.openings.Opened.{Opened}
use Rattle.judging.specs.declared.plans.Plan.{Plan}
use Rattle.judging.specs.Traces.{call_lines, call_count, Opens, Fits, HasRoom, IsShort}

-- a refusal by frames, where no number of them fits; or by room, where some number does
abbrev pub Refuses : (ℕ → Type 0) → Type 0 → Refusal → Type 0
Refuses fits room r = ((r ≡ Frames) × ((n : ℕ) → fits n → ⊥)) ⊎ ((r ≡ Room) × ((n : ℕ) × fits n) × (room → ⊥))

-- no other number has the header that stands first
abbrev pub OnlyFrames : List ℕ → ℕ → Type 0
OnlyFrames trace frames = (n : ℕ) → n ≤ 4096 → lines_of trace ≡ header_text n ∷ call_lines trace → n ≡ frames

-- opening a trace: its frames, the one number up to 4096 whose header stands first, and the text of its calls; or that there is none
abbrev pub OpensTo : List ℕ → Option Opened → Type 0
OpensTo trace (Some o) = Opens 4096 trace o.frames × OnlyFrames trace o.frames × (lines_of o.calls.now ≡ call_lines trace)
OpensTo trace None = (n : ℕ) → Opens 4096 trace n → ⊥

-- judging a trace by the sizes of an image and of a report: the text of its calls, or a refusal
abbrev pub Judges : ℕ → List ℕ → ℕ → Result (Bor (List ℕ)) Refusal → Type 0
Judges image trace report (Ok calls) = ((n : ℕ) × Fits image trace n) × HasRoom report trace × (lines_of calls.now ≡ call_lines trace)
Judges image trace report (Err r) = Refuses (Fits image trace) (HasRoom report trace) r

-- judging an input of the program: its frames, 8 at most, and how many calls it has, or a refusal
abbrev pub JudgesInput : List ℕ → Result Plan Refusal → Type 0
JudgesInput input (Ok p) = Opens 8 input p.frames × (p.calls ≡ call_count input) × IsShort input
JudgesInput input (Err r) = Refuses (Opens 8 input) (IsShort input) r
