-- A trace in, a report out: what playing one does, by what one call does to the translator.
use Rattle.std.specs.Prelude.{◌≡◌, ℕ, List, ◌++◌, length, drop, Some, Ok, Err, Result}
use Rattle.refusal.specs.declared.Refusal.{Refusal}
use Rattle.memory.specs.Bytes.{shown_words}
use Rattle.access.specs.declared.accesses.Access.{Access}
use Rattle.stages.specs.Stages.{World}
use Rattle.translator.specs.declared.fences.Fence.{Fence}
use Rattle.translator.specs.declared.replies.Reply.{Reply}
use Rattle.translator.specs.declared.translators.Translator.{Ghosts}
use Rattle.calls.specs.declared.Call.{Call}
use Rattle.calls.specs.declared.Answer.{Answer}
use Rattle.history.specs.Moments.{Moment, start}
use Rattle.history.specs.Settled.{plain_at, AllSettled}
use Rattle.history.specs.Runs.{Step, Played}
use Rattle.history.specs.Theorem.{Agrees, FaithfulRun}
use Rattle.reader.specs.Texts.{host_text, guest_text}
use Rattle.reader.specs.Reads.{ReadsCall}
use Rattle.report.specs.Lines.{answer_line}
use Rattle.report.specs.Writing.{PutsLine}
use Rattle.judging.specs.Traces.{call_lines, Fits, HasRoom}
use Rattle.judging.specs.Judging.{Refuses}
use Rattle.player.specs.Reports.{ReadLines, report_text}

-- T is what a translator says of its calls: what an access, a fence and a host fence do to it
module _ {S : Type 0} (T : Ghosts S) where
  -- the n-th line is read as a call, the machine takes it from the moment m to the moment k, and the line of its answer is
  -- written at `at`, up to `end`
  abbrev pub PlayedLine : Moment → S → List ℕ → ℕ → List ℕ → ℕ → Moment → S → List ℕ → ℕ → Type 0
  PlayedLine m s line n before at k t after end =
      (c : Call) × (x : Answer) × ReadsCall host_text guest_text line c × Step T m s c x k t
      × PutsLine before at (answer_line n x) after (Some end)

  -- a machine is made over the words ws, and takes the calls that the lines say: it leaves the words vs, the translator t and
  -- the report `after`, of which `len` bytes are its own
  pub record PlayedLines (ws : List ℕ) (s : S) (lines : List (List ℕ)) (before vs : List ℕ) (t : S) (after : List ℕ) (len : ℕ) : Type 0 where
    pub calls : List Call
    pub given : List Answer
    pub end : Moment
    pub reads : ReadLines lines calls
    -- the run is the translator's own steps in a row, to the end
    pub played : Played T (start ws) s calls given end t
    -- settled or not, each call is served as the plain machine does or from what was remembered
    pub faithful : FaithfulRun T (start ws) s calls given end t
    -- if every access is settled, the answers and the end are the plain machine's
    pub agrees : AllSettled (plain_at (start ws) calls) calls → Agrees (start ws) calls given end
    pub words : end.world.words ≡ vs
    -- the report is the lines of the answers, and then what stood there before
    pub text : after ≡ report_text given ++ drop len before
    pub size : len ≡ length (report_text given)

  -- refused, nothing changes; else the image is that of the run's end
  abbrev pub Plays : List ℕ → S → List ℕ → List ℕ → Result ℕ Refusal → List ℕ → S → List ℕ → Type 0
  Plays image s trace report (Ok len) image' t report' =
      ((n : ℕ) × Fits (length image) trace n) × HasRoom (length report) trace × (length image' ≡ length image)
      × PlayedLines (shown_words image) s (call_lines trace) report (shown_words image') t report' len
  Plays image s trace report (Err r) image' t report' =
      Refuses (Fits (length image) trace) (HasRoom (length report) trace) r × (image' ≡ image) × (t ≡ s) × (report' ≡ report)
