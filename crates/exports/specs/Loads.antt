-- Loads from a list of addresses, and their sum.
use Rattle.std.specs.Prelude.{◌≡◌, ℕ, ◌%◌, ◌^◌, false, cond, List, ◌∷◌, map, IfOk, Ok, Err, sum_by, Result}
use Rattle.std.specs.declared.alloc.AllocError.{AllocError}
use Rattle.refusal.specs.declared.Refusal.{Refusal}
use Rattle.refusal.specs.declared.Refusal.TheVariants.{GuestRoot, HostRoot}
use Rattle.access.specs.declared.accesses.Mode.TheVariants.{Supervisor}
use Rattle.registers.specs.Registers.{is_guest_root, is_host_root}
use Rattle.translator.specs.declared.translators.Translator.{Ghosts}
use Rattle.calls.specs.declared.HostCall.TheVariants as host_call
use Rattle.calls.specs.declared.GuestCall.TheVariants as guest_call
use Rattle.calls.specs.declared.Call.{Call}
use Rattle.calls.specs.declared.Call.TheVariants.{Host, Guest}
use Rattle.calls.specs.declared.Answer.{Answer}
use Rattle.calls.specs.declared.Answer.TheVariants.{Done, Word, Faulted, Refused}
use Rattle.history.specs.Moments.{Moment, start}
use Rattle.history.specs.Plain.{plain_answers}
use Rattle.history.specs.Runs.{Step, Ran, Played}
use Rattle.exports.specs.declared.results.Loaded.{Loaded}
use Rattle.exports.specs.Results.{loaded_of, unloaded}

-- a load in mode s, with SUM and MXR 0
abbrev pub load_from : ℕ → Call
load_from address = Guest (guest_call.Load (record { mode = Supervisor; sum = false; mxr = false; address = address }))

-- the calls: both roots are written, and then each address is loaded from
abbrev pub load_calls : ℕ → ℕ → List ℕ → List Call
load_calls guest host addresses = Host (host_call.Root host) ∷ (Host host_call.Enter ∷ (Guest (guest_call.Root guest) ∷ map load_from addresses))

-- the word of an answer; a fault adds nothing
abbrev pub word_at : Answer → ℕ
word_at Done = 0
word_at (Word word) = word
word_at (Faulted fault) = 0
word_at (Refused refusal) = 0

-- the words of the answers, added up modulo 2^64
abbrev pub sum_of : List Answer → ℕ
sum_of given = sum_by word_at given % 2 ^ 64

-- the sum of the plain machine's answers; or the refusal of a root register that breaks its layout, the guest's before the host's
abbrev pub plain_sum : List ℕ → ℕ → ℕ → List ℕ → Result ℕ Refusal
plain_sum ws guest host addresses =
    cond (is_guest_root guest)
    (cond (is_host_root host) (Ok (sum_of (plain_answers (start ws) (load_calls guest host addresses)))) (Err HostRoot))
    (Err GuestRoot)

module _ {S : Type 0} (members : Ghosts S) where
  -- one load, from the translator s to the translator t: it leaves the machine at its moment m, and answers a word or a fault
  abbrev pub LoadsWord : Moment → S → ℕ → S → ℕ → Type 0
  LoadsWord m s address t word =
      (x : Answer) × Step members m s (load_from address) x m t × (word ≡ word_at x)

  -- loads in turn: their answers are those of a run, and the sum is theirs
  pub record LoadsFrom (m : Moment) (s : S) (addresses : List ℕ) (t : S) (sum : ℕ) : Type 0 where
    pub given : List Answer
    pub ran : Ran members m s (map load_from addresses) given m t
    pub total : sum ≡ sum_of given

  -- a sum is that of the answers of a run over the translator s
  abbrev pub FromRun : S → List ℕ → ℕ → ℕ → List ℕ → Result ℕ Refusal → Type 0
  FromRun s ws guest host addresses (Ok sum) =
      (given : List Answer) × (end : Moment) × (t : S)
      × Played members (start ws) s (load_calls guest host addresses) given end t × (sum ≡ sum_of given)
  FromRun s ws guest host addresses (Err refusal) = Unit {0}

  -- loads over the translator s come to what the plain machine's come to, and by a run of this translator
  abbrev pub LoadsOver : S → List ℕ → ℕ → ℕ → List ℕ → Loaded → Type 0
  LoadsOver s ws guest host addresses p =
      (p ≡ loaded_of (plain_sum ws guest host addresses)) × FromRun s ws guest host addresses (plain_sum ws guest host addresses)

  -- over the translator that was made; or no memory could be had for one
  unfoldable pub LoadsOn : Result S AllocError → List ℕ → ℕ → ℕ → List ℕ → Loaded → Type 0
  LoadsOn (Ok s) ws guest host addresses p = LoadsOver s ws guest host addresses p
  LoadsOn (Err error) ws guest host addresses p = p ≡ unloaded

  -- over a new translator, if one could be made
  abbrev pub LoadsOnNew : (S → Type 0) → List ℕ → ℕ → ℕ → List ℕ → Loaded → Type 0
  LoadsOnNew New ws guest host addresses p = (m : Result S AllocError) × LoadsOn m ws guest host addresses p × IfOk m New
