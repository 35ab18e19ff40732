-- How far the lines of a trace are played.
use Rattle.std.proofs.Common.{◌≡◌, ℕ, ◌+◌, ◌*◌, ◌<◌, ◌≤◌, List, [], ◌∷◌, ◌++◌, length, drop, sym, refl, ap, ◌∙◌, subst, append_assoc, arith}
use Rattle.std.proofs.lemmas.List.{append-nil, take-append-drop, length_push, length-append}
use Rattle.access.specs.declared.accesses.Access.{Access}
use Rattle.stages.specs.Stages.{World}
use Rattle.translator.specs.declared.fences.Fence.{Fence}
use Rattle.translator.specs.declared.replies.Reply.{Reply}
use Rattle.translator.specs.declared.translators.Translator.{Ghosts}
use Rattle.calls.specs.declared.Call.{Call}
use Rattle.calls.specs.declared.Answer.{Answer}
use Rattle.history.specs.Moments.{Moment, start}
use Rattle.history.specs.Runs.{Ran, Played}
use Rattle.history.specs.Theorem.{RunsAgree}
use Rattle.history.proofs.Pushed.{ran_none, ran_push}
use Rattle.machine.specs.declared.machines.Machine.{Machine}
use Rattle.machine.specs.declared.machines.Machine.TheVariants.{AtHost, AtGuest}
use Rattle.machine.specs.Machines.{moment_of}
use Rattle.reader.specs.Texts.{host_text, guest_text}
use Rattle.reader.specs.Reads.{ReadsCall}
use Rattle.report.specs.Lines.{answer_line}
use Rattle.report.specs.Writing.{Wrote}
use Rattle.report.proofs.Writes.{wrote_none, wrote_then}
use Rattle.player.specs.Reports.{ReadLines, lines_from, report_text}
use Rattle.player.specs.Plays.{PlayedLine, PlayedLines}

-- one line more is read
read_push : (ls : List (List ℕ)) (cs : List Call) (l : List ℕ) (c : Call) → ReadLines ls cs → ReadsCall host_text guest_text l c
    → ReadLines (ls ++ l ∷ []) (cs ++ c ∷ [])
unfolding ReadLines
read_push [] [] l c r h = (h, tt)
read_push [] (d ∷ ds) l c r h = absurd r
read_push (k ∷ ks) [] l c r h = absurd r
read_push (k ∷ ks) (d ∷ ds) l c r h = (r.0, read_push ks ds l c r.1 h)

-- one answer more is written
lines_push : (n : ℕ) (xs : List Answer) (x : Answer) (k : ℕ) → k ≡ n + length xs → lines_from n (xs ++ x ∷ []) ≡ lines_from n xs ++ answer_line k x
unfolding lines_from
lines_push n [] x k e =
    let same : k ≡ n = omega arith in append-nil (answer_line n x) ∙ ap (λ i. answer_line i x) (sym same)
lines_push n (y ∷ ys) x k e =
    ap (λ s. answer_line n y ++ s) (lines_push (n + 1) ys x k (omega arith)) ∙ sym (append_assoc (answer_line n y) (lines_from (n + 1) ys) (answer_line k x))

-- what is written from the start on
pub written : (before text after : List ℕ) (len : ℕ) → Wrote before 0 text after len → after ≡ text ++ drop len before
written before text after len w =
    sym (take-append-drop len after) ∙ ap (λ s. s ++ drop len after) w.front ∙ ap (λ s. text ++ s) w.rest

-- the words of a machine's moment are those of its memory
pub words_of : (ws : List ℕ) (m : Machine) → (moment_of ws m).world.words ≡ ws
words_of ws (AtHost side) = refl
words_of ws (AtGuest side) = refl

module _ {S : Type 0} (T : Ghosts S) where
  -- from the moment m and the translator u, `count` lines are done and the others are left
  pub record Progress (m : Moment) (u : S) (lines : List (List ℕ)) (before : List ℕ) (left : List (List ℕ)) (count end : ℕ) (n : Moment) (t : S) (after : List ℕ) : Type 0 where
    pub done : List (List ℕ)
    pub calls : List Call
    pub given : List Answer
    pub split : lines ≡ done ++ left
    pub reads : ReadLines done calls
    pub ran : Ran T m u calls given n t
    pub wrote : Wrote before 0 (report_text given) after end
    pub lined : length done ≡ count
    pub answered : length given ≡ count
    pub short : end ≤ 128 * count

module _ {S : Type 0} {T : Ghosts S} where
  -- nothing is played
  pub progress_none : (m : Moment) (u : S) (lines : List (List ℕ)) (before : List ℕ) → Progress T m u lines before lines 0 0 m u before
  unfolding ReadLines lines_from
  progress_none m u lines before = record {
    done = [];
    calls = [];
    given = [];
    split = refl;
    reads = tt;
    ran = ran_none T m u;
    wrote = wrote_none before 0;
    lined = refl;
    answered = refl;
    short = omega arith;
  }

  module _ {m : Moment} {u : S} {lines : List (List ℕ)} {before : List ℕ} {left : List (List ℕ)} {count end : ℕ} {n : Moment} {t : S} {after : List ℕ}
      (p : Progress T m u lines before left count end n t after) where
    -- another line is there: fewer than all lines are done, and a report of `size` bytes has room for its answer
    pub progress_room : (line : List ℕ) (ls : List (List ℕ)) → left ≡ line ∷ ls → (size : ℕ) → 128 * length lines ≤ size
        → (count < length lines) × (end + 128 ≤ size)
    progress_room line ls e size h =
        let all : length lines ≡ count + length left =
        ap length p.split ∙ length-append p.done left ∙ ap (λ k. k + length left) p.lined in
        let one : length left ≡ length (line ∷ ls) = ap length e in
        let low : count < length lines = omega arith in
        (low, omega (arith, p.short))

    -- one line more
    pub progress_more : (line : List ℕ) (left' : List (List ℕ)) (k : Moment) (v : S) (after' : List ℕ) (end' : ℕ)
        → left ≡ line ∷ left' → PlayedLine T n t line (count + 1) after end k v after' end'
        → Progress T m u lines before left' (count + 1) end' k v after'
    progress_more line left' k v after' end' e q = record {
      done = p.done ++ line ∷ [];
      calls = p.calls ++ q.0 ∷ [];
      given = p.given ++ q.1 ∷ [];
      split = p.split ∙ ap (λ l. p.done ++ l) e ∙ sym (append_assoc p.done (line ∷ []) left');
      reads = read_push p.done p.calls line q.0 p.reads q.2;
      ran = ran_push T m u p.calls p.given n t q.0 q.1 k v p.ran q.3;
      wrote = subst (λ s. Wrote before 0 s after' end') (sym (lines_push 1 p.given q.1 (count + 1) (omega (arith, p.answered)))) (wrote_then p.wrote q.4.2);
      lined = length_push p.done line ∙ ap (λ i. i + 1) p.lined;
      answered = length_push p.given q.1 ∙ ap (λ i. i + 1) p.answered;
      short = omega (arith, p.short, q.4.1);
    }

    -- no line is left
    pub progress_all : RunsAgree T → (ws : List ℕ) (s : S) (vs : List ℕ)
        → m ≡ start ws → T.clears s u → left ≡ [] → n.world.words ≡ vs → PlayedLines T ws s lines before vs t after end
    progress_all agree ws s vs first fenced none words =
        let all : lines ≡ p.done = p.split ∙ ap (λ r. p.done ++ r) none ∙ append-nil p.done in
        let ran = subst (λ k. Ran T k u p.calls p.given n t) first p.ran in
        let played : Played T (start ws) s p.calls p.given n t = (u, fenced, ran) in
        let both = agree (start ws) s p.calls p.given n t played in
        record {
          calls = p.calls;
          given = p.given;
          end = n;
          reads = subst (λ ls. ReadLines ls p.calls) (sym all) p.reads;
          played = played;
          faithful = both.0;
          agrees = both.1;
          words = words;
          text = written before (report_text p.given) after end p.wrote;
          size = p.wrote.ends ∙ omega arith;
        }
