-- A machine over a buffer over the walk, as a function of its moment and the buffer's sets.
use Rattle.std.proofs.Common.{◌≡◌, ℕ, List, [], ◌∷◌, Some, None, Option, refl, ◌∙◌, MatchOption}
use Rattle.table.specs.Walk.{walk_from}
use Rattle.access.specs.declared.accesses.Access.{Access}
use Rattle.stages.specs.Stages.{World, translate_of}
use Rattle.translator.specs.declared.grants.Grant.{Grant}
use Rattle.translator.specs.declared.replies.Reply.{Reply}
use Rattle.translator.specs.declared.nested.Nested.{Nested}
use Rattle.translator.specs.Walked.{walked_reply}
use Rattle.tlb.specs.declared.ways.Set.{Set}
use Rattle.tlb.specs.declared.layers.Tlb.{Tlb}
use Rattle.tlb.specs.Tables.{hit, stored, sets_after, everything, empty_sets}
use Rattle.tlb.specs.Layer.{sets_of, served, Hit, Miss}
use Rattle.calls.specs.declared.Call.{Call}
use Rattle.calls.specs.declared.Answer.{Answer}
use Rattle.history.specs.Moments.{Moment, start}
use Rattle.history.specs.Plain.{plain, landed}
use Rattle.history.specs.Asks.{Ask, nothing, reach, forget, clear, asks}
use Rattle.history.specs.Runs.{StepBy, Ran}
use Rattle.worked.specs.Examples.{two_frames}
use Rattle.piles.specs.Piles.{nested_members, tlb_members}
use Rattle.worked.specs.Remembered.{editing, remembering, Remembers}

-- the reply and the sets after an access, by the grant that answers
abbrev reply_by : Option Grant → World → Access → Reply
reply_by None w a = walked_reply w a
reply_by (Some g) w a = served g

abbrev sets_by : Option Grant → World → Access → List Set → List Set
sets_by None w a sets = stored (walked_reply w a).grant sets
sets_by (Some g) w a sets = sets

-- the answer, the moment and the sets after a call, by what it asks
abbrev landed_by : Moment → Access → ℕ → List Set → Answer × Moment
landed_by m a new sets = landed m.world a new (reply_by (hit m.world a sets) m.world a).outcome

abbrev next_by : Ask → Moment → List Set → Call → Answer × Moment × List Set
next_by nothing m sets c = ((plain m c).0, (plain m c).1, sets)
next_by (reach a new) m sets c =
    ((landed_by m a new sets).0, (landed_by m a new sets).1, sets_by (hit m.world a sets) m.world a sets)
next_by (forget f) m sets c = ((plain m c).0, (plain m c).1, sets_after f sets)
next_by clear m sets c = ((plain m c).0, (plain m c).1, sets_after everything sets)

abbrev next : Moment → List Set → Call → Answer × Moment × List Set
next m sets c = next_by (asks m c) m sets c

unfoldable buffered : Moment → List Set → List Call → List Answer
buffered m sets [] = []
buffered m sets (c ∷ cs) = (next m sets c).0 ∷ buffered (next m sets c).1 (next m sets c).2 cs

-- an access
layered_next : (o : Option Grant) (s : Tlb Nested) (w : World) (a : Access) (r : Reply) (t : Tlb Nested)
    → MatchOption o (Miss nested_members.answers s w a r t) (λ g. Hit g s r t) → (r ≡ reply_by o w a) × (sets_of t ≡ sets_by o w a (sets_of s))
layered_next None s w a r t h = let e = h.below in let f = h.sets in (e, cc)
layered_next (Some g) s w a r t h = (h.reply, h.sets)

-- one call
step_next : (q : Ask) (m : Moment) (s : Tlb Nested) (c : Call) (x : Answer) (n : Moment) (t : Tlb Nested)
    → StepBy tlb_members q m s c x n t
    → (x ≡ (next_by q m (sets_of s) c).0) × (n ≡ (next_by q m (sets_of s) c).1) × (sets_of t ≡ (next_by q m (sets_of s) c).2)
step_next nothing m s c x n t h = (h.0.0, h.0.1, cc)
step_next (reach a new) m s c x n t (r, h, e, f) =
    let l = layered_next (hit m.world a (sets_of s)) s m.world a r t h in
    (rw l.0 at e, rw l.0 at f, l.1)
step_next (forget f) m s c x n t h = (h.0.0, h.0.1, h.1.0)
step_next clear m s c x n t h = (h.0.0, h.0.1, h.1.0)

-- calls in a row
ran_buffered : (m : Moment) (s : Tlb Nested) (cs : List Call) (xs : List Answer) (end : Moment) (t : Tlb Nested)
    → Ran tlb_members m s cs xs end t → xs ≡ buffered m (sets_of s) cs
unfolding Ran buffered
ran_buffered m s [] [] end t h = refl
ran_buffered m s [] (x ∷ xs) end t h = absurd h
ran_buffered m s (c ∷ cs) [] end t h = absurd h
ran_buffered m s (c ∷ cs) (x ∷ xs) end t (n, u, h, rest) =
    let e = step_next (asks m c) m s c x n u h in
    let f = ran_buffered n u cs xs end t rest in
    cc

-- the worked calls
worked : buffered (start two_frames.words) empty_sets editing ≡ remembering
unfolding buffered translate_of walk_from
worked = refl

pub remembers : Remembers two_frames.words
remembers s xs end t empty (u, h, ran) =
    let e = ran_buffered (start two_frames.words) u editing xs end t ran in
    let f : sets_of u ≡ empty_sets = h.0 ∙ rw empty in
    (rw f at e) ∙ worked
