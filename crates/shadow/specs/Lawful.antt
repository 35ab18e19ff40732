-- The laws of a shadow, by what it keeps.
use Rattle.std.specs.Prelude.{◌≡◌, ℕ, List, [], Ok, Err, vec_items, refl}
use Rattle.std.proofs.Common.{sym, ap, subst, ◌∙◌}
use Rattle.access.specs.declared.accesses.Access.{Access}
use Rattle.stages.specs.Stages.{World}
use Rattle.translator.specs.declared.fences.Fence.{Fence}
use Rattle.translator.specs.declared.replies.Reply.{Reply}
use Rattle.translator.specs.Rules.{Answered, Fenced}
use Rattle.translator.specs.Walked.{walked_reply}
use Rattle.translator.specs.Firsts.{answering_none}
use Rattle.translator.specs.Walks.{walked_outcome, walked_handed, walked_bare}
use Rattle.pool.proofs.Fields.{sound_of}
use Rattle.leaves.specs.Lookups.{hit}
use Rattle.shadow.specs.Steps.{reply_by}
use Rattle.shadow.specs.Book.{book_of}
use Rattle.shadow.specs.Shadows.{Store, grants_of, Answers, Forgets, Clears}
use Rattle.shadow.specs.Answering.{answered_pool}
use Rattle.shadow.specs.Fencing.{fenced_pool, reset_empty}

pub answered : (s t : Store) (w : World) (a : Access) (r : Reply) → Answers s w a r t → Answered (grants_of s) w a r (grants_of t)
answered (Err words) t w a r e =
    let none = answering_none w a in
    let walk : Answered [] w a (walked_reply w a) [] =
    record { outcome = walked_outcome [] w a none; kept = tt; handed = walked_handed [] w a none; bare = walked_bare [] w a } in
    subst (λ (x : Reply). Answered [] w a x (grants_of t)) (sym e.0) (subst (λ (x : Store). Answered [] w a (walked_reply w a) (grants_of x)) (sym e.1) walk)
answered (Ok pool) (Err words) w a r e = absurd e.1
answered (Ok pool) (Ok after) w a r e =
    let p = vec_items pool.words in
    let book = book_of p in
    subst (λ (x : Reply). Answered book w a x (book_of (vec_items after.words))) (sym e.0)
    (subst (λ (x : List ℕ). Answered book w a (reply_by (hit p w.guest a) (walked_reply w a)) (book_of x)) (sym e.1)
    (answered_pool p (sound_of pool) w a (hit p w.guest a) refl))

pub fences : (s t : Store) (f : Fence) → Forgets s f t → Fenced (grants_of s) f (grants_of t)
fences (Err words) t f e = subst (λ (x : Store). Fenced [] f (grants_of x)) (sym e) tt
fences (Ok pool) (Err words) f e = absurd e
fences (Ok pool) (Ok after) f e =
    subst (λ (x : List ℕ). Fenced (book_of (vec_items pool.words)) f (book_of x)) (sym e)
    (fenced_pool (vec_items pool.words) (sound_of pool) f.address f.asid)

pub clears : (s t : Store) → Clears s t → grants_of t ≡ []
clears (Err words) t e = ap grants_of e
clears (Ok pool) (Err words) e = absurd e
clears (Ok pool) (Ok after) e = ap book_of e ∙ reset_empty (vec_items pool.words) pool.large
