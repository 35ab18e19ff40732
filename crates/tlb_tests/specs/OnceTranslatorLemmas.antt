-- The laws of a translator that remembers one grant, and answers from it once.
use Rattle.std.specs.Prelude.{◌≡◌, ℕ, ◌⊎◌, List, [], Some, None, Option, MatchOption}
use Rattle.std.proofs.Common.{sym, ap, subst, inl, inr, ⊎_elim, arith}
use Rattle.std.specs.Option.{option_to_list}
use Rattle.std.specs.List.{ContainsAt as Has, AllByRecursion}
use Rattle.access.specs.declared.accesses.Access.{Access}
use Rattle.stages.specs.Stages.{World}
use Rattle.translator.specs.declared.grants.Grant.{Grant}
use Rattle.translator.specs.declared.replies.Reply.{Reply}
use Rattle.translator.specs.Grants.{answering}
use Rattle.translator.specs.Truth.{True}
use Rattle.translator.specs.Rules.{walked_to, or_walk, Fresh, Given, Answered}
use Rattle.translator.specs.Walked.{walked_reply}
use Rattle.translator.proofs.Truths.{fullest_true}
use Rattle.translator.specs.Walks.{walked_outcome, walked_handed, walked_bare}
use Rattle.translator.proofs.Books.{answering_has, answering_paged}
use Rattle.tlb.specs.Layer.{served}
use Rattle.tlb_tests.specs.declared.onces.Once.{Once}

-- the grant of a walk is true or was there
pub handed_all : (book : List Grant) (w : World) (a : Access) (o : Option Grant) → Given o (λ g. Has book g ⊎ Fresh book w a g) → AllByRecursion (λ g. Has book g ⊎ True w g) (option_to_list o)
handed_all book w a None h = tt
handed_all book w a (Some g) h = (⊎_elim (λ k. inl k) (λ k. inr (fullest_true w g k.fullest)) h, tt)

pub by_answer : (s t : Once) (w : World) (a : Access) (r : Reply) (o : Option Grant) → answering w a (option_to_list s.grant) ≡ o
    → MatchOption o ((r ≡ walked_reply w a) × (t.grant ≡ r.grant)) (λ g. (r ≡ served g) × (t.grant ≡ None)) → Answered (option_to_list s.grant) w a r (option_to_list t.grant)
by_answer s t w a r None e (reply, after) =
    let book = option_to_list s.grant in
    let whole : Answered book w a (walked_reply w a) (option_to_list (walked_reply w a).grant) =
    record {
      outcome = walked_outcome book w a e;
      kept = handed_all book w a (walked_reply w a).grant (walked_handed book w a e);
      handed = walked_handed book w a e;
      bare = walked_bare book w a;
    } in
    subst (λ (o : Option Grant). Answered book w a r (option_to_list o)) (sym after)
    (subst (λ (q : Reply). Answered book w a q (option_to_list q.grant)) (sym reply) whole)
by_answer s t w a r (Some g) e (reply, after) =
    let book = option_to_list s.grant in
    let paged = answering_paged w a book g e in
    let whole : Answered book w a (served g) [] =
    record {
      outcome = sym (ap (λ o. or_walk o (walked_to w a)) e);
      kept = tt;
      handed = inl (answering_has w a book g e);
      bare = λ b. let z : ◌≡◌ {A = ℕ} 0 1 = cc in absurd (omega arith);
    } in
    subst (λ (o : Option Grant). Answered book w a r (option_to_list o)) (sym after)
    (subst (λ (q : Reply). Answered book w a q []) (sym reply) whole)
