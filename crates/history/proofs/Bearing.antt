-- Which moments bear on an access.
use Rattle.std.proofs.Common.{inl, inr, ⊎_elim}
use Rattle.std.proofs.lemmas.Bool.{both_ways}
use Rattle.history.specs.Vocabulary.{MomentsBear}

pub moments_bear : MomentsBear
moments_bear =
    record {
      bare_before = λ o m a e b. both_ways _ e b.before;
      bare_now = λ o m a e b. both_ways _ e b.now;
      same_asid = λ o m a before now same. record { before = before; now = now; shared = inl same };
      other_asid = λ o m a before now other. (λ b. ⊎_elim (λ same. absurd (other same)) (λ g. g) b.shared, λ g. record { before = before; now = now; shared = inr g });
    }
