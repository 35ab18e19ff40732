use Rattle.shadow.proofs.Exact.{kept_by_rights, fills_exactly, fences_exactly}
use Rattle.shadow.proofs.laws.book_is_exact.Goals as goal

pub returns : goal.returns
returns c = record { kept = kept_by_rights; filled = fills_exactly; fenced = fences_exactly }
