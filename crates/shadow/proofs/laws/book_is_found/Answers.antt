use Rattle.shadow.specs.Books.{booked}
use Rattle.shadow.proofs.laws.book_is_found.Goals as goal

pub returns : goal.returns
returns c = booked
