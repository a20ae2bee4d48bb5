-- `batch_line::add_span` meets its contract.
-- Assumes nothing.
use Rattle.batch_line.proofs.Laws as laws
use borrow.Author.Rules.{rules}
use Rattle.batch_line.proofs.add_span.Goals as goal

pub returns-in-Some : goal.returns-in-Some
returns-in-Some c =
    rw c.in-Some.is (laws.added c.add_number-next.ensures.0 c.add_number.ensures.0 (search rules), search rules)
