-- `batch_line::put_string` meets its contract.
-- Assumes nothing.
use Rattle.batch_line.proofs.Laws as laws
use borrow.Author.Rules.{rules}
use Rattle.batch_line.proofs.put_string.Goals as goal

pub returns : goal.returns
returns c =
    (laws.also c.put_kind-at.ensures.0 (laws.added c.add_hashes-next.ensures.0 c.add_number.ensures.0 (search rules)), search rules)
