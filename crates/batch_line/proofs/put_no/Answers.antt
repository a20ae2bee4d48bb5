-- `batch_line::put_no` meets its contract.
-- Assumes nothing.
use Rattle.batch_line.specs.Lines.{refusal_line}
use Rattle.batch_line.proofs.Laws as laws
use borrow.Author.Rules.{rules}
use Rattle.batch_line.proofs.put_no.Goals as goal

pub returns : goal.returns
unfolding refusal_line
returns c =
    rw (← c.from.ensures) (laws.also (laws.first c.add-start.ensures) (laws.added c.add_number-at.ensures.0 c.add_span.ensures.0 (search rules)), search rules)
