-- `batch_line::put_kind` meets its contract.
-- Assumes nothing.
use Rattle.batch_line.specs.Lines.{kind_line}
use Rattle.batch_line.proofs.Laws as laws
use borrow.Author.Rules.{rules}
use Rattle.batch_line.proofs.put_kind.Goals as goal

pub returns : goal.returns
unfolding kind_line
returns c = (laws.also c.put_ok-at.ensures.0 c.add_number.ensures.0, search rules)
