-- `batch_line::put_ok` meets its contract.
-- Assumes nothing.
use Rattle.batch_line.specs.Lines.{ok_line}
use Rattle.batch_line.proofs.Laws as laws
use borrow.Author.Rules.{rules}
use Rattle.batch_line.proofs.put_ok.Goals as goal

pub returns : goal.returns
unfolding ok_line
returns c = (laws.also (laws.first c.add-at.ensures) c.add_number.ensures.0, search rules)
