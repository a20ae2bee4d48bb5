-- `batch_line::add_three` meets its contract.
-- Assumes nothing.
use native.Mathlib.Omega.{arith}
use Rattle.batch_line.proofs.Laws as laws
use Rattle.batch_line.proofs.add_three.Goals as goal

pub returns : goal.returns
returns c =
    (laws.added c.add_number-next.ensures.0 (laws.added c.add_number-last.ensures.0 c.add_number.ensures.0 (omega arith)) (omega arith), omega arith)
