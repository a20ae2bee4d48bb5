-- The number that four bytes come to, the least first.
use Rattle.std.proofs.Common.{arith}
use Rattle.batch.specs.Record.{number_at}
use Rattle.batch.proofs.number_at.Goals as goal

pub returns : goal.returns
unfolding number_at
returns c = omega (arith, c.from_le_bytes.ensures)
