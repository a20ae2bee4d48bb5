-- `batch_record::put_keyed` meets its contract.
-- Assumes nothing.
use native.Mathlib.Omega.{arith}
use Rattle.batch_line.proofs.Laws as lines
use Rattle.batch_record.proofs.put_keyed.Goals as goal

pub returns-in-Ok : goal.returns-in-Ok
returns-in-Ok c =
    let r = c.put_literal-at.ensures in
    let n = c.add_counts.ensures in
    rw c.in-Ok.is (lines.also r.0 n.0, omega (arith, r.1, n.1))
