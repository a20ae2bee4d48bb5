-- `batch_record::put_settling` meets its contract.
-- Assumes nothing.
use mathlib.Core.Path.{sym}
use native.Mathlib.Omega.{arith}
use Rattle.batch_line.proofs.Laws as lines
use Rattle.batch_record.specs.Records.{settling_line}
use Rattle.batch_record.proofs.Laws as laws
use Rattle.batch_record.proofs.put_settling.Goals as goal

pub returns-in-Err : goal.returns-in-Err
unfolding settling_line
returns-in-Err c =
    let d = c.in-Err.ensures in
    let p = c.put_refused.ensures in
    record { wrote = (rw (← d.answer, ← d.out_after) p.0, omega (arith, p.1)); out_after = d.out_after }

pub add_written-requires : goal.add_written-requires
add_written-requires c = omega (arith, laws.settled_fits _ _ (sym c.in-Ok.ensures.answer), c.put_kind-at.ensures.1, c.requires)

pub returns-in-Ok : goal.returns-in-Ok
unfolding settling_line
returns-in-Ok c =
    let d = c.in-Ok.ensures in
    let p = c.put_kind-at.ensures in
    let q = c.add_written.ensures in
    record {
      wrote = (
        rw (← d.answer, ← d.out_after, ← c.code.ensures, ← c.from.ensures) (lines.also p.0 q.0),
        omega (arith, p.1, q.1, laws.settled_fits _ _ (sym d.answer)),
      );
      out_after = d.out_after;
    }
