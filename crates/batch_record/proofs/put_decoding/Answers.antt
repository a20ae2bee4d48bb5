-- `batch_record::put_decoding` meets its contract.
-- Assumes nothing.
use mathlib.Core.Path.{sym}
use native.Mathlib.Omega.{arith}
use Rattle.batch_line.proofs.Laws as lines
use Rattle.batch_record.specs.Records.{decoding_line}
use Rattle.batch_record.proofs.Laws as laws
use Rattle.batch_record.proofs.put_decoding.Goals as goal

pub returns-in-Err : goal.returns-in-Err
unfolding decoding_line
returns-in-Err c =
    let d = rw c.from.ensures at c.in-Err.ensures in
    let p = c.put_refused.ensures in
    record { wrote = (rw (← d.answer, ← d.out_after) p.0, omega (arith, p.1)); out_after = d.out_after }

pub add_written-requires : goal.add_written-requires
add_written-requires c = omega (arith, laws.decoded_fits _ _ _ (sym c.in-Ok.ensures.answer), c.put_ok-at.ensures.1, c.requires)

pub returns-in-Ok : goal.returns-in-Ok
unfolding decoding_line
returns-in-Ok c =
    let d = rw c.from.ensures at c.in-Ok.ensures in
    let p = c.put_ok-at.ensures in
    let q = c.add_written.ensures in
    record {
      wrote = (rw (← d.answer, ← d.out_after) (lines.also p.0 q.0), omega (arith, p.1, q.1, laws.decoded_fits _ _ _ (sym d.answer)));
      out_after = d.out_after;
    }
