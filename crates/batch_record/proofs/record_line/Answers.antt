-- `batch_record::record_line` meets its contract.
-- Assumes nothing.
use Rattle.batch_line.proofs.Laws as lines
use Rattle.batch_record.specs.Records.{operation_line, record_line, record_buffer}
use Rattle.batch_record.proofs.record_line.Goals as goal

pub returns : goal.returns
unfolding record_line record_buffer
returns c =
    let p = c.put_operation-n.ensures in
    let f = c.fill in
    let a = c.args in
    let e = f.ensures.1 in
    record { wrote = rw e at (lines.also {p = operation_line a.letter a.code a.text.now f.new.out} p.wrote.0 c.add.ensures); out_after = rw e at p.out_after }
