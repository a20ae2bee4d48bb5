-- `batch_record::program_line` meets its contract.
-- Assumes nothing.
use Rattle.batch_line.proofs.Laws as lines
use Rattle.batch_record.specs.Program.{program_line}
use Rattle.batch_record.proofs.program_line.Goals as goal

pub returns : goal.returns
unfolding program_line
returns c =
    let p = c.put_form-end.ensures in
    record { wrote = rw c.requires.0 at (lines.also p.wrote.0 c.add.ensures); out_after = p.out_after }
