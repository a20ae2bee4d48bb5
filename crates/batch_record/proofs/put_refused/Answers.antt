-- `batch_record::put_refused` meets its contract.
-- Assumes nothing.
use Rattle.batch_line.proofs.Laws as lines
use Rattle.batch_record.specs.Records.{refused_line}
use borrow.Author.Rules.{rules}
use Rattle.batch_record.proofs.put_refused.Goals as goal

pub returns : goal.returns
unfolding refused_line
returns c = (lines.also c.put_refusal-at.ensures.0 c.add_kept.ensures.0, search rules)
