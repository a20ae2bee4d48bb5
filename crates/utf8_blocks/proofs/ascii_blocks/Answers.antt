-- `utf8_blocks::ascii_blocks` meets its contract.
-- Assumes nothing.
use borrow.Author.Rules.{rules}
use Rattle.utf8_blocks.proofs.HighBytes.{block_passed}
use Rattle.utf8_blocks.proofs.ascii_blocks.Goals as goal

pub loop-block-preserved : goal.loop-block-preserved
loop-block-preserved g c =
    let v = c.loop-block.invariant in
    block_passed c.args.text.now c.loop-block.rest.now c.in-Some.after.now g.row.N (search rules) v.0 v.1 (search rules) (search rules) v.2
