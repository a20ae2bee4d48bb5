-- `blocks::block_run` meets its contract.
-- Assumes nothing.
use Rattle.blocks.proofs.Blocks.{least_start, least_more, least_end}
use Rattle.blocks.proofs.block_run.Goals as goal

pub loop-j-init : goal.loop-j-init
loop-j-init g c = least_start _ _ _ c.requires

pub loop-j-preserved : goal.loop-j-preserved
loop-j-preserved g c =
    least_more _ _ _ c.requires _ _ _ _ c.loop-j.invariant c.loop-j-test.true c.place.ensures c.min-m.ensures

pub returns : goal.returns
returns g c = least_end _ _ _ c.requires _ _ c.loop-j.invariant c.loop-j-test.false
