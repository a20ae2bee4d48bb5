-- `blocks::block_end`: what its loop keeps, and why it ends.
-- Assumes nothing.
use Rattle.std.proofs.Common.{◌≡◌, ◌+◌, ◌-◌, ◌≤◌, length, drop}
use Rattle.scan.specs.Run.{run}
use Rattle.blocks.proofs.block_end.Given as goal

-- the run from the start is what is passed and the run of the rest
abbrev pub invariant-loop-block : goal.invariant-loop-block
invariant-loop-block g l = (l.i ≤ length l.s) × (l.i + run (g.S.ByteSet.holds l.set) (drop l.i l.s) ≡ l.initial.i + run (g.S.ByteSet.holds l.set) (drop l.initial.i l.s))

abbrev pub decreases-loop-block : goal.decreases-loop-block
decreases-loop-block g l = length l.s - l.i
