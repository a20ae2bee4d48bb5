-- `blocks::block_run`: what its loop keeps.
-- Assumes nothing.
use Rattle.blocks.proofs.Blocks.{Least}
use Rattle.blocks.proofs.block_run.Given as goal

-- m is the least place before j that stands in the way
abbrev pub invariant-loop-j : goal.invariant-loop-j
invariant-loop-j g l = Least (g.S.ByteSet.holds l.set) l.s 64 l.m l.j
