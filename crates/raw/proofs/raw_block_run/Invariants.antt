-- `raw::raw_block_run`: what its loop keeps.
-- Assumes nothing.
use Rattle.scan.specs.Sets.{only}
use Rattle.blocks.proofs.Blocks.{Least}
use Rattle.raw.specs.Scan.{flags}
use Rattle.raw.proofs.raw_block_run.Given as goal

-- m is the least place before j that stands in the way
abbrev pub invariant-loop-j : goal.invariant-loop-j
invariant-loop-j l = Least (only 1) (flags l.k l.last l.s l.far) 64 l.m l.j
