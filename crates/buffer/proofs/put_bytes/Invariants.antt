-- `buffer::put_bytes`: what its loop keeps.
-- Assumes nothing.
use lib.ListN.{take}
use Rattle.buffer.specs.Buffer.{Wrote}
use Rattle.buffer.proofs.put_bytes.Given as goal

-- the first i bytes are written
abbrev pub invariant-loop-i : goal.invariant-loop-i
invariant-loop-i l = Wrote (take l.i l.piece) l.i l.fn.out l.out
