-- `raw::measure_raw`: what its loop keeps, and why it ends.
-- Assumes nothing.
use Prim.Native.Nat.{◌-◌}
use lib.ListN.{length, take}
use Rattle.body.proofs.Bodies.{Passed}
use Rattle.raw.specs.Raw.{raw_step_of}
use Rattle.raw.proofs.measure_raw.Given as goal

-- what is passed stands for itself
abbrev pub invariant-loop-i : goal.invariant-loop-i
invariant-loop-i l = Passed (raw_step_of l.k l.h) l.s l.i (take l.i l.s)

abbrev pub decreases-loop-i : goal.decreases-loop-i
decreases-loop-i l = length l.s - l.i
