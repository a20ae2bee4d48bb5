-- `raw::raw_end`: what its loop keeps, and why it ends.
-- Assumes nothing.
use mathlib.Core.Path.{◌≡◌}
use Prim.Native.Nat.{◌≤◌, ◌+◌, ◌-◌}
use lib.ListN.{length, drop}
use Rattle.raw.specs.Scan.{raw_run}
use Rattle.raw.proofs.raw_end.Given as goal

-- the way from the start is what is passed and the way that is left
abbrev pub invariant-loop-i : goal.invariant-loop-i
invariant-loop-i l = (l.i ≤ length l.s) × (l.i + raw_run l.k l.h l.last (drop l.i l.s) ≡ l.from + raw_run l.k l.h l.last (drop l.from l.s))

abbrev pub decreases-loop-i : goal.decreases-loop-i
decreases-loop-i l = length l.s - l.i
