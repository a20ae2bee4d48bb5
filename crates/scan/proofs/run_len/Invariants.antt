-- `scan::run_len`: what its loops keep, and why they end.
-- Assumes nothing.
use Prim.Native.Nat.{◌≤◌, ◌+◌, ◌-◌}
use mathlib.Core.Path.{◌≡◌}
use lib.ListN.{length, drop}
use Rattle.scan.specs.Run.{run}
use Rattle.scan.proofs.run_len.Given as goal

-- the run of the whole is what is passed and the run of the rest
abbrev pub invariant-loop-i : goal.invariant-loop-i
invariant-loop-i g l = let p = g.S.ByteSet.holds l.set in (l.i ≤ length l.s) × (l.i + run p (drop l.i l.s) ≡ run p l.s)

abbrev pub decreases-loop-i : goal.decreases-loop-i
decreases-loop-i g l = length l.s - l.i
