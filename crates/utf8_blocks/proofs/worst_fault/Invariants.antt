-- `utf8_blocks::worst_fault`: what its loop keeps.
-- Assumes nothing.
use mathlib.Core.Path.{◌≡◌}
use Prim.Native.Nat.{◌-◌, ◌≤◌}
use lib.ListN.{get_or, drop}
use Rattle.utf8_blocks.specs.Faults.{worst_from, worst_after_three}
use Rattle.utf8_blocks.proofs.worst_fault.Given as goal

-- what is left, from the worst so far, decides
abbrev pub invariant-loop-i : goal.invariant-loop-i
invariant-loop-i l = (3 ≤ l.i) × (worst_from l.worst (get_or l.s (l.i - 3) 0) (get_or l.s (l.i - 2) 0) (get_or l.s (l.i - 1) 0) (drop l.i l.s) ≡ worst_after_three l.s)
