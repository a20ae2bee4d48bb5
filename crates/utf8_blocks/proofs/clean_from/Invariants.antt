-- `utf8_blocks::clean_from`: what its loops keep, and why they end.
-- Assumes nothing.
use mathlib.Core.Path.{◌≡◌}
use Prim.Native.Nat.{◌-◌, ◌≤◌}
use lib.ListN.{length, drop}
use Rattle.utf8_blocks.specs.Faults.{clean_after_three}
use Rattle.utf8_blocks.proofs.clean_from.Given as goal

-- the bytes from `at` on, with the three before them, decide
abbrev pub invariant-loop-block : goal.invariant-loop-block
invariant-loop-block l = (3 ≤ l.at) × (l.at ≤ length l.text) × (clean_after_three (drop (l.at - 3) l.text) ≡ clean_after_three (drop (l.from - 3) l.text))

abbrev pub decreases-loop-block : goal.decreases-loop-block
decreases-loop-block l = length l.text - l.at
