-- `body_plain::front_end`: what its loop keeps.
-- Assumes nothing.
use Rattle.std.proofs.Common.{◌≤◌, ◌-◌}
use Rattle.scan.specs.Run.{run}
use Rattle.body_plain.specs.Plain.{plain_byte}
use Rattle.body_plain.proofs.front_end.Given as goal

abbrev pub invariant-loop-k : goal.invariant-loop-k
invariant-loop-k l = (l.at ≤ l.last) × (l.at ≤ run (plain_byte l.k) l.s)

abbrev pub decreases-loop-k : goal.decreases-loop-k
decreases-loop-k l = l.last - l.at
