-- `scan::all_in`: what its loop keeps.
-- Assumes nothing.
use Rattle.std.proofs.Common.{◌≡◌}
use Rattle.scan.specs.Windows.{all_in}
use Rattle.scan.proofs.all_in.Given as goal

-- it has found of the bytes that it has seen whether they are all in the set
abbrev pub invariant-loop-b : goal.invariant-loop-b
invariant-loop-b g l = l.all ≡ all_in (g.S.ByteSet.holds l.set) l.at l.b-index l.s
