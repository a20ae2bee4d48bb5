-- `parse::digit_run`: what its loop keeps.
-- Assumes nothing.
use Rattle.std.proofs.Common.{◌≡◌, ◌+◌, ◌≤◌, drop}
use Rattle.scan.specs.Run.{run}
use Rattle.scan.proofs.Counts.{tally}
use Rattle.parse.specs.Sets.{digit}
use Rattle.parse.specs.Digits.{is_digit}
use Rattle.parse.proofs.digit_run.Given as goal

-- the run of the whole is what is passed and the run of the rest; so is its count
abbrev pub invariant-loop-i : goal.invariant-loop-i
invariant-loop-i l =
    (l.digits ≤ l.i) × (l.i + run (digit l.base) (drop l.i l.s) ≡ run (digit l.base) l.s)
    × (l.digits + tally (digit l.base) (is_digit l.base) (drop l.i l.s) ≡ tally (digit l.base) (is_digit l.base) l.s)
