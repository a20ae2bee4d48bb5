-- `digits::dec_digits_from`: what its loop keeps.
-- Assumes nothing.
use Rattle.std.proofs.Common.{◌≡◌, ◌+◌, ◌≤◌, drop}
use Rattle.scan.specs.Run.{run}
use Rattle.scan.proofs.Counts.{tally}
use Rattle.parse.specs.Sets.{digit}
use Rattle.parse.specs.Digits.{is_digit}
use Rattle.digits.proofs.dec_digits_from.Given as goal

-- the run from `i` ends where the run from the start does, and the counts are the same
abbrev pub invariant-loop-i : goal.invariant-loop-i
invariant-loop-i l =
    let rest = drop l.from l.s in
    (l.digits ≤ l.from + l.i) × (l.i + run (digit 10) (drop l.i rest) ≡ run (digit 10) rest)
    × (l.digits + tally (digit 10) (is_digit 10) (drop l.i rest) ≡ l.before + tally (digit 10) (is_digit 10) rest)
