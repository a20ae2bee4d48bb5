-- `digits::end_dec_digits`: what its loops keep, and why they end.
-- Assumes nothing.
use Prim.Native.Nat.{◌≤◌, ◌+◌, ◌-◌}
use mathlib.Core.Path.{◌≡◌}
use lib.ListN.{length, drop}
use Rattle.scan.specs.Run.{run}
use Rattle.scan.proofs.Counts.{tally}
use Rattle.parse.specs.Sets.{digit}
use Rattle.parse.specs.Digits.{is_digit}
use Rattle.digits.proofs.end_dec_digits.Given as goal

-- the run of the whole is what is passed and the run of the rest; so is its count
abbrev pub invariant-loop-bytes : goal.invariant-loop-bytes
invariant-loop-bytes l =
    (l.i ≤ length l.s) × (l.digits ≤ l.i) × (l.i + run (digit 10) (drop l.i l.s) ≡ run (digit 10) l.s) × (l.digits + tally (digit 10) (is_digit 10) (drop l.i l.s) ≡ tally (digit 10) (is_digit 10) l.s)

abbrev pub decreases-loop-bytes : goal.decreases-loop-bytes
decreases-loop-bytes l = length l.s - l.i
