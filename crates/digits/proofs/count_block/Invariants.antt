-- `digits::count_block`: what its loop keeps.
-- Assumes nothing.
use Rattle.std.proofs.Common.{◌≡◌, ◌+◌, ◌≤◌, drop}
use Rattle.scan.specs.Run.{count, count_not}
use Rattle.parse.specs.Sets.{digit}
use Rattle.parse.specs.Digits.{is_digit}
use Rattle.digits.proofs.count_block.Given as goal

-- the counts so far and those of the rest are those of the whole
abbrev pub invariant-loop-b : goal.invariant-loop-b
invariant-loop-b l =
    (l.others ≤ l.b-index) × (l.digits ≤ l.b-index) × (l.others + count_not (digit 10) (drop l.b-index l.s) ≡ count_not (digit 10) l.s)
    × (l.digits + count (is_digit 10) (drop l.b-index l.s) ≡ count (is_digit 10) l.s)
