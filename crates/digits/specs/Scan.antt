-- The scan of decimal digits from an offset on; serves a contract between functions.
-- Assumes nothing.
use Rattle.std.specs.Prelude.{ℕ, ◌+◌, ◌≡◌, List, take, drop}
use Rattle.scan.specs.Run.{run}
use Rattle.parse.specs.Sets.{digit}
use Rattle.parse.specs.Digits.{digit_count}
use Rattle.parse.specs.declared.DigitRun.{DigitRun}

-- where the decimal digits and `_` from an offset on end, and how many digits there are, with those counted before
pub record ScanFrom (from before : ℕ) (s : List ℕ) (r : DigitRun) : Type 0 where
  pub end : r.end ≡ from + run (digit 10) (drop from s)
  pub count : r.digits ≡ before + digit_count 10 (take (run (digit 10) (drop from s)) (drop from s))
