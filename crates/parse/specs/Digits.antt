-- The scan of digits: where they end, and how many there are.
-- Assumes nothing.
use Rattle.std.specs.Prelude.{ℕ, ◌≡◌, Bool, List, ltb, take}
use Rattle.scan.specs.Run.{run, count}
use Rattle.parse.specs.Class.{class_of}
use Rattle.parse.specs.Sets.{digit}
use Rattle.parse.specs.declared.DigitRun.{DigitRun}

-- a digit of a base; `digit` takes `_` too. `_` is no digit of a base up to 16
unfoldable pub is_digit : ℕ → ℕ → Bool
is_digit base b = ltb (class_of b) base

-- 02, d: "how many bytes were digits"
unfoldable pub digit_count : ℕ → List ℕ → ℕ
digit_count base s = count (is_digit base) s

-- 02, d: "The digit scan shall say how many bytes were digits and not only where they end", for the run of digits of a base and `_` at the front of a text
pub record DigitScan (base : ℕ) (s : List ℕ) (r : DigitRun) : Type 0 where
  pub end : r.end ≡ run (digit base) s
  pub count : r.digits ≡ digit_count base (take (run (digit base) s) s)
