-- The counts of digits within `float`; they serve contracts between functions.
-- Assumes nothing.
use Rattle.std.specs.Prelude.{ℕ, ◌≤◌, ◌≡◌, List, length, Result, Ok, Err}
use Rattle.err.specs.Counts.{Counts, no_counts, counts_of}
use Rattle.err.specs.declared.FloatLit.{FloatLit}
use Rattle.err.specs.declared.Literal.TheVariants as literal
use Rattle.err.specs.declared.ParseError.{ParseError}
use Rattle.scan.specs.Part.{part}
use Rattle.parse.specs.Digits.{digit_count}
use Rattle.parse.specs.declared.DigitRun.{DigitRun}

-- the counts that an answer holds
abbrev pub parsed_counts : Result FloatLit ParseError → Counts
parsed_counts (Ok l) = counts_of (Ok (literal.Float l))
parsed_counts (Err e) = no_counts

-- a part of a float from one offset to another: where it ends, inside the text, and how many digits it has
pub record PartScan (from to : ℕ) (s : List ℕ) (r : DigitRun) : Type 0 where
  pub end : r.end ≡ to
  pub inside : r.end ≤ length s
  pub count : r.digits ≡ digit_count 10 (part from to s)
