-- What the keyed entry returns (02, d: "A keyed entry beside entry 0 uses them and reads as entry 0 does otherwise").
-- Assumes nothing.
use Rattle.std.specs.Prelude.{ℕ, ◌+◌, Bool, false, cond, List, ltb, Result, Ok, Err}
use Rattle.err.specs.Outcome.{Outcome, refused, none}
use Rattle.err.specs.Reading.{outcome_of}
use Rattle.err.specs.Counts.{Counts, no_counts, integer_count, float_counts, counts_of}
use Rattle.err_added.specs.Numbers.{added_number}
use Rattle.digits.specs.Counts.{digit_counts}
use Rattle.literal.specs.Readings.{read_at}
use Rattle.err.specs.declared.Literal.{Literal}
use Rattle.keyed.specs.declared.KeyedError.{KeyedError}
use Rattle.keyed.specs.declared.KeyedError.TheVariants.{Parse, Added}

-- "with over 40 digits, or .. with over 40 in whole and fractional part together"
abbrev pub overlong : Counts → Bool
overlong no_counts = false
overlong (integer_count n) = ltb 40 n
overlong (float_counts c) = ltb 40 (c.whole + c.fraction)

-- "It answers 53 for" such a number that entry 0 accepts, "and reads as entry 0 does otherwise"
unfoldable pub keyed_at : List ℕ → Outcome
keyed_at s = cond (overlong (digit_counts s (read_at 0 s))) (refused 53 none) (read_at 0 s)

-- the documents' numbers and values for each case
abbrev pub keyed_of : Result Literal KeyedError → Outcome
keyed_of (Ok l) = outcome_of (Ok l)
keyed_of (Err (Parse e)) = outcome_of (Err e)
keyed_of (Err (Added k)) = refused (added_number k) none

-- the counts that it holds
abbrev pub keyed_counts : Result Literal KeyedError → Counts
keyed_counts (Ok l) = counts_of (Ok l)
keyed_counts (Err e) = no_counts
