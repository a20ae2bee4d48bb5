-- How many digits the parts of a number have: what readings carry since request d of document 02. The counts stand beside what litrs itself returns
-- (`outcome_of`), which has none.
-- Assumes nothing.
use Rattle.std.specs.Prelude.{ℕ, Ok, Err}
use Rattle.err.specs.Outcome.{Outcome, refused, accepted}
use Rattle.err.specs.Reading.{Reading}
use Rattle.err.specs.declared.Literal.TheVariants as literal

-- of a float: "in whole and fractional part", and in the exponent
pub record FloatCounts : Type 0 where
  pub whole : ℕ
  pub fraction : ℕ
  pub exponent : ℕ

-- 02, d: "integer, fraction and exponent readings hand those counts up". A reading of another kind has none, nor has a refusal.
pub data Counts : Type 0 where
  no_counts : Counts
  integer_count : ℕ → Counts
  float_counts : FloatCounts → Counts

-- the counts that a reading holds
abbrev pub counts_of : Reading → Counts
counts_of (Err e) = no_counts
counts_of (Ok (literal.Bool l)) = no_counts
counts_of (Ok (literal.Integer l)) = integer_count l.digits
counts_of (Ok (literal.Float l)) = float_counts (record { whole = l.integer_digits; fraction = l.fractional_digits; exponent = l.exponent_digits })
counts_of (Ok (literal.Char l)) = no_counts
counts_of (Ok (literal.String l)) = no_counts
counts_of (Ok (literal.Byte l)) = no_counts
counts_of (Ok (literal.ByteString l)) = no_counts
counts_of (Ok (literal.CString l)) = no_counts

-- these counts where an outcome is accepted, none where it is refused; serves contracts between functions
abbrev pub kept_counts : Counts → Outcome → Counts
kept_counts c (refused n p) = no_counts
kept_counts c (accepted k e vs) = c
