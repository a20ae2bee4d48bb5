-- How many digits the parts of a number have (02, d), by what its reading says of the parts.
-- Assumes nothing.
use Rattle.std.specs.Prelude.{ℕ, List}
use Rattle.err.specs.Outcome.{Values, truth, digits, ends, value, decoded, Outcome, refused, accepted}
use Rattle.err.specs.Counts.{Counts, no_counts, integer_count, float_counts}
use Rattle.scan.specs.Part.{part}
use Rattle.parse.specs.Digits.{digit_count}

-- "integer, fraction and exponent readings hand those counts up": how many bytes of an integer's main part are digits of its base; how many of each of a
-- float's three parts are decimal digits. The prefix stands before the main part, and `_`, the period, `e` and the sign are no digits.
abbrev pub part_counts : List ℕ → Values → Counts
part_counts s (truth t) = no_counts
part_counts s (digits d) = integer_count (digit_count d.base (part d.start d.end s))
part_counts s (ends z) =
    float_counts
    (record {
      whole = digit_count 10 (part 0 z.whole s);
      fraction = digit_count 10 (part z.whole z.fraction s);
      exponent = digit_count 10 (part z.fraction z.end s);
    })
part_counts s (value v) = no_counts
part_counts s (decoded v) = no_counts

-- of a text and its reading
abbrev pub digit_counts : List ℕ → Outcome → Counts
digit_counts s (refused n p) = no_counts
digit_counts s (accepted k e vs) = part_counts s vs
