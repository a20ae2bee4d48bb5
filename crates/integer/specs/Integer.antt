-- What litrs's `IntegerLit::parse` returns (01, Integers), in its order of tests.
-- Assumes nothing.
use Rattle.std.specs.Prelude.{ℕ, ◌+◌, ◌≤◌, ◌≡◌, cond, List, [], ◌∷◌, eqb, length, get_or, take, drop, Result, Ok, Err}
use Rattle.err.specs.Outcome.{Outcome, refused, accepted, none, between, digits}
use Rattle.err.specs.Reading.{base_of, outcome_of, refusal_of}
use Rattle.err.specs.Counts.{Counts, no_counts, counts_of}
use Rattle.err.specs.declared.IntegerLit.{IntegerLit}
use Rattle.err.specs.declared.Literal.TheVariants as literal
use Rattle.err.specs.declared.ParseError.{ParseError}
use Rattle.scan.specs.Run.{run}
use Rattle.scan.specs.Sets.{only}
use Rattle.scan.specs.Part.{part}
use Rattle.parse.specs.Sets.{digit, dec_digit, starts_e}
use Rattle.parse.specs.Digits.{digit_count}
use Rattle.suffix.specs.Suffix.{suffix_fault}

-- "Prefixes are `0b`, `0o`, `0x`, lower case only": the base that the first two bytes announce
-- 48 is `0`, 98 is `b`, 111 is `o`, 120 is `x`
unfoldable pub base_at : List ℕ → ℕ
base_at s =
    cond (eqb (get_or s 0 0) 48)
    (cond (eqb (get_or s 1 0) 98) 2
    (cond (eqb (get_or s 1 0) 111) 8
    (cond (eqb (get_or s 1 0) 120) 16 10)))
    10

-- the length of a base's prefix
unfoldable pub prefix_len : ℕ → ℕ
prefix_len base = cond (eqb base 10) 0 2

-- how many bytes of digits and `_` follow the prefix
unfoldable pub main_len : List ℕ → ℕ
main_len s = run (digit (base_at s)) (drop (prefix_len (base_at s)) s)

-- the digits and `_`
unfoldable pub main_part : List ℕ → List ℕ
main_part s = take (main_len s) (drop (prefix_len (base_at s)) s)

-- "Suffix is checked first (a digit too big for the base is 5, other faults span to the end)"
unfoldable pub after_suffix : List ℕ → ℕ → Outcome → Outcome
after_suffix s e next =
    cond (eqb (suffix_fault (drop e s)) 0) next
    (cond (dec_digit (get_or s e 0))
    (refused 5 (between e (e + 1)))
    (refused (suffix_fault (drop e s)) (between e (length s))))

-- "then a leading e or E, then 6". "The span of 41 leaves out the prefix length, a slip of litrs that is kept."
-- 95 is `_`
unfoldable pub after_digits : List ℕ → ℕ → ℕ → ℕ → Outcome → Outcome
after_digits s start e n next =
    cond (starts_e s e)
    (refused 41 (between n (n + 1)))
    (cond (eqb (run (only 95) (take n (drop start s))) n)
    (refused 6 (between start e))
    next)

-- of a text with n bytes of digits and `_` from an offset on
unfoldable pub integer_of : List ℕ → ℕ → ℕ → ℕ → Outcome
integer_of s base start n =
    after_suffix s (start + n)
    (after_digits s start (start + n) n
    (accepted 2 (start + n) (digits (record { base = base; start = start; end = start + n }))))

-- of a text whose first byte is a decimal digit
unfoldable pub integer_at : List ℕ → Outcome
integer_at s = integer_of s (base_at s) (prefix_len (base_at s)) (main_len s)

-- of any text: the empty text is refused with 1, a first byte other than a decimal digit with 4
unfoldable pub integer_read : List ℕ → Outcome
integer_read [] = refused 1 none
integer_read (b ∷ s) = cond (dec_digit b) (integer_at (b ∷ s)) (refused 4 (between 0 1))

-- document 01's numbers and values for each case
abbrev pub parsed_of : Result IntegerLit ParseError → Outcome
parsed_of (Ok l) = outcome_of (Ok (literal.Integer l))
parsed_of (Err e) = refusal_of e

-- the counts that it holds
abbrev pub parsed_counts : Result IntegerLit ParseError → Counts
parsed_counts (Ok l) = counts_of (Ok (literal.Integer l))
parsed_counts (Err e) = no_counts

-- what the scan of base and digits finds
pub record Scanned (l : IntegerLit) (s : List ℕ) : Type 0 where
  pub base : base_of l.base ≡ base_at s
  pub start : l.start_main_part ≡ prefix_len (base_at s)
  pub end : l.end_main_part ≡ l.start_main_part + main_len s
  pub fits : l.end_main_part ≤ length s
  pub count : l.digits ≡ digit_count (base_of l.base) (part l.start_main_part l.end_main_part s)
