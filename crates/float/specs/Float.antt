-- What litrs's `FloatLit::parse` returns (01, Floats), in its order of tests.
-- Assumes nothing.
use Rattle.std.specs.Prelude.{ℕ, ◌+◌, ◌-◌, Bool, cond, ◌&&◌, ◌||◌, List, [], ◌∷◌, eqb, ltb, length, get_or, take, drop, Result, Ok, Err}
use Rattle.err.specs.Outcome.{Outcome, refused, accepted, none, between, ends}
use Rattle.err.specs.Reading.{outcome_of, refusal_of}
use Rattle.err.specs.declared.FloatLit.{FloatLit}
use Rattle.err.specs.declared.Literal.TheVariants as literal
use Rattle.err.specs.declared.ParseError.{ParseError}
use Rattle.scan.specs.Run.{run}
use Rattle.scan.specs.Sets.{only}
use Rattle.parse.specs.Sets.{digit, dec_digit, starts_e}
use Rattle.suffix.specs.Suffix.{suffix_fault}

-- where digits and `_` from an offset on end
abbrev pub digits_end : List ℕ → ℕ → ℕ
digits_end s at = at + run (digit 10) (drop at s)

-- a literal with neither fraction nor exponent is refused with 40
unfoldable pub not_integer : ℕ → ℕ → ℕ → Outcome
not_integer i f e = cond (eqb i e) (refused 40 none) (accepted 3 e (ends (record { whole = i; fraction = f; end = e })))

-- "Suffix faults span to the end."
unfoldable pub after_number : List ℕ → ℕ → ℕ → ℕ → Outcome
after_number s i f e =
    cond (eqb (suffix_fault (drop e s)) 0) (not_integer i f e)
    (refused (suffix_fault (drop e s)) (between e (length s)))

-- "an exponent has a sign or none": where the digits of one that starts at an offset start
-- 45 is `-`, 43 is `+`
unfoldable pub sign_end : List ℕ → ℕ → ℕ
sign_end s at = cond (eqb (get_or s (at + 1) 0) 45 || eqb (get_or s (at + 1) 0) 43) (at + 1 + 1) (at + 1)

-- "and at least one digit, `_` allowed": there is none, only `_`, from one offset to another
-- 95 is `_`
unfoldable pub no_digit : List ℕ → ℕ → ℕ → Bool
no_digit s from end = eqb (run (only 95) (take (end - from) (drop from s))) (end - from)

-- where the exponent of a fraction that ends at an offset ends: there, where no `e` follows, or after the exponent's digits
unfoldable pub exponent_end : List ℕ → ℕ → ℕ
exponent_end s f = cond (starts_e s f) (digits_end s (sign_end s f)) f

-- after the fraction: an exponent without a digit is refused with 7
unfoldable pub after_fraction : List ℕ → ℕ → ℕ → Outcome
after_fraction s i f =
    cond (starts_e s f)
    (cond (no_digit s (sign_end s f) (digits_end s (sign_end s f)))
    (refused 7 (between f (digits_end s (sign_end s f))))
    (after_number s i f (digits_end s (sign_end s f))))
    (after_number s i f f)

-- "Fraction not starting with `_`; a bare period ends the text": of digits from one offset, after the period, to another
-- 95 is `_`
unfoldable pub bad_fraction : List ℕ → ℕ → ℕ → Bool
bad_fraction s from end = eqb (get_or s from 0) 95 || (eqb end from && ltb from (length s))

-- where the fraction of an integer part that ends at an offset ends: there, where no period follows, or after the period's digits
-- 46 is `.`
unfoldable pub fraction_end : List ℕ → ℕ → ℕ
fraction_end s i = cond (eqb (get_or s i 0) 46) (digits_end s (i + 1)) i

-- after the integer part: what may not follow a period is refused with 2, and the span is its first byte
-- 46 is `.`
unfoldable pub after_integer : List ℕ → ℕ → Outcome
after_integer s i =
    cond (eqb (get_or s i 0) 46)
    (cond (bad_fraction s (i + 1) (digits_end s (i + 1)))
    (refused 2 (between (i + 1) (i + 1 + 1)))
    (after_fraction s i (digits_end s (i + 1))))
    (after_fraction s i i)

-- of any text: the empty text is refused with 1, a first byte other than a decimal digit with 4
unfoldable pub float_read : List ℕ → Outcome
float_read [] = refused 1 none
float_read (b ∷ s) = cond (dec_digit b) (after_integer (b ∷ s) (run (digit 10) (b ∷ s))) (refused 4 (between 0 1))

-- document 01's numbers and values for each case
abbrev pub parsed_of : Result FloatLit ParseError → Outcome
parsed_of (Ok l) = outcome_of (Ok (literal.Float l))
parsed_of (Err e) = refusal_of e
