-- What litrs's `IntegerLit::value` returns at a type, over the type's largest value (01, Integers).
-- Assumes nothing.
use Rattle.std.specs.Prelude.{ℕ, ◌+◌, ◌*◌, cond, List, [], ◌∷◌, eqb, leb, Option, Some, None, Result, Ok, Err}
use Rattle.err.specs.Outcome.{Outcome, refused, accepted, none}
use Rattle.err.specs.Answer.{Answer}
pub use Rattle.err.specs.Answer.{returned, refusal}
use Rattle.err.specs.Numbers.{number_of}
use Rattle.err.specs.Reading.{place_of}
use Rattle.parse.specs.Class.{class_of}
use Rattle.integer.specs.Integer.{base_at, main_part, integer_read}
use Rattle.err.specs.declared.ParseError.{ParseError}

-- the number that digits of a base write after a number n already read; `_` is passed over
-- 95 is `_`
abbrev pub number_from : ℕ → ℕ → List ℕ → ℕ
number_from base n [] = n
number_from base n (b ∷ s) = cond (eqb b 95) (number_from base n s) (number_from base (n * base + class_of b) s)

-- "the digits' number"
unfoldable pub number : ℕ → List ℕ → ℕ
number base s = number_from base 0 s

-- "given exactly when at most the type's largest"
abbrev pub number_within : ℕ → ℕ → Option ℕ
number_within largest n = cond (leb n largest) (Some n) None

-- a value, or a refusal
abbrev pub Valued : Type 0
Valued = Answer ℕ

abbrev pub valued_of : Result ℕ ParseError → Valued
valued_of (Ok n) = returned n
valued_of (Err e) = refusal (number_of e.kind) (place_of e.span)

-- above the largest it is refused with 45
abbrev pub bounded : ℕ → ℕ → Valued
bounded largest n = cond (leb n largest) (returned n) (refusal 45 none)

-- a reading's own refusal comes through
abbrev pub of_reading : Outcome → Valued → Valued
of_reading (refused n p) v = refusal n p
of_reading (accepted k e vs) v = v

-- "The value, of entry 2's reading, is the digits' number"
unfoldable pub integer_lit_value : ℕ → List ℕ → Valued
integer_lit_value largest s = of_reading (integer_read s) (bounded largest (number (base_at s) (main_part s)))
