-- Sets of bytes, by class. They take the place of litrs's digit closures and character tests.
-- Assumes nothing.
use Rattle.std.specs.Prelude.{ℕ, Bool, cond, ◌||◌, List, ltb, eqb, get_or, Option, Some, None}
use Rattle.parse.specs.Class.{class_of}
use Rattle.parse.specs.declared.SuffixRest.{SuffixRest}
use Rattle.parse.specs.declared.Blanks.{Blanks}

-- a digit below a base, or `_` (litrs's is_valid_digit)
unfoldable pub digit : ℕ → ℕ → Bool
digit base b = eqb (class_of b) 16 || ltb (class_of b) base

-- ASCII letters, digits, `_` and all above 127 (01, Suffix and digits: "a later ASCII character other than letter, digit or `_` is 39. Non-ASCII always
-- passes")
unfoldable pub suffix_rest : ℕ → Bool
suffix_rest b = eqb (class_of b) 20 || ltb (class_of b) 18

-- space, tab and LF (01, Escapes: a dropped line break drops "all following spaces, tabs and LFs")
unfoldable pub blank : ℕ → Bool
blank b = eqb (class_of b) 18

-- the sets as the code has them
abbrev pub in_suffix_rest : SuffixRest → ℕ → Bool
in_suffix_rest set = suffix_rest

abbrev pub in_blanks : Blanks → ℕ → Bool
in_blanks set = blank

-- a decimal digit, `0` to `9`
unfoldable pub dec_digit : ℕ → Bool
dec_digit b = ltb (class_of b) 10

-- litrs's hex_digit_value
unfoldable pub hex_digit_of : ℕ → Option ℕ
hex_digit_of b = cond (ltb (class_of b) 16) (Some (class_of b)) None

-- `e` or `E` stands at an offset (01, Integers: "a leading e or E"; Floats: an exponent's first byte)
-- 101 is `e`, 69 is `E`
unfoldable pub starts_e : List ℕ → ℕ → Bool
starts_e s at = eqb (get_or s at 0) 101 || eqb (get_or s at 0) 69
