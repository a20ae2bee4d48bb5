-- Chapter Literal expressions: what a number literal is worth, before its suffix is judged and with no bound and no rounding (01: "a number
-- is worth its exact number").
-- Assumes nothing.
use Rattle.std.specs.Prelude.{Bool, cond, ◌&&◌, List, [], ◌∷◌, ◌++◌, ℕ, ◌+◌, ◌*◌, ◌-◌, eqb, leb, length, drop, get_or}
use Rattle.grammar.specs.Notation.{Class, byte, begins}
use Rattle.grammar.specs.Suffixes.{LOW, E}
use Rattle.grammar.specs.Numbers.{SIGN}
use Rattle.grammar.specs.Decimal.{Decimal}

-- ---- integers

-- a digit in any radix: `0` to `9`, `A` to `F`, `a` to `f`
-- 48 is `0`, 57 is `9`, 70 is `F`; 55 and 87 are 10 less than `A` and `a`
unfoldable pub digit_value : ℕ → ℕ
digit_value c = cond (leb c 57) (c - 48) (cond (leb c 70) (c - 55) (c - 87))

-- "Any underscores are removed from the string."
abbrev pub plain : List ℕ → List ℕ
plain [] = []
plain (c ∷ s) = cond (LOW c) (plain s) (c ∷ plain s)

-- "The string is converted .. as if by u128::from_str_radix with the chosen radix", after a number a that was read before
abbrev pub number_from : ℕ → ℕ → List ℕ → ℕ
number_from radix a [] = a
number_from radix a (c ∷ s) = number_from radix (a * radix + digit_value c) s

unfoldable pub number_in : ℕ → List ℕ → ℕ
number_in radix s = number_from radix 0 (plain s)

-- "An integer radix is chosen by inspecting the first two characters of the string": 2 for `0b`, 8 for `0o`, 16 for `0x`, "otherwise the radix is 10"
-- 48 is `0`, 98 is `b`, 111 is `o`, 120 is `x`
unfoldable pub radix_of : List ℕ → ℕ
radix_of s =
    cond (eqb (get_or s 0 0) 48 && eqb (get_or s 1 0) 98) 2
    (cond (eqb (get_or s 0 0) 48 && eqb (get_or s 1 0) 111) 8
    (cond (eqb (get_or s 0 0) 48 && eqb (get_or s 1 0) 120) 16
    10))

-- of the part before the suffix. "If the radix is not 10, the first two characters are removed from the string."
unfoldable pub integer_value : List ℕ → ℕ
integer_value part = number_in (radix_of part) (cond (eqb (radix_of part) 10) part (drop 2 part))

-- ---- floats

-- the bytes before the first one of a set, and those after it
abbrev pub before : Class → List ℕ → List ℕ
before f [] = []
before f (c ∷ s) = cond (f c) [] (c ∷ before f s)

abbrev pub after : Class → List ℕ → List ℕ
after f [] = []
after f (c ∷ s) = cond (f c) s (after f s)

-- the number of a mantissa's digits w . f times ten to the power of an exponent's digits, whose sign is given
abbrev pub scaled : List ℕ → List ℕ → Bool → List ℕ → Decimal
scaled w f negative ex =
    record {
      coef = number_in 10 (w ++ f);
      up = cond negative 0 (number_in 10 ex);
      down = cond negative (number_in 10 ex) 0 + length (plain f);
    }

-- an exponent: a sign or none, and digits
-- 45 is `-`
abbrev pub powered : List ℕ → List ℕ → List ℕ → Decimal
powered w f ex = scaled w f (begins (byte 45) ex) (cond (begins SIGN ex) (drop 1 ex) ex)

-- of the part before the suffix. "Any underscores are removed from the string. The string is converted .. as if by f64::from_str", but exactly:
-- digits, a period and digits or none, and after `e` or `E` the exponent
-- 46 is `.`
unfoldable pub float_value : List ℕ → Decimal
float_value part = powered (before (byte 46) (before E part)) (after (byte 46) (before E part)) (after E part)
