-- Number literals by scanning: prefix, digits as far as they go, suffix. `Integers` and `Floats` show that this accepts what the productions have.
-- Assumes nothing.
use mathlib.Core.Bool.{Bool, true, false, cond, not, ◌&&◌, ◌||◌}
use mathlib.Core.List.{List, [], ◌∷◌}
use Prim.Native.Nat.{ℕ}
use lib.Dec.{eqb}
use lib.ListN.{drop}
use Rattle.grammar.specs.Notation.{Class, all, begins, byte, ◌∪◌}
use Rattle.grammar.specs.Suffixes.{DEC_DIGIT, LOW, E, XID_START, XID_CONTINUE}
use Rattle.grammar.specs.Numbers.{BIN_DIGIT, OCT_DIGIT, HEX_DIGIT, SIGN}
use Rattle.grammar.specs.Decimal.{Decimal}
use Rattle.grammar.specs.Values.{scaled}

abbrev pub take_while : Class → List ℕ → List ℕ
take_while f [] = []
take_while f (c ∷ s) = cond (f c) (c ∷ take_while f s) []

abbrev pub drop_while : Class → List ℕ → List ℕ
drop_while f [] = []
drop_while f (c ∷ s) = cond (f c) (drop_while f s) (c ∷ s)

abbrev pub any : Class → List ℕ → Bool
any f [] = false
any f (c ∷ s) = f c || any f s

abbrev pub empty : List ℕ → Bool
empty [] = true
empty (c ∷ s) = false

-- empty, or an identifier
abbrev pub suffix_ok : List ℕ → Bool
suffix_ok [] = true
suffix_ok (c ∷ s) = not (LOW c && empty s) && ((XID_START ∪ LOW) c && all XID_CONTINUE s)

-- digits of the class d and underscores, with a digit among them, then a suffix that does not begin with e
abbrev pub digits_ok : Class → List ℕ → Bool
digits_ok d t = any d (take_while (d ∪ LOW) t) && (suffix_ok (drop_while (d ∪ LOW) t) && not (begins E (drop_while (d ∪ LOW) t)))

-- the text starts with 0 and c
abbrev pub prefixed : ℕ → List ℕ → Bool
prefixed c [] = false
prefixed c (a ∷ []) = false
prefixed c (a ∷ b ∷ s) = eqb a 48 && eqb b c

unfoldable pub integer_ok : List ℕ → Bool
integer_ok s =
    cond (prefixed 98 s) (digits_ok BIN_DIGIT (drop 2 s))
    (cond (prefixed 111 s) (digits_ok OCT_DIGIT (drop 2 s))
    (cond (prefixed 120 s) (digits_ok HEX_DIGIT (drop 2 s))
    (begins DEC_DIGIT s && digits_ok DEC_DIGIT s)))

-- the part before the suffix, and the suffix
unfoldable pub integer_part : List ℕ → List ℕ
integer_part s =
    cond (prefixed 98 s) (48 ∷ 98 ∷ take_while (BIN_DIGIT ∪ LOW) (drop 2 s))
    (cond (prefixed 111 s) (48 ∷ 111 ∷ take_while (OCT_DIGIT ∪ LOW) (drop 2 s))
    (cond (prefixed 120 s) (48 ∷ 120 ∷ take_while (HEX_DIGIT ∪ LOW) (drop 2 s))
    (take_while (DEC_DIGIT ∪ LOW) s)))

unfoldable pub integer_suffix : List ℕ → List ℕ
integer_suffix s =
    cond (prefixed 98 s) (drop_while (BIN_DIGIT ∪ LOW) (drop 2 s))
    (cond (prefixed 111 s) (drop_while (OCT_DIGIT ∪ LOW) (drop 2 s))
    (cond (prefixed 120 s) (drop_while (HEX_DIGIT ∪ LOW) (drop 2 s))
    (drop_while (DEC_DIGIT ∪ LOW) s)))

-- ---- floats

pub record Parts : Type 0 where
  pub ok : Bool
  pub whole : List ℕ
  pub fraction : List ℕ
  pub negative : Bool
  pub exponent : List ℕ
  pub suffix : List ℕ

-- their exact value
abbrev pub decimal_of : Parts → Decimal
decimal_of p = scaled p.whole p.fraction p.negative p.exponent

abbrev pub Run : Class
Run = DEC_DIGIT ∪ LOW

-- after the e and the sign
abbrev pub after_sign : List ℕ → List ℕ → Bool → List ℕ → Parts
after_sign w f n r =
    record {
      ok = any DEC_DIGIT (take_while Run r) && suffix_ok (drop_while Run r);
      whole = w;
      fraction = f;
      negative = n;
      exponent = take_while Run r;
      suffix = drop_while Run r;
    }

-- after the e
abbrev pub after_e : List ℕ → List ℕ → List ℕ → Parts
after_e w f r = cond (begins SIGN r) (after_sign w f (begins (byte 45) r) (drop 1 r)) (after_sign w f false r)

-- no exponent: fine where there was a period
abbrev pub without : Bool → List ℕ → List ℕ → List ℕ → Parts
without p w f r = record { ok = p && suffix_ok r; whole = w; fraction = f; negative = false; exponent = []; suffix = r }

abbrev pub after_fraction : Bool → List ℕ → List ℕ → List ℕ → Parts
after_fraction p w f r = cond (begins E r) (after_e w f (drop 1 r)) (without p w f r)

-- after the period: digits, not starting with `_`; or the end
abbrev pub after_point : List ℕ → List ℕ → Parts
after_point w r =
    cond (begins DEC_DIGIT r)
    (after_fraction true w (take_while Run r) (drop_while Run r))
    (record { ok = empty r; whole = w; fraction = []; negative = false; exponent = []; suffix = r })

abbrev pub after_whole : List ℕ → List ℕ → Parts
after_whole w r = cond (begins (byte 46) r) (after_point w (drop 1 r)) (after_fraction false w [] r)

unfoldable pub float_parts : List ℕ → Parts
float_parts s = after_whole (take_while Run s) (drop_while Run s)

unfoldable pub float_ok : List ℕ → Bool
float_ok s = begins DEC_DIGIT s && (float_parts s).ok
