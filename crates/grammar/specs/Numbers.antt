-- Chapter Tokens, "Number literals", production by production. The part of a number before its suffix is the longest that its production
-- allows: the chapter does not say so, and without it `1_x` would have two readings.
-- Assumes nothing.
use Rattle.std.specs.Prelude.{◌⊎◌, Bool, false, not, ◌&&◌, List, [], ◌∷◌, ℕ}
use Rattle.grammar.specs.Notation.{Lang, Class, range, byte, ◌∪◌, begins, one, many, text, ◌·◌, ◌or◌, opt, Followed, Longest}
use Rattle.grammar.specs.Suffixes.{DEC_DIGIT, LOW, E, XID_START, SUFFIX, SUFFIX_NO_E}

-- BIN_DIGIT : [0-1]
-- 48 is `0`, 49 is `1`
unfoldable pub BIN_DIGIT : Class
BIN_DIGIT = range 48 49

-- OCT_DIGIT : [0-7]
-- 48 is `0`, 55 is `7`
unfoldable pub OCT_DIGIT : Class
OCT_DIGIT = range 48 55

-- HEX_DIGIT : [0-9 a-f A-F]
-- 48 is `0`, 57 is `9`, 97 is `a`, 102 is `f`, 65 is `A`, 70 is `F`
unfoldable pub HEX_DIGIT : Class
HEX_DIGIT = range 48 57 ∪ range 97 102 ∪ range 65 70

-- `+|-`
-- 43 is `+`, 45 is `-`
unfoldable pub SIGN : Class
SIGN = byte 43 ∪ byte 45

-- DEC_LITERAL : DEC_DIGIT (DEC_DIGIT|_)^*
abbrev pub DEC_LITERAL : Lang
DEC_LITERAL = one DEC_DIGIT · many (DEC_DIGIT ∪ LOW)

-- 0, a letter, and digits and `_` with at least one digit
-- 48 is `0`
abbrev pub RADIX_LITERAL : ℕ → Class → Lang
RADIX_LITERAL c d = text (48 ∷ c ∷ []) · many (d ∪ LOW) · one d · many (d ∪ LOW)

-- BIN_LITERAL : 0b (BIN_DIGIT|_)^* BIN_DIGIT (BIN_DIGIT|_)^*
-- 98 is `b`
abbrev pub BIN_LITERAL : Lang
BIN_LITERAL = RADIX_LITERAL 98 BIN_DIGIT

-- OCT_LITERAL : 0o (OCT_DIGIT|_)^* OCT_DIGIT (OCT_DIGIT|_)^*
-- 111 is `o`
abbrev pub OCT_LITERAL : Lang
OCT_LITERAL = RADIX_LITERAL 111 OCT_DIGIT

-- HEX_LITERAL : 0x (HEX_DIGIT|_)^* HEX_DIGIT (HEX_DIGIT|_)^*
-- 120 is `x`
abbrev pub HEX_LITERAL : Lang
HEX_LITERAL = RADIX_LITERAL 120 HEX_DIGIT

-- the part of INTEGER_LITERAL before the suffix
abbrev pub INTEGER_PART : Lang
INTEGER_PART = DEC_LITERAL or BIN_LITERAL or OCT_LITERAL or HEX_LITERAL

-- a period, "not immediately followed by ., _ or an XID_Start character"
-- 46 is `.`
abbrev pub bare : List ℕ → Bool
bare [] = false
bare (c ∷ s) = byte 46 c && not (begins (byte 46 ∪ LOW ∪ XID_START) s)

-- "end of input or not" a digit of the set
abbrev pub no_digit : Class → List ℕ → Bool
no_digit d v = not (begins d v)

-- RESERVED_NUMBER: s begins with a reserved form, and then it is no token ("rejected by the tokenizer instead of being interpreted as
-- separate tokens"). A constructor for each line of the production. Each line's front is taken at its longest, and the last four are read by
-- their prose, "it contains no digits" and "no digits in the exponent": `0b_1`, `1e+5` and `2e_3` have one.
-- 50 is `2`, 57 is `9`, 56 is `8`, 48 is `0`, 98 is `b`, 111 is `o`, 120 is `x`, 46 is `.`
pub data RESERVED_NUMBER (s : List ℕ) : Type 0 where
  -- BIN_LITERAL [2-9]
  bin_out : Followed BIN_LITERAL (begins (range 50 57)) s → RESERVED_NUMBER s
  -- OCT_LITERAL [8-9]
  oct_out : Followed OCT_LITERAL (begins (range 56 57)) s → RESERVED_NUMBER s
  -- ( BIN_LITERAL | OCT_LITERAL | HEX_LITERAL ) . (not immediately followed by ., _ or an XID_Start character)
  period : Followed (BIN_LITERAL or OCT_LITERAL or HEX_LITERAL) bare s → RESERVED_NUMBER s
  -- ( BIN_LITERAL | OCT_LITERAL ) (e|E)
  exp : Followed (BIN_LITERAL or OCT_LITERAL) (begins E) s → RESERVED_NUMBER s
  -- 0b _^* end of input or not BIN_DIGIT
  bin_empty : Followed (text (48 ∷ 98 ∷ []) · many LOW) (no_digit BIN_DIGIT) s → RESERVED_NUMBER s
  -- 0o _^* end of input or not OCT_DIGIT
  oct_empty : Followed (text (48 ∷ 111 ∷ []) · many LOW) (no_digit OCT_DIGIT) s → RESERVED_NUMBER s
  -- 0x _^* end of input or not HEX_DIGIT
  hex_empty : Followed (text (48 ∷ 120 ∷ []) · many LOW) (no_digit HEX_DIGIT) s → RESERVED_NUMBER s
  -- DEC_LITERAL ( . DEC_LITERAL)^? (e|E) (+|-)^? end of input or not DEC_DIGIT
  exp_empty : Followed (DEC_LITERAL · opt (text (46 ∷ []) · DEC_LITERAL) · one E · opt (one SIGN) · many LOW) (no_digit DEC_DIGIT) s → RESERVED_NUMBER s

-- INTEGER_LITERAL : ( DEC_LITERAL | BIN_LITERAL | OCT_LITERAL | HEX_LITERAL ) SUFFIX_NO_E^?
pub record INTEGER_LITERAL (s : List ℕ) : Type 0 where
  pub part : List ℕ
  pub suffix : List ℕ
  pub longest : Longest INTEGER_PART s part suffix
  pub ending : opt SUFFIX_NO_E suffix
  pub free : RESERVED_NUMBER s → ⊥

-- FLOAT_EXPONENT : (e|E) (+|-)^? (DEC_DIGIT|_)^* DEC_DIGIT (DEC_DIGIT|_)^*
abbrev pub FLOAT_EXPONENT : Lang
FLOAT_EXPONENT = one E · opt (one SIGN) · many (DEC_DIGIT ∪ LOW) · one DEC_DIGIT · many (DEC_DIGIT ∪ LOW)

-- the three forms of FLOAT_LITERAL before the suffix
-- 46 is `.`
abbrev pub POINT_PART : Lang
POINT_PART = DEC_LITERAL · text (46 ∷ [])

-- 46 is `.`
abbrev pub FRACTION_PART : Lang
FRACTION_PART = DEC_LITERAL · text (46 ∷ []) · DEC_LITERAL

-- 46 is `.`
abbrev pub EXPONENT_PART : Lang
EXPONENT_PART = DEC_LITERAL · opt (text (46 ∷ []) · DEC_LITERAL) · FLOAT_EXPONENT

-- FLOAT_LITERAL : DEC_LITERAL . (not immediately followed by ., _ or an XID_Start character; the text is one token, so nothing follows)
--    | DEC_LITERAL . DEC_LITERAL SUFFIX_NO_E^?
--    | DEC_LITERAL (. DEC_LITERAL)^? FLOAT_EXPONENT SUFFIX^?
pub record FLOAT_LITERAL (s : List ℕ) : Type 0 where
  pub part : List ℕ
  pub suffix : List ℕ
  pub longest : Longest (POINT_PART or FRACTION_PART or EXPONENT_PART) s part suffix
  pub ending : (POINT_PART part × text [] suffix) ⊎ ((FRACTION_PART part × opt SUFFIX_NO_E suffix) ⊎ (EXPONENT_PART part × opt SUFFIX suffix))
  pub free : RESERVED_NUMBER s → ⊥
