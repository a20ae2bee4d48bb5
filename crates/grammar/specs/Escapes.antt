-- Chapter Tokens, the escapes, each with its escaped value from chapter Literal expressions, "Escapes".
-- Assumes nothing.
use Rattle.std.specs.Prelude.{◌≡◌, List, [], ◌∷◌, ◌++◌, ℕ, zero, suc, ◌+◌, ◌*◌, ◌≤◌, T}
use Rattle.utf8.specs.Utf8.{Scalar}
use Rattle.grammar.specs.Notation.{Lang, Class, byte, ◌∪◌, all, begins, one, many, text, ◌·◌}
use Rattle.grammar.specs.Suffixes.{LOW}
use Rattle.grammar.specs.Numbers.{OCT_DIGIT, HEX_DIGIT}
use Rattle.grammar.specs.Values.{digit_value, number_in}

-- QUOTE_ESCAPE : \' | \"
-- 92 is `\`, 39 is `'`, 34 is `"`
pub data QUOTE_ESCAPE : List ℕ → ℕ → Type 0 where
  apostrophe : QUOTE_ESCAPE (92 ∷ 39 ∷ []) 39
  quotation_mark : QUOTE_ESCAPE (92 ∷ 34 ∷ []) 34

-- \n | \r | \t | \\ | \0, which ASCII_ESCAPE and BYTE_ESCAPE have in common: LF, CR, HT, REVERSE SOLIDUS, NUL
-- 92 is `\`, 110 is `n`, 114 is `r`, 116 is `t`, 48 is `0`; 10 is LF, 13 is CR, 9 is tab, 0 is NUL
pub data COMMON_ESCAPE : List ℕ → ℕ → Type 0 where
  lf : COMMON_ESCAPE (92 ∷ 110 ∷ []) 10
  cr : COMMON_ESCAPE (92 ∷ 114 ∷ []) 13
  ht : COMMON_ESCAPE (92 ∷ 116 ∷ []) 9
  reverse_solidus : COMMON_ESCAPE (92 ∷ 92 ∷ []) 92
  nul : COMMON_ESCAPE (92 ∷ 48 ∷ []) 0

-- ASCII_ESCAPE : \x OCT_DIGIT HEX_DIGIT | \n | \r | \t | \\ | \0
-- "7-bit escapes": "the result of interpreting the final two characters in the escape sequence as a hexadecimal integer"
-- 92 is `\`, 120 is `x`
pub data ASCII_ESCAPE : List ℕ → ℕ → Type 0 where
  code : (a b : ℕ) → T (OCT_DIGIT a) → T (HEX_DIGIT b) → ASCII_ESCAPE (92 ∷ 120 ∷ a ∷ b ∷ []) (digit_value a * 16 + digit_value b)
  simple : {t : List ℕ} {v : ℕ} → COMMON_ESCAPE t v → ASCII_ESCAPE t v

-- BYTE_ESCAPE : \x HEX_DIGIT HEX_DIGIT | \n | \r | \t | \\ | \0 | \' | \"
-- "8-bit escapes": likewise
-- 92 is `\`, 120 is `x`
pub data BYTE_ESCAPE : List ℕ → ℕ → Type 0 where
  code : (a b : ℕ) → T (HEX_DIGIT a) → T (HEX_DIGIT b) → BYTE_ESCAPE (92 ∷ 120 ∷ a ∷ b ∷ []) (digit_value a * 16 + digit_value b)
  simple : {t : List ℕ} {v : ℕ} → COMMON_ESCAPE t v → BYTE_ESCAPE t v
  quote : {t : List ℕ} {v : ℕ} → QUOTE_ESCAPE t v → BYTE_ESCAPE t v

-- ( HEX_DIGIT _^* )^n
abbrev pub HEX_GROUPS : ℕ → Lang
HEX_GROUPS zero = text []
HEX_GROUPS (suc n) = one HEX_DIGIT · many LOW · HEX_GROUPS n

-- UNICODE_ESCAPE : \u{ ( HEX_DIGIT _^* )^1..6 }
-- "Unicode escapes": "the character whose Unicode scalar value is the result of interpreting the hexadecimal digits contained in the escape
-- sequence as a hexadecimal integer"; "the permitted forms .. ensure that there is such a character"
-- 92 is `\`, 117 is `u`, 123 is `{`, 125 is `}`
pub record UNICODE_ESCAPE (t : List ℕ) (v : ℕ) : Type 0 where
  pub digits : List ℕ
  pub count : ℕ
  pub is : t ≡ 92 ∷ 117 ∷ 123 ∷ (digits ++ (125 ∷ []))
  pub groups : HEX_GROUPS count digits
  pub least : 1 ≤ count
  pub most : count ≤ 6
  pub value : v ≡ number_in 16 digits
  pub scalar : Scalar v

-- HT, LF and SPACE: 01, Escapes: "all following spaces, tabs and LFs". The chapter has CR among them, but the productions keep CR out of every
-- string.
-- 9 is tab, 10 is LF, 32 is space
unfoldable pub WHITESPACE : Class
WHITESPACE = byte 9 ∪ byte 10 ∪ byte 32

-- STRING_CONTINUE : \ followed by \n
-- "String continuation escapes": "\ followed immediately by U+000A (LF), and all following whitespace characters before the next
-- non-whitespace character". r is what follows it in the string. Its escaped value is "an empty sequence of characters".
-- 92 is `\`, 10 is LF
pub record STRING_CONTINUE (t r : List ℕ) : Type 0 where
  pub blanks : List ℕ
  pub is : t ≡ 92 ∷ 10 ∷ blanks
  pub white : T (all WHITESPACE blanks)
  pub next : T (begins WHITESPACE r) → ⊥
