-- The meaning of a text: 01, The settled form: "Meaning is kind, exact value, suffix bytes, as demand 2's definitions give them from the text."
-- Assumes nothing.
use Rattle.std.specs.Prelude.{◌≡◌, Bool, true, false, List, [], ◌∷◌, ℕ}
use Rattle.grammar.specs.Numbers.{INTEGER_LITERAL, FLOAT_LITERAL}
use Rattle.grammar.specs.Quoted.{CHAR_LITERAL, BYTE_LITERAL, STRING_LITERAL, RAW_STRING_LITERAL, BYTE_STRING_LITERAL, RAW_BYTE_STRING_LITERAL, C_STRING_LITERAL, RAW_C_STRING_LITERAL}
use Rattle.grammar.specs.Decimal.{Decimal, SameValue}
use Rattle.grammar.specs.Values.{integer_value, float_value}

-- kind and exact value: "a bool's truth, the number of an integer, float or byte, a char's scalar, and in kinds 5, 7 and 8 the decoded bytes"
pub data Worth : Type 0 where
  bool : Bool → Worth
  integer : ℕ → Worth
  float : Decimal → Worth
  char : ℕ → Worth
  string : List ℕ → Worth
  byte : ℕ → Worth
  byte_string : List ℕ → Worth
  c_string : List ℕ → Worth

-- 01: "1 bool, 2 integer, 3 float, 4 char, 5 string, 6 byte, 7 byte string, 8 C string"
abbrev pub kind_of : Worth → ℕ
kind_of (bool b) = 1
kind_of (integer n) = 2
kind_of (float d) = 3
kind_of (char v) = 4
kind_of (string v) = 5
kind_of (byte v) = 6
kind_of (byte_string v) = 7
kind_of (c_string v) = 8

-- the same kind and the same exact value; of floats as 01 says it
pub data SameWorth : Worth → Worth → Type 0 where
  same : {w : Worth} → SameWorth w w
  same_float : {a b : Decimal} → SameValue a b → SameWorth (float a) (float b)

-- `true`, `false`
-- 116 is `t`, 114 is `r`, 117 is `u`, 101 is `e`
abbrev pub true_text : List ℕ
true_text = 116 ∷ 114 ∷ 117 ∷ 101 ∷ []

-- 102 is `f`, 97 is `a`, 108 is `l`, 115 is `s`, 101 is `e`
abbrev pub false_text : List ℕ
false_text = 102 ∷ 97 ∷ 108 ∷ 115 ∷ 101 ∷ []

-- The text s has the worth w and the suffix x: one line for each kind of token that chapter Literal expressions names. 01, Bools: "Exactly `true`
-- or `false` (keywords in the Reference, so this line is their definition)".
pub data Means (s : List ℕ) (w : Worth) (x : List ℕ) : Type 0 where
  is_true : s ≡ true_text → w ≡ bool true → x ≡ [] → Means s w x
  is_false : s ≡ false_text → w ≡ bool false → x ≡ [] → Means s w x
  is_integer : (t : INTEGER_LITERAL s) → w ≡ integer (integer_value t.part) → x ≡ t.suffix → Means s w x
  is_float : (t : FLOAT_LITERAL s) → w ≡ float (float_value t.part) → x ≡ t.suffix → Means s w x
  is_char : (v : ℕ) → CHAR_LITERAL s v x → w ≡ char v → Means s w x
  is_string : (v : List ℕ) → STRING_LITERAL s v x → w ≡ string v → Means s w x
  is_raw_string : (v : List ℕ) → RAW_STRING_LITERAL s v x → w ≡ string v → Means s w x
  is_byte : (v : ℕ) → BYTE_LITERAL s v x → w ≡ byte v → Means s w x
  is_byte_string : (v : List ℕ) → BYTE_STRING_LITERAL s v x → w ≡ byte_string v → Means s w x
  is_raw_byte_string : (v : List ℕ) → RAW_BYTE_STRING_LITERAL s v x → w ≡ byte_string v → Means s w x
  is_c_string : (v : List ℕ) → C_STRING_LITERAL s v x → w ≡ c_string v → Means s w x
  is_raw_c_string : (v : List ℕ) → RAW_C_STRING_LITERAL s v x → w ≡ c_string v → Means s w x
