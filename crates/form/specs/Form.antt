-- The settled form of a meaning, as document 01 coins the word: one spelling for each kind, exact value and suffix.
-- Assumes nothing.
use Rattle.std.specs.Prelude.{true, false, cond, ◌&&◌, List, [], ◌∷◌, ◌++◌, ℕ, ◌+◌, eqb, leb}
use Rattle.buffer.specs.Digits.{decimal}
use Rattle.grammar.specs.Notation.{begins, byte, ◌∪◌}
use Rattle.grammar.specs.Decimal.{Decimal}
use Rattle.grammar.specs.Meaning.{Worth, true_text, false_text}
use Rattle.grammar.specs.Meaning as worth
use Rattle.form.specs.Escapes.{char_form, byte_form, char_forms, byte_forms}
use Rattle.form.specs.Reduced.{reduce}

-- "Integer: decimal without leading zero or `_`; zero is `0`, but `00` before a suffix starting with b, o or x"
-- 98 is `b`, 111 is `o`, 120 is `x`, 48 is `0`
unfoldable pub integer_form : ℕ → List ℕ → List ℕ
integer_form n x = cond (eqb n 0 && begins (byte 98 ∪ byte 111 ∪ byte 120) x) (48 ∷ 48 ∷ []) (decimal n)

-- "Written m, `e`, k (minus sign if negative). Zero is `0e0`."
-- 101 is `e`, 45 is `-`
unfoldable pub reduced_form : Decimal → List ℕ
reduced_form r = decimal r.coef ++ (101 ∷ cond (eqb r.down 0) (decimal r.up) (45 ∷ decimal r.down))

-- of a worth, before the suffix x. "Bool: itself." "Quoted: never raw."
-- 39 is `'`, 34 is `"`, 98 is `b`, 99 is `c`
abbrev pub bare_form : Worth → List ℕ → List ℕ
bare_form (worth.bool true) x = true_text
bare_form (worth.bool false) x = false_text
bare_form (worth.integer n) x = integer_form n x
bare_form (worth.float d) x = reduced_form (reduce d)
bare_form (worth.char c) x = 39 ∷ (char_form 39 c ++ (39 ∷ []))
bare_form (worth.string v) x = 34 ∷ (char_forms 34 v ++ (34 ∷ []))
bare_form (worth.byte b) x = 98 ∷ 39 ∷ (byte_form 39 b ++ (39 ∷ []))
bare_form (worth.byte_string v) x = 98 ∷ 34 ∷ (byte_forms 34 v ++ (34 ∷ []))
bare_form (worth.c_string v) x = 99 ∷ 34 ∷ (byte_forms 34 v ++ (34 ∷ []))

-- "The suffix follows unchanged."
unfoldable pub form_of : Worth → List ℕ → List ℕ
form_of w x = bare_form w x ++ x

-- the number that withholds a worth whatever its form's length: 45 of an integer "Above 2^64 − 1", 46 of a float too far; 0 of every other
abbrev pub fault_of : Worth → ℕ
fault_of (worth.integer n) = cond (leb n 18446744073709551615) 0 45
fault_of (worth.float d) = cond (leb ((reduce d).up + (reduce d).down) 1000000) 0 46
fault_of (worth.bool b) = 0
fault_of (worth.char c) = 0
fault_of (worth.string v) = 0
fault_of (worth.byte b) = 0
fault_of (worth.byte_string v) = 0
fault_of (worth.c_string v) = 0
