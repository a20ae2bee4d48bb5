-- How characters and bytes are written in a settled form (01, The settled form, Quoted).
-- Assumes nothing.
use Rattle.std.specs.Prelude.{cond, ◌&&◌, List, [], ◌∷◌, ◌++◌, ℕ, zero, suc, eqb, ltb, leb, length, drop, Some, None}
use Rattle.buffer.specs.Digits.{hex_digits}
use Rattle.utf8.specs.Utf8.{encode}
use Rattle.utf8.specs.Decode.{decode}

-- "Escaped are `\\`, `\n`, `\r`, `\t`, `\0`, and `'` in kinds 4 and 6 or `"` in 5, 7, 8": what stands after the backslash, where the kind's
-- quote is q; 0 where there is no such escape
-- 92 is `\`, 10 is LF, 110 is `n`, 13 is CR, 114 is `r`, 9 is tab, 116 is `t`, 0 is NUL, 48 is `0`
unfoldable pub escape_letter : ℕ → ℕ → ℕ
escape_letter q b =
    cond (eqb b 92) 92
    (cond (eqb b 10) 110
    (cond (eqb b 13) 114
    (cond (eqb b 9) 116
    (cond (eqb b 0) 48
    (cond (eqb b q) q 0)))))

-- "`\x` and two lower-case hex digits"
-- 92 is `\`, 120 is `x`
abbrev pub x_form : ℕ → List ℕ
x_form b = 92 ∷ 120 ∷ hex_digits b

-- an ASCII character: "other bytes below 32 and byte 127 are `\x` ..", the rest "stand as themselves"
-- 32 is space, 127 is DEL, 92 is `\`
unfoldable pub ascii_form : ℕ → ℕ → List ℕ
ascii_form q b =
    cond (eqb (escape_letter q b) 0)
    (cond (leb 32 b && ltb b 127) (b ∷ []) (x_form b))
    (92 ∷ escape_letter q b ∷ [])

-- a character of kinds 4 and 5: "Other characters stand as themselves"
unfoldable pub char_form : ℕ → ℕ → List ℕ
char_form q c = cond (ltb c 128) (ascii_form q c) (encode c)

-- a byte of kinds 6, 7, 8: "as are all bytes above 127 in kinds 6, 7, 8"
unfoldable pub byte_form : ℕ → ℕ → List ℕ
byte_form q b = cond (ltb b 128) (ascii_form q b) (x_form b)

-- every byte of a value, in order
abbrev pub byte_forms : ℕ → List ℕ → List ℕ
byte_forms q [] = []
byte_forms q (b ∷ v) = byte_form q b ++ byte_forms q v

-- every character of a UTF-8 value, in order, as RFC 3629 decodes it; at most as many as the second number says
unfoldable pub char_forms_within : ℕ → ℕ → List ℕ → List ℕ
char_forms_within q zero v = []
char_forms_within q (suc k) [] = []
char_forms_within q (suc k) (a ∷ v) =
    elim (decode (a ∷ v)) [ Some found ↦ char_form q found.0 ++ char_forms_within q k (drop found.1 (a ∷ v)) | None ↦ [] ]

-- n bytes hold at most n characters
unfoldable pub char_forms : ℕ → List ℕ → List ℕ
char_forms q v = char_forms_within q (length v) v
