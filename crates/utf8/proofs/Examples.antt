-- The worked examples of RFC 3629: the texts of section 7, and the invalid ones of section 3.
-- Assumes nothing.
use mathlib.Core.Path.{◌≡◌, refl}
use mathlib.Core.Bool.{true, false}
use mathlib.Core.List.{[], ◌∷◌}
use Rattle.utf8.specs.Utf8.{encode, encode_all}
use Rattle.utf8.specs.Decode.{decode, decode_by, length_from, rest2, rest3, rest4, decode2, decode3, decode4, chosen3, chosen4}
use Rattle.utf8.specs.Valid.{is_utf8, chars_within}

-- section 7: A≢Α. ; the Hangul word for the Korean language; the Japanese word for the Japanese language; the character U+233B4
-- after a byte order mark
encoded : (encode_all (0x41 ∷ 0x2262 ∷ 0x391 ∷ 0x2E ∷ []) ≡ 0x41 ∷ 0xE2 ∷ 0x89 ∷ 0xA2 ∷ 0xCE ∷ 0x91 ∷ 0x2E ∷ [])
    × (encode_all (0xD55C ∷ 0xAD6D ∷ 0xC5B4 ∷ []) ≡ 0xED ∷ 0x95 ∷ 0x9C ∷ 0xEA ∷ 0xB5 ∷ 0xAD ∷ 0xEC ∷ 0x96 ∷ 0xB4 ∷ [])
    × (encode_all (0x65E5 ∷ 0x672C ∷ 0x8A9E ∷ []) ≡ 0xE6 ∷ 0x97 ∷ 0xA5 ∷ 0xE6 ∷ 0x9C ∷ 0xAC ∷ 0xE8 ∷ 0xAA ∷ 0x9E ∷ [])
    × (encode_all (0xFEFF ∷ 0x233B4 ∷ []) ≡ 0xEF ∷ 0xBB ∷ 0xBF ∷ 0xF0 ∷ 0xA3 ∷ 0x8E ∷ 0xB4 ∷ [])
unfolding encode
encoded = (refl, refl, refl, refl)

accepted : (is_utf8 (0x41 ∷ 0xE2 ∷ 0x89 ∷ 0xA2 ∷ 0xCE ∷ 0x91 ∷ 0x2E ∷ []) ≡ true)
    × (is_utf8 (0xED ∷ 0x95 ∷ 0x9C ∷ 0xEA ∷ 0xB5 ∷ 0xAD ∷ 0xEC ∷ 0x96 ∷ 0xB4 ∷ []) ≡ true)
    × (is_utf8 (0xE6 ∷ 0x97 ∷ 0xA5 ∷ 0xE6 ∷ 0x9C ∷ 0xAC ∷ 0xE8 ∷ 0xAA ∷ 0x9E ∷ []) ≡ true)
    × (is_utf8 (0xEF ∷ 0xBB ∷ 0xBF ∷ 0xF0 ∷ 0xA3 ∷ 0x8E ∷ 0xB4 ∷ []) ≡ true)
unfolding is_utf8 chars_within decode decode_by length_from rest2 rest3 rest4 decode2 decode3 decode4 chosen3 chosen4
accepted = (refl, refl, refl, refl)

-- section 3: the overlong C0 80, and the surrogate pair ED A1 8C ED BE B4
refused : (is_utf8 (0xC0 ∷ 0x80 ∷ []) ≡ false)
    × (is_utf8 (0xED ∷ 0xA1 ∷ 0x8C ∷ 0xED ∷ 0xBE ∷ 0xB4 ∷ []) ≡ false)
    × (is_utf8 (0xED ∷ 0xA1 ∷ 0x8C ∷ []) ≡ false)
unfolding is_utf8 chars_within decode decode_by length_from rest2 rest3 rest4 decode2 decode3 decode4 chosen3 chosen4
refused = (refl, refl, refl)
