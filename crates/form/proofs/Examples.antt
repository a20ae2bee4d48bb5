-- Settled forms of single values, by computing: what is escaped where, and when a zero is written twice.
-- Assumes nothing.
use mathlib.Core.Path.{◌≡◌, refl}
use mathlib.Core.List.{[], ◌∷◌}
use Rattle.buffer.specs.Digits.{decimal, hex_digit, hex_digits}
use Rattle.utf8.specs.Utf8.{encode}
use Rattle.utf8.specs.Decode.{length_from, decode2, rest2, decode_by, decode}
use Rattle.grammar.specs.Notation.{bytes}
use Rattle.grammar.specs.Meaning as worth
use Rattle.form.specs.Escapes.{escape_letter, ascii_form, char_form, byte_form, char_forms_within, char_forms}
use Rattle.form.specs.Reduced.{zeros, strip, reduce}
use Rattle.form.specs.Form.{integer_form, reduced_form, form_of}

pub record Examples : Type 0 where
  -- each kind escapes its own quote and not the other
  pub char_quotation_mark : form_of (worth.char 34) [] ≡ bytes "'\"'"
  pub char_apostrophe : form_of (worth.char 39) [] ≡ bytes "'\\''"
  pub string_quotes : form_of (worth.string (39 ∷ 34 ∷ [])) [] ≡ bytes "\"'\\\"\""
  pub byte_quotation_mark : form_of (worth.byte 34) [] ≡ bytes "b'\"'"
  pub byte_string_quotes : form_of (worth.byte_string (39 ∷ 34 ∷ [])) [] ≡ bytes "b\"'\\\"\""
  -- letters before `\x`, and both ends of what stands as itself
  pub letters : form_of (worth.string (92 ∷ 10 ∷ 13 ∷ 9 ∷ 0 ∷ [])) [] ≡ bytes "\"\\\\\\n\\r\\t\\0\""
  pub controls : form_of (worth.string (1 ∷ 31 ∷ 32 ∷ 126 ∷ 127 ∷ [])) [] ≡ bytes "\"\\x01\\x1f ~\\x7f\""
  -- above ASCII: itself in kinds 4 and 5, bytes as escapes in the others
  pub string_wide : form_of (worth.string (195 ∷ 169 ∷ [])) (bytes "é") ≡ bytes "\"é\"é"
  pub c_string_wide : form_of (worth.c_string (195 ∷ 169 ∷ [])) (bytes "é") ≡ bytes "c\"\\xc3\\xa9\"é"
  -- a zero is written twice before b, o and x, and nowhere else
  pub zero : form_of (worth.integer 0) [] ≡ bytes "0"
  pub zero_u : form_of (worth.integer 0) (bytes "u8") ≡ bytes "0u8"
  pub zero_b : form_of (worth.integer 0) (bytes "b") ≡ bytes "00b"
  pub ten_b : form_of (worth.integer 10) (bytes "b") ≡ bytes "10b"
  -- a power of either sign
  pub minus : form_of (worth.float (record { coef = 1500; up = 0; down = 5 })) (bytes "f32") ≡ bytes "15e-3f32"
  pub plus : form_of (worth.float (record { coef = 20; up = 3; down = 1 })) [] ≡ bytes "2e3"

pub examples : Examples
unfolding decimal hex_digit hex_digits encode length_from decode2 rest2 decode_by decode escape_letter ascii_form char_form byte_form char_forms_within char_forms zeros strip reduce integer_form reduced_form form_of
examples =
    record {
      char_quotation_mark = refl;
      char_apostrophe = refl;
      string_quotes = refl;
      byte_quotation_mark = refl;
      byte_string_quotes = refl;
      letters = refl;
      controls = refl;
      string_wide = refl;
      c_string_wide = refl;
      zero = refl;
      zero_u = refl;
      zero_b = refl;
      ten_b = refl;
      minus = refl;
      plus = refl;
    }
