-- The marked texts are read and settled so, by computing the definitions.
-- Assumes nothing.
use mathlib.Core.Path.{◌≡◌, refl}
use mathlib.Core.List.{List}
use Prim.Native.Nat.{ℕ, ◌≤◌}
use native.Mathlib.Omega.{arith}
use borrow.Author.Tests.{le-leb}
use lib.ListN.{length}
use Rattle.scan.specs.Sets.{except, only}
use Rattle.parse.specs.Class.{class_of}
use Rattle.parse.specs.Sets.{digit, blank, suffix_rest, dec_digit, starts_e}
use Rattle.suffix.specs.Suffix.{suffix_fault, fault_from, suffix_start}
use Rattle.utf8.specs.Utf8.{encode}
use Rattle.utf8.specs.Decode.{length_from, decode2, decode3, decode4, chosen3, chosen4, rest2, rest3, rest4, decode_by, decode}
use Rattle.utf8.specs.Valid.{chars_within, is_utf8}
use Rattle.utf8.specs.Cut.{continuation, is_boundary}
use Rattle.escape.specs.Escape.{simple_escape_of, x_byte, x_escape, escape_by, escape_of}
use Rattle.body.specs.Step.{line_break_of, backslash_of, plain_of, step_of}
use Rattle.body.specs.Body.{body_from, body_by}
use Rattle.body.specs.Quote.{suffixed, string_of}
use Rattle.character_quote.specs.Content.{special, quote_at}
use Rattle.character.specs.Single.{first_at, single_at, char_read}
use Rattle.string.specs.String.{opening_by, string_read, string_value}
use Rattle.integer.specs.Integer.{base_at, prefix_len, main_len, after_suffix, after_digits, integer_of, integer_at, integer_read}
use Rattle.integer_value.specs.Value.{number}
use Rattle.dispatch.specs.Entries.{starts_float}
use Rattle.text_check.specs.Checks.{text_fault}
use Rattle.literal.specs.Readings.{number_read, byte_or_string_read, any_by, any_read, entry_read, read_at}
use Rattle.float.specs.Float.{not_integer, after_number, sign_end, no_digit, after_fraction, bad_fraction, after_integer, float_read}
use Rattle.grammar.specs.Notation.{bytes}
use Rattle.grammar.specs.Numbers.{SIGN}
use Rattle.grammar.specs.Suffixes.{LOW}
use Rattle.grammar.specs.Values.{digit_value, number_in}
use Rattle.buffer.specs.Digits.{decimal, hex_digit, hex_digits}
use Rattle.buffer.proofs.Decimals.{last, more}
use Rattle.form.specs.Reduced.{zeros, strip, reduce}
use Rattle.form.specs.Escapes.{escape_letter, ascii_form, byte_form}
use Rattle.form.specs.Form.{integer_form, reduced_form, form_of}
use Rattle.form_decimal.specs.Scaled.{float_at}
use Rattle.settle.specs.Settled.{formed, measured, measure_at, settle_at, form_at, settle_buffer}
use Rattle.demands.specs.Demand3.{Given}
use Rattle.demands.specs.Marked.{MarkedReadings, MarkedForms, Marked}

pub marked_readings : MarkedReadings
unfolding encode length_from decode2 decode3 decode4 chosen3 chosen4 rest2 rest3 rest4 decode_by decode chars_within is_utf8 text_fault entry_read read_at except only class_of digit blank suffix_rest dec_digit starts_e suffix_fault fault_from suffix_start continuation is_boundary simple_escape_of x_byte x_escape escape_by escape_of line_break_of backslash_of plain_of step_of body_from body_by suffixed string_of special quote_at first_at single_at char_read opening_by string_read base_at prefix_len main_len after_suffix after_digits integer_of integer_at integer_read starts_float number_read any_by any_read
marked_readings = record { no_digits = refl; lone_backslash = refl; three_quotes = refl; starting_with_e = refl; cut_escape = refl; cut_escape_suffixed = refl }

-- digit by digit: computed as it is defined, `decimal` would count down from the number
million : decimal 1000000 ≡ bytes "1000000"
unfolding encode
million =
    rw (
      more 1000000 (omega arith),
      more 100000 (omega arith),
      more 10000 (omega arith),
      more 1000 (omega arith),
      more 100 (omega arith),
      more 10 (omega arith),
      last 1 (omega arith),
    )

-- by the measure and the form
gives : {s f : List ℕ} {k : ℕ} → measure_at s ≡ formed k (length f) → form_at s ≡ f → (buf : List ℕ) → length f ≤ length buf → Given s buf k f
unfolding settle_at settle_buffer
gives {f = f} m e buf l =
    let h = le-leb (length f) (length buf) l in
    record { answer = rw (m, h); bytes = rw (m, h, e) }

pub marked_forms : MarkedForms
unfolding encode length_from decode2 decode3 decode4 chosen3 chosen4 rest2 rest3 rest4 decode_by decode chars_within is_utf8 text_fault entry_read read_at except only class_of digit blank suffix_rest dec_digit starts_e suffix_fault fault_from suffix_start plain_of step_of body_from body_by suffixed string_of opening_by string_read base_at prefix_len main_len after_suffix after_digits integer_of integer_at integer_read starts_float number_read any_by any_read byte_or_string_read string_value number sign_end no_digit not_integer after_number after_fraction bad_fraction after_integer float_read float_at SIGN LOW digit_value number_in zeros strip reduce escape_letter ascii_form byte_form hex_digit hex_digits integer_form reduced_form form_of measured measure_at settle_at form_at
marked_forms =
    record {
      zero_x = gives refl refl;
      zero_b = gives refl refl;
      reduced = unfold decimal in gives refl refl;
      zero_float = unfold decimal in gives refl refl;
      too_far = λ room. refl;
      just_in_range = gives (rw (last 1 (omega arith), million)) (rw (last 1 (omega arith), million));
      c_string = gives refl refl;
      hex = unfold decimal in gives refl refl;
    }

pub marked : Marked
marked = record { readings = marked_readings; forms = marked_forms }
