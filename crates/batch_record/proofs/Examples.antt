-- The program's line of document 01's two examples, and of no text, by computing the definitions. `bytes` is a text's UTF-8.
-- Assumes nothing.
use mathlib.Core.Path.{◌≡◌, refl}
use mathlib.Core.List.{[]}
use Rattle.scan.specs.Sets.{only}
use Rattle.buffer.specs.Digits.{decimal}
use Rattle.parse.specs.Class.{class_of}
use Rattle.parse.specs.Sets.{digit, suffix_rest, dec_digit, starts_e}
use Rattle.suffix.specs.Suffix.{suffix_fault, fault_from, suffix_start}
use Rattle.utf8.specs.Utf8.{encode}
use Rattle.utf8.specs.Decode.{length_from, decode_by, decode}
use Rattle.utf8.specs.Valid.{chars_within, is_utf8}
use Rattle.character_quote.specs.Content.{special, quote_at}
use Rattle.character.specs.Single.{first_at, single_at, char_read}
use Rattle.integer.specs.Integer.{base_at, prefix_len, main_len, after_suffix, after_digits, integer_of, integer_at, integer_read}
use Rattle.integer_value.specs.Value.{number}
use Rattle.dispatch.specs.Entries.{starts_float}
use Rattle.text_check.specs.Checks.{text_fault}
use Rattle.literal.specs.Readings.{number_read, any_by, any_read, entry_read, read_at}
use Rattle.grammar.specs.Notation.{bytes}
use Rattle.form.specs.Form.{integer_form, form_of}
use Rattle.settle.specs.Settled.{measured, measure_at, settle_at, form_at}
use Rattle.batch_line.specs.Lines.{number_piece, refusal_line, ok_line}
use Rattle.batch_record.specs.Program.{program_line}

-- 01: "On `0x_1F` it prints `ok 2 31`"
pub example_integer : program_line (bytes "0x_1F") ≡ bytes "ok 2 31\n"
unfolding encode length_from decode_by decode chars_within is_utf8 text_fault only class_of digit suffix_rest dec_digit starts_e suffix_fault fault_from suffix_start base_at prefix_len main_len after_suffix after_digits integer_of integer_at integer_read starts_float number_read any_by any_read entry_read read_at number decimal integer_form form_of measured measure_at settle_at form_at number_piece ok_line program_line
example_integer = refl

-- "on `'''` it prints `no 26 1 2`"
pub example_quote : program_line (bytes "'''") ≡ bytes "no 26 1 2\n"
unfolding encode length_from decode_by decode chars_within is_utf8 text_fault class_of dec_digit special quote_at first_at single_at char_read any_by any_read entry_read read_at decimal measure_at settle_at number_piece refusal_line program_line
example_quote = refl

-- "or `- -`"
pub example_empty : program_line [] ≡ bytes "no 1 - -\n"
unfolding encode chars_within is_utf8 text_fault any_read entry_read read_at decimal measure_at settle_at number_piece refusal_line program_line
example_empty = refl
