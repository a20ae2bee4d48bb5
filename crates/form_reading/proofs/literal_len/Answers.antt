-- `form_reading::literal_len` meets its contract.
-- Assumes nothing.
use mathlib.Core.Path.{refl, sym, ap, ◌∙◌}
use mathlib.Core.List.{List}
use Prim.Native.Nat.{ℕ, ◌+◌}
use lib.ListN.{length, drop}
use Rattle.std.specs.Prelude.{Ok}
use Rattle.err.specs.Outcome.{Outcome}
use Rattle.err.specs.Reading.{outcome_of}
use Rattle.err.specs.declared.Literal.{Literal}
use Rattle.escape.specs.declared.Allowed.TheVariants.{Text, Bytes, C}
use Rattle.grammar.specs.Meaning as worth
use Rattle.form_reading.specs.Bare.{len}
use Rattle.form_reading.proofs.Readings.{short, utf8, bool_text, char_scalar, string_read_lem}
use Rattle.form_reading.proofs.Lengths.{plain_bare, char_length, byte_length}
use Rattle.form_reading.proofs.literal_len.Goals as goal

abbrev accepting : Literal → Outcome
accepting l = outcome_of (Ok l)

pub integer_len-requires : goal.integer_len-requires
integer_len-requires c = sym (ap accepting c.in-Integer.is) ∙ c.requires

pub float_len-requires : goal.float_len-requires
float_len-requires c = sym (ap accepting c.in-Float.is) ∙ c.requires

pub form_len-requires : goal.form_len-requires
form_len-requires c =
    let is = sym (ap accepting c.in-String.is) ∙ c.requires in
    ((short _ is, utf8 _ is), string_read_lem _ Text c.in-String.lit is)

pub form_len-requires-in-ByteString : goal.form_len-requires-in-ByteString
form_len-requires-in-ByteString c =
    let is = sym (ap accepting c.in-ByteString.is) ∙ c.requires in
    ((short _ is, utf8 _ is), string_read_lem _ Bytes c.in-ByteString.lit is)

pub form_len-requires-in-CString : goal.form_len-requires-in-CString
form_len-requires-in-CString c =
    let is = sym (ap accepting c.in-CString.is) ∙ c.requires in
    ((short _ is, utf8 _ is), string_read_lem _ C c.in-CString.lit is)

pub returns-in-Bool : goal.returns-in-Bool
returns-in-Bool c =
    let s = c.args.text.now in
    let lit = c.in-Bool.field-0 in
    let x = drop lit.end s in
    let q = bool_text s lit x (sym (ap accepting c.in-Bool.is) ∙ c.requires) in
    rw c.in-Bool.is (ap (λ (l : List ℕ). len (length l)) (sym q) ∙ plain_bare (worth.bool lit.value) x refl)

pub returns-in-Integer : goal.returns-in-Integer
returns-in-Integer c = rw c.in-Integer.is c.integer_len.ensures

pub returns-in-Float : goal.returns-in-Float
returns-in-Float c = rw c.in-Float.is c.float_len.ensures

pub returns-in-Char : goal.returns-in-Char
returns-in-Char c =
    let s = c.args.text.now in
    let lit = c.in-Char.lit in
    let st = c.char_style.ensures in
    let x = drop lit.start_suffix s in
    let e = rw (st.0, st.1) at c.char_form_len.ensures.0 in
    let q = char_length lit.value x (char_scalar s lit (sym (ap accepting c.in-Char.is) ∙ c.requires)) in
    rw c.in-Char.is (ap len (ap (λ (n : ℕ). 2 + n) e ∙ q) ∙ plain_bare (worth.char lit.value) x refl)

pub returns-in-String : goal.returns-in-String
returns-in-String c = rw c.in-String.is (ap len c.form_len.ensures.0 ∙ plain_bare (worth.string _) _ refl)

pub returns-in-Byte : goal.returns-in-Byte
returns-in-Byte c =
    let lit = c.in-Byte.lit in
    let st = c.byte_style.ensures in
    let x = drop lit.start_suffix c.args.text.now in
    let e = rw (st.0, st.1) at c.form_len-in-Byte.ensures.0 in
    rw c.in-Byte.is (ap len (ap (λ (n : ℕ). 3 + n) e ∙ byte_length lit.value x) ∙ plain_bare (worth.byte lit.value) x refl)

pub returns-in-ByteString : goal.returns-in-ByteString
returns-in-ByteString c = rw c.in-ByteString.is (ap len c.form_len-in-ByteString.ensures.0 ∙ plain_bare (worth.byte_string _) _ refl)

pub returns-in-CString : goal.returns-in-CString
returns-in-CString c = rw c.in-CString.is (ap len c.form_len-in-CString.ensures.0 ∙ plain_bare (worth.c_string _) _ refl)
