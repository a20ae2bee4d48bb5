-- `form_reading::put_bare` meets its contract.
-- Assumes nothing.
use mathlib.Core.Path.{◌≡◌, ap}
use mathlib.Core.List.{List}
use Prim.Native.Nat.{ℕ}
use native.Mathlib.Omega.{arith}
use lib.ListN.{length, drop}
use Rattle.buffer.specs.Buffer.{Wrote}
use Rattle.escape.specs.declared.Allowed.TheVariants.{Text, Bytes, C}
use Rattle.form_reading.proofs.Readings.{short, utf8, bool_text, float_read_lem, char_scalar, string_read_lem}
use Rattle.form_reading.proofs.Lengths.{float_in_range}
use Rattle.form_reading.proofs.put_bare.Goals as goal

pub put_bytes-requires : goal.put_bytes-requires
put_bytes-requires c =
    let lit = c.in-Bool.field-0 in
    let s = c.args.text.now in
    let p = rw c.in-Bool.is at c.requires in
    omega (arith, ap length (bool_text s lit (drop lit.end s) p.0), p.1.fits)

pub put_integer-requires : goal.put_integer-requires
put_integer-requires c = rw c.in-Integer.is at c.requires

pub put_float-requires : goal.put_float-requires
put_float-requires c =
    let p = rw c.in-Float.is at c.requires in
    ((short _ p.0, float_read_lem _ c.in-Float.lit p.0), (float_in_range _ _ p.1.form, p.1.fits))

pub put_char_literal-requires : goal.put_char_literal-requires
put_char_literal-requires c =
    let p = rw c.in-Char.is at c.requires in
    (char_scalar _ c.in-Char.lit p.0, p.1.fits)

pub put_form-requires : goal.put_form-requires
put_form-requires c =
    let p = rw c.in-String.is at c.requires in
    (((short _ p.0, utf8 _ p.0), string_read_lem _ Text c.in-String.lit p.0), p.1.fits)

pub put_byte_literal-requires : goal.put_byte_literal-requires
put_byte_literal-requires c = (rw c.in-Byte.is at c.requires.1).fits

pub put_form-requires-in-ByteString : goal.put_form-requires-in-ByteString
put_form-requires-in-ByteString c =
    let p = rw c.in-ByteString.is at c.requires in
    (((short _ p.0, utf8 _ p.0), string_read_lem _ Bytes c.in-ByteString.lit p.0), p.1.fits)

pub put_form-requires-in-CString : goal.put_form-requires-in-CString
put_form-requires-in-CString c =
    let p = rw c.in-CString.is at c.requires in
    (((short _ p.0, utf8 _ p.0), string_read_lem _ C c.in-CString.lit p.0), p.1.fits)

same_piece : {p q : List ℕ} {n : ℕ} {before after : List ℕ} → p ≡ q → Wrote q n before after → Wrote p n before after
same_piece e w = rw e w

pub returns-in-Bool : goal.returns-in-Bool
returns-in-Bool c =
    let lit = c.in-Bool.field-0 in
    let s = c.args.text.now in
    let p = rw c.in-Bool.is at c.requires in
    rw c.in-Bool.is (same_piece (bool_text s lit (drop lit.end s) p.0) c.put_bytes.ensures)

pub returns-in-Integer : goal.returns-in-Integer
returns-in-Integer c = rw c.in-Integer.is c.put_integer.ensures

pub returns-in-Float : goal.returns-in-Float
returns-in-Float c = rw c.in-Float.is c.put_float.ensures

pub returns-in-Char : goal.returns-in-Char
returns-in-Char c = rw c.in-Char.is c.put_char_literal.ensures

pub returns-in-String : goal.returns-in-String
returns-in-String c = rw c.in-String.is c.put_form.ensures

pub returns-in-Byte : goal.returns-in-Byte
returns-in-Byte c = rw c.in-Byte.is c.put_byte_literal.ensures

pub returns-in-ByteString : goal.returns-in-ByteString
returns-in-ByteString c = rw c.in-ByteString.is c.put_form-in-ByteString.ensures

pub returns-in-CString : goal.returns-in-CString
returns-in-CString c = rw c.in-CString.is c.put_form-in-CString.ensures
