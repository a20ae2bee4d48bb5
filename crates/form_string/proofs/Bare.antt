-- The form of a string literal of each kind, before its suffix: its opening, its value's forms, the closing quote.
-- Assumes nothing.
use mathlib.Core.Path.{◌≡◌, refl, sym}
use mathlib.Core.List.{List, [], ◌∷◌, ◌++◌}
use Prim.Native.Nat.{ℕ, ◌+◌, ◌≤◌}
use native.Mathlib.Omega.{arith}
use lib.ListN.{length, length-append}
use Rattle.std.specs.Prelude.{Ok}
use Rattle.err.specs.declared.StringLit.{StringLit}
use Rattle.utf8.specs.Utf8.{Utf8}
use Rattle.escape.specs.declared.Allowed.{Allowed}
use Rattle.escape.specs.declared.Allowed.TheVariants.{Text, Bytes, C}
use Rattle.form.specs.Form.{bare_form}
use Rattle.form_byte.specs.Styled.{styled_forms}
use Rattle.form_byte.proofs.Styles.{text_style, bytes_style}
use Rattle.string.specs.String.{parsed_of, string_read, string_value}
use Rattle.string.proofs.Values.{value_utf8}
use Rattle.form_string.specs.Strings.{worth_in, opening_of, verbatim_in}

-- the value's forms in a style are the form's
pub bare : (k : Allowed) (v : List ℕ) → (k ≡ Text → Utf8 v)
    → bare_form (worth_in k v) [] ≡ opening_of k ++ (styled_forms (verbatim_in k) 34 v ++ (34 ∷ []))
bare Text v u = rw (text_style v (u refl)) refl
bare Bytes v u = rw (bytes_style 34 v) refl
bare C v u = rw (bytes_style 34 v) refl

pub opening_short : (k : Allowed) → length (opening_of k) ≤ 2
opening_short Text = omega arith
opening_short Bytes = omega arith
opening_short C = omega arith

-- of a literal that was read from a UTF-8 text
module _ (k : Allowed) (s : List ℕ) (lit : StringLit) (u : Utf8 s) (is : parsed_of k (Ok lit) ≡ string_read k s) where
  value_text : (k : Allowed) → parsed_of k (Ok lit) ≡ string_read k s → k ≡ Text → Utf8 (string_value k s)
  value_text Text e g = value_utf8 s u (sym e)
  value_text Bytes e g = absurd (let z : ◌≡◌ {A = ℕ} 0 1 = cc in omega arith)
  value_text C e g = absurd (let z : ◌≡◌ {A = ℕ} 0 1 = cc in omega arith)

  pub bare_read : bare_form (worth_in k (string_value k s)) [] ≡ opening_of k ++ (styled_forms (verbatim_in k) 34 (string_value k s) ++ (34 ∷ []))
  bare_read = bare k (string_value k s) (value_text k is)

  pub read_length : length (bare_form (worth_in k (string_value k s)) []) ≡ length (opening_of k) + length (styled_forms (verbatim_in k) 34 (string_value k s)) + 1
  read_length = rw bare_read (simp length-append (omega arith))
