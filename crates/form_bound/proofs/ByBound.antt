-- A string that fits by the bound has a form, and the form with its suffix is short and fits.
-- Assumes nothing.
use mathlib.Core.Path.{◌≡◌, refl, sym, ap, ◌∙◌}
use mathlib.Core.Bool.{true, and-eq-true_iff}
use mathlib.Core.Logic.{◌⊎◌, inl, inr}
use mathlib.Core.List.{List, []}
use Prim.Native.Nat.{ℕ, ◌+◌, ◌-◌, ◌*◌, ◌≤◌}
use native.Mathlib.Omega.{arith}
use borrow.Author.Tests.{leb-true}
use lib.Dec.{leb}
use lib.ListN.{length}
use Rattle.std.specs.Prelude.{Ok}
use Rattle.err.specs.Outcome.{Outcome}
use Rattle.err.specs.Reading.{outcome_of, suffix_in}
use Rattle.err.specs.declared.StringLit.{StringLit}
use Rattle.err.specs.declared.Literal.{Literal}
use Rattle.err.specs.declared.Literal.TheVariants as literal
use Rattle.scan.proofs.Cases.{clash}
use Rattle.escape.specs.declared.Allowed.{Allowed}
use Rattle.escape.specs.declared.Allowed.TheVariants.{Text, Bytes, C}
use Rattle.grammar.specs.Meaning as worth
use Rattle.form.specs.Form.{bare_form}
use Rattle.form_byte.specs.Styled.{styled_forms}
use Rattle.form_byte.proofs.Styles.{forms_short}
use Rattle.string.specs.String.{string_value}
use Rattle.string.proofs.Literals.{value_length}
use Rattle.form_string.specs.Strings.{worth_in, opening_of, verbatim_in}
use Rattle.form_string.proofs.Bare.{read_length, opening_short}
use Rattle.literal.specs.Readings.{read_at}
use Rattle.form_reading.proofs.Readings.{utf8, start, string_in, string_read_lem}
use Rattle.form_reading.proofs.Lengths.{plain_bare}
use Rattle.form_reading.specs.Bare.{len, bare_by, bare_form_by}
use Rattle.form_bound.specs.Bound.{bound_fits, fits_by_bound}

-- a reading o of a text s has a form, which with the suffix has at most 65,536 bytes and at most `room`
pub record Bounded (s : List ℕ) (o : Outcome) (room : ℕ) : Type 0 where
  pub form : bare_by s o ≡ len (length (bare_form_by s o))
  pub short : length (bare_form_by s o) + (length s - suffix_in o) ≤ 65536
  pub fits : length (bare_form_by s o) + (length s - suffix_in o) ≤ room

-- ---- strings, whose forms have at most four bytes for each of the value's, quotes and a letter

fits_sum : (n m room : ℕ) → bound_fits n m room ≡ true → (4 * n + 3 + m ≤ 65536) × (4 * n + 3 + m ≤ room)
unfolding bound_fits
fits_sum n m room e =
    let t = (and-eq-true_iff (leb (4 * n + 3 + m) 65536) (leb (4 * n + 3 + m) room)).0 e in
    (leb-true _ _ t.0, leb-true _ _ t.1)

module _ (s : List ℕ) (room : ℕ) where
  string_form : (k : Allowed) (lit : StringLit) → let o = string_in k lit in
      (bare_form_by s o ≡ bare_form (worth_in k (string_value k s)) []) × (bare_by s o ≡ len (length (bare_form_by s o)))
  string_form Text lit = (refl, sym (plain_bare (worth.string _) _ refl))
  string_form Bytes lit = (refl, sym (plain_bare (worth.byte_string _) _ refl))
  string_form C lit = (refl, sym (plain_bare (worth.c_string _) _ refl))

  module _ (k : Allowed) (lit : StringLit) (is : string_in k lit ≡ read_at 0 s) where
    -- the form and the suffix
    string_size : length (bare_form_by s (string_in k lit)) ≡ length (opening_of k) + length (styled_forms (verbatim_in k) 34 (string_value k s)) + 1
    string_size = ap length (string_form k lit).0 ∙ read_length k s lit (utf8 s is) (string_read_lem s k lit is)

    bound_fits_lem : bound_fits lit.value_len (length s - lit.start_suffix) room ≡ true → Bounded s (string_in k lit) room
    bound_fits_lem e =
        let m = fits_sum lit.value_len (length s - lit.start_suffix) room e in
        let short : length (bare_form_by s (string_in k lit)) ≤ 4 * lit.value_len + 3 =
        omega (
          arith,
          string_size,
          opening_short k,
          forms_short (verbatim_in k) 34 (string_value k s),
          value_length k s (sym (string_read_lem s k lit is)),
        ) in
        record { form = (string_form k lit).1; short = omega (arith, m.0); fits = omega (arith, m.1) }

  -- THE LAW: a string that fits by the bound has a form that fits
  pub by_bound : (found : Literal) → let o = outcome_of (Ok found) in o ≡ read_at 0 s → fits_by_bound s o room ≡ true → Bounded s o room
  by_bound (literal.String lit) is e = bound_fits_lem Text lit is e
  by_bound (literal.ByteString lit) is e = bound_fits_lem Bytes lit is e
  by_bound (literal.CString lit) is e = bound_fits_lem C lit is e
  by_bound (literal.Bool lit) is e = clash e refl
  by_bound (literal.Integer lit) is e = clash e refl
  by_bound (literal.Float lit) is e = clash e refl
  by_bound (literal.Char lit) is e = clash e refl
  by_bound (literal.Byte lit) is e = clash e refl

-- the suffix of a string of any of the three kinds starts inside the text
pub string_inside : (s : List ℕ) (l : Literal) (x : StringLit) → outcome_of (Ok l) ≡ read_at 0 s
    → (l ≡ literal.String x) ⊎ ((l ≡ literal.ByteString x) ⊎ (l ≡ literal.CString x)) → x.start_suffix ≤ length s
string_inside s l x is (inl e) = start s (rw e at is)
string_inside s l x is (inr (inl e)) = start s (rw e at is)
string_inside s l x is (inr (inr e)) = start s (rw e at is)
