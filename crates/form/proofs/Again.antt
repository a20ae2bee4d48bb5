-- THE LAW of forms: the form of a text's meaning means the same, with its number reduced.
-- Assumes nothing.
use mathlib.Core.Path.{◌≡◌, refl, subst⁻¹}
use mathlib.Core.Bool.{true, false}
use mathlib.Core.List.{List, []}
use Prim.Native.Nat.{ℕ}
use Rattle.grammar.specs.Meaning.{Worth, SameWorth, same, same_float, Means, is_true, is_false, is_integer, is_float, is_char, is_string, is_raw_string, is_byte, is_byte_string, is_raw_byte_string, is_c_string, is_raw_c_string}
use Rattle.grammar.specs.Meaning as worth
use Rattle.form.specs.Form.{form_of}
use Rattle.form.proofs.Reduce.{reduce_value}
use Rattle.form.proofs.Fit.{Fit, settled_worth}
use Rattle.form.proofs.Behind.{after_integer_lem, after_float}
use Rattle.form.proofs.AgainInteger.{integer_again}
use Rattle.form.proofs.AgainFloat.{float_again}
use Rattle.form.proofs.AgainQuoted.{char_again, string_again, byte_again, byte_string_again, c_string_again}

module _ (x : List ℕ) where
  -- what is to be shown of a worth
  abbrev Goal : Worth → Type 0
  Goal w = Fit w → Means (form_of w x) (settled_worth w) x

  true_again : x ≡ [] → Goal (worth.Worth.bool true)
  unfolding form_of
  true_again e f = rw e (is_true refl refl refl)

  false_again : x ≡ [] → Goal (worth.Worth.bool false)
  unfolding form_of
  false_again e f = rw e (is_false refl refl refl)

pub again : (s : List ℕ) (w : Worth) (x : List ℕ) → Means s w x → Fit w → Means (form_of w x) (settled_worth w) x
again s w x (is_true e i z) = subst⁻¹ (Goal x) i (true_again x z)
again s w x (is_false e i z) = subst⁻¹ (Goal x) i (false_again x z)
again s w x (is_integer t i z) =
    subst⁻¹ (Goal x) i (λ f. rw z (integer_again _ t.suffix t.ending (after_integer_lem s t)))
again s w x (is_float t i z) = subst⁻¹ (Goal x) i (λ f. rw z (float_again _ t.suffix (after_float s t)))
again s w x (is_char v t i) = subst⁻¹ (Goal x) i (char_again x t.ending v)
again s w x (is_string v t i) = subst⁻¹ (Goal x) i (string_again x t.ending v)
again s w x (is_raw_string v t i) = subst⁻¹ (Goal x) i (string_again x t.ending v)
again s w x (is_byte v t i) = subst⁻¹ (Goal x) i (byte_again x t.ending v)
again s w x (is_byte_string v t i) = subst⁻¹ (Goal x) i (byte_string_again x t.ending v)
again s w x (is_raw_byte_string v t i) = subst⁻¹ (Goal x) i (byte_string_again x t.ending v)
again s w x (is_c_string v t i) = subst⁻¹ (Goal x) i (c_string_again x t.ending v)
again s w x (is_raw_c_string v t i) = subst⁻¹ (Goal x) i (c_string_again x t.ending v)

-- and this is the same worth
pub settled_same : (w : Worth) → SameWorth w (settled_worth w)
settled_same (worth.Worth.bool b) = same
settled_same (worth.Worth.integer n) = same
settled_same (worth.Worth.float d) = same_float (reduce_value d)
settled_same (worth.Worth.char c) = same
settled_same (worth.Worth.string v) = same
settled_same (worth.Worth.byte b) = same
settled_same (worth.Worth.byte_string v) = same
settled_same (worth.Worth.c_string v) = same
