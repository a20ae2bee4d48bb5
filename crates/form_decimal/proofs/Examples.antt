-- A float's text, its number, its form and where the form's digits stand; and a power that is too far.
-- Assumes nothing.
use mathlib.Core.Path.{◌≡◌, refl}
use mathlib.Core.Bool.{false}
use mathlib.Core.List.{List, [], ◌∷◌}
use Prim.Native.Nat.{ℕ}
use Rattle.scan.specs.Run.{run}
use Rattle.buffer.specs.Digits.{decimal}
use Rattle.grammar.specs.Suffixes.{LOW}
use Rattle.grammar.specs.Numbers.{SIGN}
use Rattle.grammar.specs.Values.{digit_value, number_in}
use Rattle.form.specs.Reduced.{zeros, strip, reduce}
use Rattle.form.specs.Form.{reduced_form}
use Rattle.parse.specs.Class.{class_of}
use Rattle.parse.specs.Sets.{dec_digit}
use Rattle.form_decimal.specs.Digits.{significant, insignificant, digits_of, last_end}
use Rattle.scan.specs.Part.{part}
use Rattle.form_decimal.specs.Scaled.{float_at, power_in_range}

-- `00_1.5_00e+0_7f64`, whose parts end at 4, 9 and 14
abbrev pub text : List ℕ
text = 48 ∷ 48 ∷ 95 ∷ 49 ∷ 46 ∷ 53 ∷ 95 ∷ 48 ∷ 48 ∷ 101 ∷ 43 ∷ 48 ∷ 95 ∷ 55 ∷ 102 ∷ 54 ∷ 52 ∷ []

pub record Examples : Type 0 where
  -- 1500 · 10^7 / 10^3
  pub number : float_at text 4 9 14 ≡ record { coef = 1500; up = 7; down = 3 }
  -- `15e6`
  pub form : reduced_form (reduce (float_at text 4 9 14)) ≡ 49 ∷ 53 ∷ 101 ∷ 54 ∷ []
  -- 15 stands from 3 to 6
  pub first : run insignificant (part 0 9 text) ≡ 3
  pub last : last_end (part 0 9 text) ≡ 6
  pub digits : digits_of (part 3 6 text) ≡ 49 ∷ 53 ∷ []
  -- `1e-1000001`
  pub far : power_in_range (float_at (49 ∷ 101 ∷ 45 ∷ 49 ∷ 48 ∷ 48 ∷ 48 ∷ 48 ∷ 48 ∷ 49 ∷ []) 1 1 10) ≡ false

pub examples : Examples
unfolding float_at number_in digit_value LOW SIGN zeros strip reduce reduced_form decimal class_of dec_digit significant insignificant
examples = record { number = refl; form = refl; first = refl; last = refl; digits = refl; far = refl }
