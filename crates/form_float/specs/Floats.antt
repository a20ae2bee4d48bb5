-- How a scaled number is written, and the length of a float's form as it is answered.
-- Assumes nothing.
use Rattle.std.specs.Prelude.{cond, List, ◌∷◌, ◌++◌, ℕ, Option, Some, None}
use Rattle.buffer.specs.Digits.{decimal}
use Rattle.form_decimal.specs.Digits.{digits_of}
use Rattle.scan.specs.Part.{part}
use Rattle.form_decimal.specs.declared.Scaled.{Scaled}

-- `e`, k
-- 101 is `e`, 45 is `-`
abbrev pub power_form : Scaled → List ℕ
power_form r = 101 ∷ cond r.negative (45 ∷ decimal r.power) (decimal r.power)

-- m, `e`, k
abbrev pub scaled_form : List ℕ → Scaled → List ℕ
scaled_form m r = digits_of (part r.first r.last m) ++ power_form r

-- the length of a float's form, or that its power is too far
pub data Length : Type 0 where
  known : ℕ → Length
  too_far : Length

abbrev pub length_of : Option ℕ → Length
length_of (Some n) = known n
length_of None = too_far
