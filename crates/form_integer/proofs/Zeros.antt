-- The form of an integer by the test of the code, whether a zero is written twice.
-- Assumes nothing.
use mathlib.Core.Path.{◌≡◌}
use mathlib.Core.Bool.{true, false}
use mathlib.Core.List.{List, [], ◌∷◌}
use Prim.Native.Nat.{ℕ}
use Rattle.buffer.specs.Digits.{decimal}
use Rattle.form.specs.Form.{integer_form}
use Rattle.form_integer.specs.Integers.{doubled}

-- the two forms
pub twice : (n : ℕ) (x : List ℕ) → doubled n x ≡ true → integer_form n x ≡ 48 ∷ 48 ∷ []
unfolding doubled integer_form
twice n x e = simp e

pub once : (n : ℕ) (x : List ℕ) → doubled n x ≡ false → integer_form n x ≡ decimal n
unfolding doubled integer_form
once n x e = simp e
