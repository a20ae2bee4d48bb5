-- What both `from_suffix` return: "The `from_suffix` of integers knows 1 to 12, that of floats 13 and 14; each answers 0 to every
-- other name, of any bytes and length."
-- Assumes nothing.
use Rattle.std.specs.Prelude.{ℕ, List, Option, Some, None}
use Rattle.types.specs.Types.{integer_named, integer_code, float_named, float_code}
use Rattle.types.specs.declared.IntegerType.{IntegerType}
use Rattle.types.specs.declared.FloatType.{FloatType}

abbrev pub code_of_integer : Option IntegerType → ℕ
code_of_integer (Some t) = integer_code t
code_of_integer None = 0

unfoldable pub integer_from_suffix : List ℕ → ℕ
integer_from_suffix name = code_of_integer (integer_named name)

abbrev pub code_of_float : Option FloatType → ℕ
code_of_float (Some t) = float_code t
code_of_float None = 0

unfoldable pub float_from_suffix : List ℕ → ℕ
float_from_suffix name = code_of_float (float_named name)
