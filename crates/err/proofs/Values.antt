-- Values of one kind are the same exactly where their fields are.
-- Assumes nothing.
use mathlib.Core.Path.{◌≡◌}
use Rattle.err.specs.Outcome.{IntegerValues, FloatValues, digits, ends}

pub digits_same : {a b : IntegerValues} → digits a ≡ digits b → a ≡ b
digits_same h = cc

pub ends_same : {a b : FloatValues} → ends a ≡ ends b → a ≡ b
ends_same h = cc
