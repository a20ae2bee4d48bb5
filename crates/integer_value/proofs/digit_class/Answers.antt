-- `integer_value::digit_class` meets its contract.
-- Assumes nothing.
use mathlib.Core.Path.{sym}
use Rattle.parse.proofs.Classes.{dec_digit_ends, class_digit}
use Rattle.integer_value.proofs.digit_class.Goals as goal

pub overflow_sub-result : goal.overflow_sub-result
overflow_sub-result c = (dec_digit_ends _ (sym c.if-is_decimal.ensures)).0

pub returns-then-is_decimal : goal.returns-then-is_decimal
returns-then-is_decimal c = let d = dec_digit_ends _ (sym c.if-is_decimal.ensures) in sym (class_digit _ d.0 d.1)
