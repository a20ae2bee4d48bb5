-- `escape::x_escape` meets its contract.
-- Assumes nothing.
use Rattle.std.proofs.Common.{sym, ◌∙◌, arith}
use Rattle.parse.proofs.Classes.{hex_class}
use Rattle.escape.proofs.Escapes as laws
use Rattle.escape.proofs.x_escape.Goals as goal

pub returns-then-not-is_boundary : goal.returns-then-not-is_boundary
returns-then-not-is_boundary c = laws.refused_is_bad c.bad.ensures ∙ laws.x_cut _ _ (cc)

pub returns-in_default : goal.returns-in_default
returns-in_default c = laws.refused_is_bad c.bad-in_default.ensures ∙ laws.x_first _ _ (cc) (cc)

pub returns-in_default-hex_digit_value : goal.returns-in_default-hex_digit_value
returns-in_default-hex_digit_value c = laws.refused_is_bad c.bad-in_default-hex_digit_value.ensures ∙ laws.x_second _ _ (cc) c.in-Some.a (cc) (cc)

pub overflow_mul-a : goal.overflow_mul-a
overflow_mul-a c = omega (arith, hex_class _ _ (sym c.hex_digit_value.ensures ∙ c.in-Some.is))

pub overflow_add-b : goal.overflow_add-b
overflow_add-b c =
    omega (arith, hex_class _ _ (sym c.hex_digit_value.ensures ∙ c.in-Some.is), hex_class _ _ (sym c.hex_digit_value-2.ensures ∙ c.in-Some-hex_digit_value.is))

pub returns : goal.returns
returns c = c.x_byte.ensures ∙ laws.x_value _ _ (cc) c.in-Some.a (cc) c.in-Some-hex_digit_value.b (cc)
