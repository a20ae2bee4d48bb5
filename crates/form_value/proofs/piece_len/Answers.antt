-- `form_value::piece_len` meets its contract.
-- Assumes nothing.
use native.Mathlib.Omega.{arith}
use Rattle.form_byte.proofs.Styles as styles
use Rattle.form_value.proofs.piece_len.Goals as goal

pub returns-in-Byte : goal.returns-in-Byte
returns-in-Byte c = (rw (c.in-Byte.is, styles.forms_one) c.form_len.ensures.0, omega (arith, c.form_len.ensures.1))

pub returns-in-Unicode : goal.returns-in-Unicode
returns-in-Unicode c = rw c.in-Unicode.is c.char_form_len.ensures
