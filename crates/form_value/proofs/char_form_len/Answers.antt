-- `form_value::char_form_len` meets its contract.
-- Assumes nothing.
use mathlib.Core.Path.{sym, ap, ◌∙◌}
use native.Mathlib.Omega.{arith}
use lib.ListN.{length}
use Rattle.utf8.proofs.Laws.{encode_length}
use Rattle.form_byte.proofs.Styles as styles
use Rattle.form_value.proofs.char_form_len.Goals as goal

pub returns-then-c-lt128 : goal.returns-then-c-lt128
returns-then-c-lt128 c =
    (c.form_len.ensures.0 ∙ sym (ap length (styles.forms_ascii _ _ _ c.if-c-lt128.true)), omega (arith, c.form_len.ensures.1))

pub returns-then-style : goal.returns-then-style
returns-then-style c = (
  rw (c.if-style.true, styles.char_wide _ _ c.if-c-lt128.false) c.encoded_len-n.ensures,
  omega (arith, c.encoded_len-n.ensures, (encode_length c.args.c).1),
)

pub overflow_mul-result : goal.overflow_mul-result
overflow_mul-result c = omega (arith, c.encoded_len-n.ensures, (encode_length c.args.c).1)

pub returns : goal.returns
returns c = (
  rw (c.if-style.false, styles.char_escaped _ _ c.if-c-lt128.false) (omega (arith, c.encoded_len-n.ensures)),
  omega (arith, c.encoded_len-n.ensures, (encode_length c.args.c).1),
)
