-- `form_value::extra` meets its contract.
-- Assumes nothing.
use Rattle.form_byte.proofs.Styles as styles
use Rattle.form_value.proofs.extra.Goals as goal

pub overflow_sub-result : goal.overflow_sub-result
overflow_sub-result c = (styles.extra_is _ _ _ _ c.form_len.ensures.0).0

pub returns : goal.returns
returns c = let e = styles.extra_is _ _ _ _ c.form_len.ensures.0 in (e.1, e.2)
