-- `form_byte::put_x` meets its contract.
-- Assumes nothing.
use native.Mathlib.Omega.{arith}
use Rattle.buffer.proofs.Laws as laws
use Rattle.form_byte.proofs.Styles as styles
use Rattle.form_byte.proofs.put_x.Goals as goal

pub overflow_add-result : goal.overflow_add-result
overflow_add-result c =
    omega (arith, c.put_bytes-at.ensures.count, c.put_hex.ensures.count, styles.x_length c.args.b)

pub returns : goal.returns
returns c =
    laws.past c.put_bytes-at.ensures c.put_hex.ensures
    (omega (arith, styles.x_length c.args.b, c.requires))
