-- `form_value::extras` meets its contract.
-- Assumes nothing.
use mathlib.Core.Path.{sym, ◌∙◌}
use native.Mathlib.Omega.{arith}
use Rattle.form_byte.proofs.Styles as styles
use Rattle.form_value.proofs.extras.Goals as goal

pub loop-b-preserved : goal.loop-b-preserved
loop-b-preserved c =
    (omega arith, rw c.extra-n.ensures.0 (styles.extras_more _ _ _ _ _ c.loop-b-test.true) ∙ c.loop-b.invariant.1)

pub returns : goal.returns
returns c = sym (styles.extras_end _ _ _ _ _ c.loop-b-test.false) ∙ c.loop-b.invariant.1
