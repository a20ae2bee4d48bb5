-- `form_decimal::count` meets its contract.
-- Assumes nothing.
use native.Mathlib.Omega.{arith}
use Rattle.std.proofs.lemmas.Grind.{common_steps}
use Rattle.form_decimal.proofs.Digits.{digits_more}
use Rattle.form_decimal.proofs.count.Goals as goal

pub loop-b-preserved : goal.loop-b-preserved
loop-b-preserved c =
    let h = digits_more c.args.s.now c.loop-b.b-index c.loop-b-test.true in
    (grind (arith, common_steps), grind (arith, common_steps))
