-- `buffer::put_bytes` meets its contract.
-- Assumes nothing.
use mathlib.Core.Path.{refl}
use native.Mathlib.Omega.{arith}
use Rattle.buffer.proofs.Laws.{nothing, wrote_length, copied, copied_all}
use Rattle.buffer.proofs.put_bytes.Goals as goal

pub loop-i-init : goal.loop-i-init
loop-i-init c = nothing _

pub loop-i-preserved : goal.loop-i-preserved
loop-i-preserved c =
    let w = c.loop-i.invariant in
    copied _ w c.loop-i-test.true (omega (arith, wrote_length w (omega (arith, w.count)), c.requires, c.loop-i-test.true))

pub returns : goal.returns
returns c = record { count = refl; bytes = (copied_all _ c.loop-i.invariant c.loop-i-test.false).bytes }
