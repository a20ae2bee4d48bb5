-- `buffer::put_decimal` meets its contract.
-- Assumes nothing.
use native.Mathlib.Omega.{arith}
use Rattle.buffer.proofs.Decimals.{filled_start, filled_turn, some}
use Rattle.buffer.proofs.put_decimal.Goals as goal

pub loop-i-init : goal.loop-i-init
loop-i-init c = (λ p. filled_start _ _ _ c.decimal_len-k.ensures, λ z. absurd (omega (arith, c.decimal_len-k.ensures, some c.args.n)))

pub loop-i-preserved : goal.loop-i-preserved
loop-i-preserved c = filled_turn c.requires (c.loop-i.invariant.0 c.loop-i-test.true)

pub returns : goal.returns
returns c = record { count = c.decimal_len-k.ensures; bytes = c.loop-i.invariant.1 (omega (arith, c.loop-i-test.false)) }
