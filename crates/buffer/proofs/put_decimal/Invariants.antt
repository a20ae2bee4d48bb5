-- `buffer::put_decimal`: what its loop keeps.
-- Assumes nothing.
use mathlib.Core.Path.{◌≡◌}
use Prim.Native.Nat.{◌<◌}
use Rattle.buffer.specs.Buffer.{over}
use Rattle.buffer.specs.Digits.{decimal}
use Rattle.buffer.proofs.Decimals.{Filled}
use Rattle.buffer.proofs.put_decimal.Given as goal

abbrev pub invariant-loop-i : goal.invariant-loop-i
invariant-loop-i l = (0 < l.i → Filled l.n l.rest l.i l.fn.out l.out) × (l.i ≡ 0 → l.out ≡ over (decimal l.n) l.fn.out)
