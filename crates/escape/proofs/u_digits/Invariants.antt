-- `escape::u_digits`: what its loop keeps.
-- Assumes nothing.
use Rattle.std.proofs.Common.{◌≡◌, ◌≤◌, ◌<◌, ◌^◌, drop}
use Rattle.escape.specs.Escape.{hex_from}
use Rattle.escape.proofs.u_digits.Given as goal

-- the scan of what is left, after n digits worth v, is the scan of the whole
abbrev pub invariant-loop-i : goal.invariant-loop-i
invariant-loop-i l = (l.n ≤ 6) × (l.v < 16 ^ l.n) × (hex_from l.i l.n l.v (drop l.i l.d) ≡ hex_from 0 0 0 l.d)
