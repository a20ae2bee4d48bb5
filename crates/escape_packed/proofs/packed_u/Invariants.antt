-- `escape_packed::packed_u`: what its loop keeps.
-- Assumes nothing.
use Rattle.std.proofs.Common.{◌≡◌, ◌≤◌, ◌<◌, ◌^◌, drop}
use Rattle.escape.specs.Escape.{u_escape}
use Rattle.escape_packed.specs.Packed.{packed_escape}
use Rattle.escape_packed.proofs.Braced.{digits_code}
use Rattle.escape_packed.proofs.packed_u.Given as goal

-- what is left is worth the code of the whole
abbrev pub invariant-loop-i : goal.invariant-loop-i
invariant-loop-i l = (l.n ≤ 6) × (l.v < 16 ^ l.n) × (digits_code l.k l.i l.n l.v (drop l.i l.s) ≡ packed_escape (u_escape l.k l.s))
