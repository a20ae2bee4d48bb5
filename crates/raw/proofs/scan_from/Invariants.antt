-- `raw::scan_from`: what its loop keeps.
-- Assumes nothing.
use mathlib.Core.Path.{◌≡◌}
use Prim.Native.Nat.{◌+◌}
use lib.ListN.{drop}
use Rattle.raw.specs.Scan.{raw_run}
use Rattle.raw.proofs.scan_from.Given as goal

-- the way from the start is what is passed and the way that is left
abbrev pub invariant-loop-i : goal.invariant-loop-i
invariant-loop-i l = l.i + raw_run l.k l.h l.last (drop l.i l.s) ≡ l.from + raw_run l.k l.h l.last (drop l.from l.s)
