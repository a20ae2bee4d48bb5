-- `utf8_validation::short_utf8`: what its loop keeps, and why it ends.
-- Assumes nothing.
use mathlib.Core.Path.{◌≡◌}
use Prim.Native.Nat.{◌-◌}
use lib.ListN.{length, drop}
use Rattle.utf8.specs.Valid.{is_utf8}
use Rattle.utf8_validation.proofs.short_utf8.Given as goal

-- the rest decides
abbrev pub invariant-loop-at : goal.invariant-loop-at
invariant-loop-at l = is_utf8 (drop l.at l.text) ≡ is_utf8 l.text

abbrev pub decreases-loop-at : goal.decreases-loop-at
decreases-loop-at l = length l.text - l.at
