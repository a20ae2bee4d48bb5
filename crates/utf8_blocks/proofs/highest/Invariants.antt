-- `utf8_blocks::highest`: what its loop keeps.
-- Assumes nothing.
use mathlib.Core.Path.{◌≡◌}
use lib.ListN.{drop}
use Rattle.utf8_blocks.specs.HighBytes.{highest_from}
use Rattle.utf8_blocks.proofs.highest.Given as goal

abbrev pub invariant-loop-b : goal.invariant-loop-b
invariant-loop-b l = highest_from l.high (drop l.b-index l.s) ≡ highest_from 0 l.s
