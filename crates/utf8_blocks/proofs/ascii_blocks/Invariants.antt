-- `utf8_blocks::ascii_blocks`: what its loop keeps, and why it ends.
-- Assumes nothing.
use mathlib.Core.Path.{◌≡◌}
use Prim.Native.Nat.{◌+◌, ◌-◌, ◌≤◌}
use lib.ListN.{length, drop}
use Rattle.scan.specs.Run.{run}
use Rattle.scan.specs.Sets.{ascii}
use Rattle.utf8_blocks.proofs.ascii_blocks.Given as goal

-- the rest is the end of the text, and the run of the text is what is passed and the run of the rest
abbrev pub invariant-loop-block : goal.invariant-loop-block
invariant-loop-block g l =
    (length l.rest ≤ length l.text) × (l.rest ≡ drop (length l.text - length l.rest) l.text)
    × (length l.text - length l.rest + run ascii l.rest ≡ run ascii l.text)

abbrev pub decreases-loop-block : goal.decreases-loop-block
decreases-loop-block g l = length l.rest
