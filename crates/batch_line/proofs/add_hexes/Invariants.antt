-- `batch_line::add_hexes`: what its loop keeps.
-- Assumes nothing.
use lib.ListN.{take}
use Rattle.batch_line.specs.Lines.{Added, hexes}
use Rattle.batch_line.proofs.add_hexes.Given as goal

abbrev pub invariant-loop-b : goal.invariant-loop-b
invariant-loop-b l = Added (hexes (take l.b-index l.bytes)) l.at l.end l.initial.line l.line
