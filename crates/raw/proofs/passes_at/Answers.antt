-- `raw::passes_at` meets its contract.
-- Assumes nothing.
use borrow.Author.Tests.{eq-eqb, ne_eqb}
use Rattle.raw.specs.Scan.{passes}
use Rattle.raw.proofs.passes_at.Goals as goal

pub returns-then-not-is_raw_plain : goal.returns-then-not-is_raw_plain
unfolding passes
returns-then-not-is_raw_plain c = rw (← c.if-not-is_raw_plain.ensures)

pub returns-then-b-ne34 : goal.returns-then-b-ne34
unfolding passes
returns-then-b-ne34 c = rw (← c.if-not-is_raw_plain.ensures, ne_eqb _ _ c.if-b-ne34.true)

pub returns : goal.returns
unfolding passes
returns c =
    rw (← c.if-not-is_raw_plain.ensures, eq-eqb _ _ c.if-b-ne34.false, c.byte_at.ensures)
