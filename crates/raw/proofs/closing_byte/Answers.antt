-- `raw::closing_byte` meets its contract.
-- Assumes nothing.
use borrow.Author.Tests.{eq-eqb, ne_eqb}
use Rattle.raw.specs.Scan.{closing_byte}
use Rattle.raw.proofs.closing_byte.Goals as goal

pub returns-then-h-eq0 : goal.returns-then-h-eq0
unfolding closing_byte
returns-then-h-eq0 c = rw (eq-eqb _ _ c.if-h-eq0.true)

pub returns-else-h-eq0 : goal.returns-else-h-eq0
unfolding closing_byte
returns-else-h-eq0 c = rw (ne_eqb _ _ c.if-h-eq0.false)
