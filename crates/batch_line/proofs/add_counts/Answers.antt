-- `batch_line::add_counts` meets its contract.
-- Assumes nothing.
use native.Mathlib.Omega.{arith}
use borrow.Author.Rules.{rules}
use Rattle.err.proofs.Counts.{no_number}
use Rattle.batch_line.proofs.Laws as laws
use Rattle.batch_line.proofs.add_counts.Goals as goal

pub returns-in_default : goal.returns-in_default
returns-in_default c =
    rw (c.in_default.is, no_number c.in_default.field-0 (search rules)) (laws.added_none _ _ (omega (arith, c.requires)), omega arith)

pub returns-in_default-2 : goal.returns-in_default-2
returns-in_default-2 c = rw c.in_default.is (laws.added_none _ _ (omega (arith, c.requires)), omega arith)
