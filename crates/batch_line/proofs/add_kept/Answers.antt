-- `batch_line::add_kept` meets its contract.
-- Assumes nothing.
use Rattle.batch_line.specs.Lines.{kept_piece}
use borrow.Author.Rules.{rules}
use Rattle.batch_line.proofs.add_kept.Goals as goal

pub returns-then-is_kept : goal.returns-then-is_kept
unfolding kept_piece
returns-then-is_kept c = (rw (← c.is_kept.ensures, c.if-is_kept.true) c.add.ensures, search rules)

pub returns : goal.returns
unfolding kept_piece
returns c = (rw (← c.is_kept.ensures, c.if-is_kept.false) c.add-2.ensures, search rules)
