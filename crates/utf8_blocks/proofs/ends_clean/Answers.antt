-- `utf8_blocks::ends_clean` meets its contract.
-- Assumes nothing.
use mathlib.Core.Path.{sym, ◌∙◌}
use borrow.Author.Tests.{le-leb, lt-leb}
use Rattle.utf8_blocks.specs.Faults.{wants_continuation}
use Rattle.utf8_blocks.proofs.Faults.{end_clean, below_same}
use Rattle.utf8_blocks.proofs.ends_clean.Goals.{then-text-n-ge192-via-then-text-n-ge192, then-text-n-ge192-via-else-text-n-ge192+then-text-n-ge224}
use Rattle.utf8_blocks.proofs.ends_clean.Goals as goal

pub returns-then-text-n-ge192 : goal.returns-then-text-n-ge192
unfolding wants_continuation
returns-then-text-n-ge192 c =
    sym (end_clean c.args.text.now c.requires ∙ elim c.then-text-n-ge192.branch [
      | then-text-n-ge192-via-then-text-n-ge192 w ↦ simp (le-leb 0xC0 _ w.if-text-n-ge192.true)
      | then-text-n-ge192-via-else-text-n-ge192+then-text-n-ge224 w ↦ simp (lt-leb 0xC0 _ w.if-text-n-ge192.false, le-leb 0xE0 _ w.if-text-n-ge224.true)
    ])

pub returns : goal.returns
unfolding wants_continuation
returns c =
    sym (end_clean c.args.text.now c.requires ∙ simp (lt-leb 0xC0 _ c.if-text-n-ge192.false, lt-leb 0xE0 _ c.if-text-n-ge224.false, below_same))
