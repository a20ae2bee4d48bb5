-- `utf8_blocks::fault` meets its contract.
-- Assumes nothing.
use Rattle.utf8_blocks.proofs.Faults.{fault_is}
use borrow.Author.Rules.{rules}
use Rattle.utf8_blocks.proofs.fault.Goals as goal

pub returns : goal.returns
returns c =
    simp (c.max-3.ensures, c.max-2.ensures, c.max-outside.ensures, c.mask-4.ensures, c.four_byte_lead_against.ensures, c.mask-3.ensures, c.three_byte_lead_against.ensures, c.max-never.ensures, c.mask-2.ensures, c.mask.ensures, c.mask-odd.ensures, c.is_continuation.ensures, c.max-wanted.ensures, c.max.ensures, c.saturating_sub-3.ensures, c.saturating_sub-2.ensures, c.saturating_sub.ensures)
    (fault_is _ _ _ c.args.x (search rules))
