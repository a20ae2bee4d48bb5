-- `form_bound::literal_fits` meets its contract.
-- Assumes nothing.
use Rattle.form_bound.proofs.ByBound.{string_inside}
use Rattle.form_bound.proofs.literal_fits.Goals as goal

pub overflow_sub-text : goal.overflow_sub-text
overflow_sub-text c = string_inside _ c.args.literal c.in-String.lit c.requires c.in-String.is
