-- `form_reading::number_of` meets its contract.
-- Assumes nothing.
use Rattle.form_reading.proofs.Readings.{integer_ends}
use Rattle.form_reading.proofs.number_of.Goals as goal

pub slice_bounds-number_within-count : goal.slice_bounds-number_within-count
slice_bounds-number_within-count c = (integer_ends _ c.args.lit c.requires).0

pub slice_bounds-number_within-start : goal.slice_bounds-number_within-start
slice_bounds-number_within-start c = (integer_ends _ c.args.lit c.requires).0

pub slice_bounds-number_within-end : goal.slice_bounds-number_within-end
slice_bounds-number_within-end c = (integer_ends _ c.args.lit c.requires).1
