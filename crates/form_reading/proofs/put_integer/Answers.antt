-- `form_reading::put_integer` meets its contract.
-- Assumes nothing.
use Rattle.std.proofs.Common.{◌≡◌, sym, ◌∙◌}
use Rattle.err.specs.Reading.{base_of}
use Rattle.scan.specs.Part.{part}
use Rattle.scan.proofs.Parts.{part_to_end}
use Rattle.integer_value.specs.Value.{number}
use Rattle.form_reading.proofs.Readings.{integer_ends}
use Rattle.form_reading.proofs.Lengths.{same_number, is_some}
use Rattle.form_reading.proofs.put_integer.Goals.{After-unwrap-n}
use Rattle.form_reading.proofs.put_integer.Goals as goal

-- what was worked out is the number that the digits mark
is_number : (c : After-unwrap-n) →
    c.unwrap-n.result ≡ number (base_of c.args.lit.base) (part c.args.lit.start_main_part c.args.lit.end_main_part c.args.text.now)
is_number c = same_number _ (sym c.unwrap-n.ensures ∙ c.number_of.ensures)

pub unwrap-n-requires : goal.unwrap-n-requires
unwrap-n-requires c = is_some _ _ c.number_of.ensures c.requires.1.form

pub slice_bounds-put_form-count : goal.slice_bounds-put_form-count
slice_bounds-put_form-count c = (integer_ends _ c.args.lit c.requires.0).1

pub slice_bounds-put_form-start : goal.slice_bounds-put_form-start
slice_bounds-put_form-start c = (integer_ends _ c.args.lit c.requires.0).1

pub put_form-requires : goal.put_form-requires
put_form-requires c = rw (part_to_end, is_number (goal.at.put_form-requires c).After-unwrap-n) c.requires.1.fits

pub returns : goal.returns
returns c = rw (← is_number (goal.at.returns c).After-unwrap-n) (rw part_to_end at c.put_form.ensures)
