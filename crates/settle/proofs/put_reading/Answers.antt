-- `settle::put_reading` meets its contract.
-- Assumes nothing.
use Rattle.std.proofs.Common.{arith}
use Rattle.scan.proofs.Parts.{part_to_end}
use Rattle.buffer.proofs.Laws as laws
use Rattle.settle.proofs.Forms.{form_inside, form_split, fits_both, roomy}
use Rattle.settle.proofs.put_reading.Goals as goal

pub put_bare-at-requires : goal.put_bare-at-requires
put_bare-at-requires c = (c.requires.0, roomy _ _ c.requires.1)

pub slice_bounds-put_bytes-count : goal.slice_bounds-put_bytes-count
slice_bounds-put_bytes-count c = laws.within c.put_bare-at.ensures (roomy _ _ c.requires.1).fits

pub slice_bounds-put_bytes-start : goal.slice_bounds-put_bytes-start
slice_bounds-put_bytes-start c = laws.within c.put_bare-at.ensures (roomy _ _ c.requires.1).fits

pub slice_bounds-put_bytes-count-2 : goal.slice_bounds-put_bytes-count-2
slice_bounds-put_bytes-count-2 c =
    omega (arith, (form_inside _ _ c.requires.0 c.requires.1.form).0, c.start_suffix-start.ensures)

pub slice_bounds-put_bytes-start-2 : goal.slice_bounds-put_bytes-start-2
slice_bounds-put_bytes-start-2 c =
    omega (arith, (form_inside _ _ c.requires.0 c.requires.1.form).0, c.start_suffix-start.ensures)

pub put_bytes-requires : goal.put_bytes-requires
put_bytes-requires c =
    rw (part_to_end c.start_suffix-start.result c.args.text.now, c.start_suffix-start.ensures)
    (laws.room _ c.put_bare-at.ensures (fits_both _ _ c.requires.1))

pub overflow_add-result : goal.overflow_add-result
overflow_add-result c =
    let suffix = rw (part_to_end c.start_suffix-start.result c.args.text.now, c.start_suffix-start.ensures) at c.put_bytes.ensures in
    omega (arith, c.put_bare-at.ensures.count, suffix.count, fits_both _ _ c.requires.1, c.well_formed)

pub returns : goal.returns
returns c =
    let suffix = rw (part_to_end c.start_suffix-start.result c.args.text.now, c.start_suffix-start.ensures) at c.put_bytes.ensures in
    rw (form_split _ _ c.requires.1.form) (laws.past c.put_bare-at.ensures suffix (fits_both _ _ c.requires.1))
