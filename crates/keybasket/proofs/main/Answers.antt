use Rattle.batch_line.proofs.Laws as lines
use Rattle.keybasket.proofs.main.Goals as goal

pub slice_bounds-write_all-end : goal.slice_bounds-write_all-end
slice_bounds-write_all-end c = lines.within c.program_line-end.ensures.wrote
