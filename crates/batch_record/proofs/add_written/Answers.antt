-- `batch_record::add_written` meets its contract.
-- Assumes nothing.
use mathlib.Core.Path.{sym}
use lib.Seq.{length-take-le}
use native.Mathlib.Omega.{arith}
use Rattle.batch_line.proofs.Laws as lines
use Rattle.batch_record.specs.Records.{written_piece}
use Rattle.batch_record.proofs.add_written.Goals as goal

pub slice_bounds-add_hex-end : goal.slice_bounds-add_hex-end
slice_bounds-add_hex-end c = sym (length-take-le _ _ c.requires.0)

pub add_hex-next-requires : goal.add_hex-next-requires
add_hex-next-requires c =
    omega (arith, length-take-le c.args.n c.args.out.now c.requires.0, c.requires.1)

pub add_kept-requires : goal.add_kept-requires
add_kept-requires c =
    omega (arith, c.add_hex-next.ensures.1, length-take-le c.args.n c.args.out.now c.requires.0, c.requires.1)

pub returns : goal.returns
unfolding written_piece
returns c = (
  lines.added c.add_hex-next.ensures.0 c.add_kept.ensures.0 (omega (arith, c.requires.1)),
  omega (arith, c.add_kept.ensures.1, c.add_hex-next.ensures.1, length-take-le c.args.n c.args.out.now c.requires.0),
)
