-- `batch_line::add_number` meets its contract.
-- Assumes nothing.
use native.Mathlib.Omega.{arith}
use Rattle.buffer.proofs.Decimals.{decimal_u64}
use Rattle.batch_line.specs.Lines.{number_piece}
use borrow.Author.Rules.{rules}
use Rattle.batch_line.proofs.Laws as laws
use Rattle.batch_line.proofs.add_number.Goals as goal

pub put_decimal-requires : goal.put_decimal-requires
put_decimal-requires c =
    laws.room c.add-from.result _ c.add-from.new.line (omega (arith, decimal_u64 c.args.n (search rules), c.add-from.ensures.count))

pub overflow_add-result : goal.overflow_add-result
overflow_add-result c =
    omega (arith, decimal_u64 c.args.n (search rules), c.add-from.ensures.count, c.put_decimal.ensures.count, c.well_formed)

pub returns : goal.returns
unfolding number_piece
returns c =
    let short = decimal_u64 c.args.n (search rules) in (
      laws.added c.add-from.ensures (laws.rest _ _ c.put_decimal.ensures (omega (arith, short, c.add-from.ensures.count))) (omega (arith, c.requires)),
      omega (arith, short, c.add-from.ensures.count, c.put_decimal.ensures.count),
    )
