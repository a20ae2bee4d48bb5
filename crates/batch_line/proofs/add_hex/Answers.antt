-- `batch_line::add_hex` meets its contract.
-- Assumes nothing.
use native.Mathlib.Omega.{arith}
use Rattle.batch_line.proofs.Laws as laws
use borrow.Author.Rules.{rules}
use Rattle.batch_line.proofs.add_hex.Goals as goal

pub returns : goal.returns
returns c =
    let s = c.args.bytes.now in (
      rw (laws.hex_some s (search rules)) (laws.added c.add-from.ensures c.add_hexes.ensures (search rules)),
      omega (arith, c.add-from.ensures.count, c.add_hexes.ensures.count, laws.hexes_length s),
    )
