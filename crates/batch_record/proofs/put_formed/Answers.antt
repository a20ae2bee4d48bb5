-- `batch_record::put_formed` meets its contract.
-- Assumes nothing.
use native.Mathlib.Omega.{arith}
use Rattle.batch_line.proofs.Laws as lines
use lib.Seq.{length-take-le}
use Rattle.batch_record.proofs.put_formed.Goals as goal

pub add-requires : goal.add-requires
add-requires c =
    omega (arith, c.put_ok-at.ensures.1, c.add-next.ensures.count, length-take-le c.args.n c.args.out.now c.requires.0, c.requires.1)

pub returns : goal.returns
returns c =
    let p = c.put_ok-at.ensures in
    let q = c.add-next.ensures in
    let f = c.add.ensures in (
      rw (← c.code.ensures, ← c.from.ensures) (lines.also p.0 (lines.added q f (omega (arith, p.1, c.requires.1)))),
      omega (arith, p.1, q.count, f.count, length-take-le c.args.n c.args.out.now c.requires.0),
    )
