-- `form_string::form_len` meets its contract.
-- Assumes nothing.
use Rattle.std.proofs.Common.{length, ap, arith}
use Rattle.form_string.proofs.Bare.{read_length, opening_short}
use Rattle.form_string.proofs.form_len.Goals as goal

pub returns : goal.returns
returns c =
    let p = c.requires in
    let o = ap length c.opening.ensures in
    let v = c.content_len.ensures in
    (omega (arith, o, v.0, read_length c.args.k c.args.text.now c.args.lit p.0.1 p.1), omega (arith, o, opening_short c.args.k, v.1))
