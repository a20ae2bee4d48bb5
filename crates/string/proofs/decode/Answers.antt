-- `string::decode` meets its contract.
-- Assumes nothing.
use mathlib.Core.Path.{sym}
use native.Mathlib.Omega.{arith}
use Rattle.string.proofs.Literals.{value_length}
use Rattle.string.proofs.Decodes.{decode_small, decode_written}
use Rattle.string.proofs.decode.Goals as goal

pub returns-then-out-lit : goal.returns-then-out-lit
returns-then-out-lit c =
    let p = c.requires.1 in
    let e = c.perr_nowhere.ensures in
    let both = decode_small _ _ c.args.out.now p (omega (arith, value_length _ _ (sym p), c.if-out-lit.true)) in
    record { answer = cc; out_after = both.1 }

pub returns : goal.returns
returns c =
    let p = c.requires.1 in
    let w = c.put_decoded.ensures in
    let both = decode_written _ _ c.args.out.now p (omega (arith, value_length _ _ (sym p), c.if-out-lit.false)) in
    rw (w.count, w.bytes) (record { answer = both.0; out_after = both.1 })
