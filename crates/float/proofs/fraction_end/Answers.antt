-- `float::fraction_end` meets its contract.
-- Assumes nothing.
use mathlib.Core.Path.{sym, ◌∙◌}
use Prim.Native.Nat.{◌+◌}
use native.Mathlib.Omega.{arith}
use borrow.Author.Tests.{eq-eqb, ne_eqb}
use Rattle.scan.proofs.Bytes.{byte_inside}
use Rattle.float.specs.Float.{digits_end, fraction_end}
use Rattle.float.specs.Counts.{PartScan}
use Rattle.float.proofs.Counts as counts
use Rattle.float.proofs.fraction_end.Goals as goal

pub returns-then-byte_at-ne46 : goal.returns-then-byte_at-ne46
unfolding fraction_end
returns-then-byte_at-ne46 c = rw (← c.byte_at.ensures, ne_eqb _ _ c.if-byte_at-ne46.true) (counts.part_missing _ _ c.requires)

-- the digits after the period
scanned : (c : goal.After-struct_known-1) →
    let a = c.args in
    let r = c.end_dec_digits-run.result in
    PartScan a.i (digits_end a.text.now (a.i + 1)) a.text.now (record { end = a.i + 1 + r.end; digits = r.digits })
scanned c =
    let b = sym c.byte_at.ensures ∙ c.if-byte_at-ne46.false in
    let h = byte_inside c.args.text.now _ 46 b (omega arith) in
    counts.part_scanned _ _ _ _ (omega arith) (omega (arith, h)) (counts.period _ _ h b) c.end_dec_digits-run.ensures

pub overflow_add-result : goal.overflow_add-result
overflow_add-result c = omega (arith, (scanned c).inside)

pub returns : goal.returns
unfolding fraction_end
returns c = rw (← c.byte_at.ensures, eq-eqb _ _ c.if-byte_at-ne46.false) (scanned c)
