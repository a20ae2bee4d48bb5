-- `float::exponent_end` meets its contract.
-- Assumes nothing.
use mathlib.Core.Path.{sym}
use Prim.Native.Nat.{◌+◌}
use native.Mathlib.Omega.{arith}
use Rattle.parse.proofs.Numbers.{e_inside}
use Rattle.float.specs.Float.{digits_end, exponent_end}
use Rattle.float.specs.Counts.{PartScan}
use Rattle.float.proofs.Ends.{sign_after}
use Rattle.float.proofs.Counts.{part_scanned, part_missing, before_exponent}
use Rattle.float.proofs.exponent_end.Goals as goal

pub returns-then-not-has_e : goal.returns-then-not-has_e
unfolding exponent_end
returns-then-not-has_e c = rw (sym c.if-not-has_e.ensures) (part_missing _ _ c.requires)

pub sign_end-from-requires : goal.sign_end-from-requires
sign_end-from-requires c = e_inside _ _ (sym c.if-not-has_e.ensures)

-- the digits after the `e` and its sign
scanned : (c : goal.After-struct_known-1) →
    let a = c.args in
    let from = c.sign_end-from.result in
    let r = c.end_dec_digits-run.result in
    PartScan a.f (digits_end a.text.now from) a.text.now (record { end = from + r.end; digits = r.digits })
scanned c =
    let a = c.args in
    let e = c.sign_end-from.ensures in
    part_scanned _ _ _ _ (omega (arith, e.0, sign_after a.text.now a.f)) e.1 (rw e.0 (before_exponent _ _ (sym c.if-not-has_e.ensures) (rw (← e.0) e.1))) c.end_dec_digits-run.ensures

pub overflow_add-result : goal.overflow_add-result
overflow_add-result c = omega (arith, (scanned c).inside)

pub returns : goal.returns
unfolding exponent_end
returns c = rw (sym c.if-not-has_e.ensures, ← c.sign_end-from.ensures.0) (scanned c)
