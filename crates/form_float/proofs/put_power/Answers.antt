-- `form_float::put_power` meets its contract.
-- Assumes nothing.
use Prim.Native.Nat.{◌+◌, ◌≤◌}
use native.Mathlib.Omega.{arith}
use lib.ListN.{length}
use Rattle.buffer.specs.Digits.{decimal}
use Rattle.buffer.proofs.Laws as laws
use Rattle.form_float.proofs.put_power.Goals as goal

pub returns-then-r : goal.returns-then-r
returns-then-r c =
    let room : 2 + length (decimal c.args.r.power) ≤ length c.args.out.now = omega (arith, rw c.if-r.true at c.requires) in
    rw c.if-r.true (laws.past c.put_bytes-at.ensures c.put_decimal.ensures room)

pub returns : goal.returns
returns c =
    let room : 1 + length (decimal c.args.r.power) ≤ length c.args.out.now = omega (arith, rw c.if-r.false at c.requires) in
    rw c.if-r.false (laws.past c.put_bytes-at-2.ensures c.put_decimal-2.ensures room)
