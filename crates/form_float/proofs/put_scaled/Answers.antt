-- `form_float::put_scaled` meets its contract.
-- Assumes nothing.
use Prim.Native.Nat.{◌+◌, ◌≤◌}
use native.Mathlib.Omega.{arith}
use lib.ListN.{length, length-append}
use Rattle.form_decimal.specs.Digits.{digits_of}
use Rattle.scan.specs.Part.{part}
use Rattle.buffer.proofs.Laws as laws
use Rattle.form_float.specs.Floats.{power_form}
use Rattle.form_float.proofs.put_scaled.Goals as goal

pub returns : goal.returns
returns c =
    let r = c.args.r in
    let room : length (digits_of (part r.first r.last c.args.mantissa.now)) + length (power_form r) ≤ length c.args.out.now = omega (arith, simp length-append at c.requires.1) in
    laws.past c.put_digits-at.ensures c.put_power.ensures room
