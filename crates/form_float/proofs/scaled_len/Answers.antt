-- `form_float::scaled_len` meets its contract.
-- Assumes nothing.
use native.Mathlib.Omega.{arith}
use lib.ListN.{length-append}
use Rattle.buffer.proofs.Decimals.{decimal_u64}
use Rattle.form_decimal.proofs.Digits.{part_short}
use Rattle.form_float.proofs.scaled_len.Goals as goal

pub overflow_add-n-2 : goal.overflow_add-n-2
overflow_add-n-2 c =
    let r = c.args.r in
    omega (arith, c.digits_len.ensures.1, c.decimal_len.ensures, part_short r.first r.last 65536 c.args.mantissa.now c.requires.0, decimal_u64 r.power (omega arith))

pub overflow_add-result : goal.overflow_add-result
overflow_add-result c =
    let r = c.args.r in
    omega (arith, c.digits_len.ensures.1, c.decimal_len.ensures, part_short r.first r.last 65536 c.args.mantissa.now c.requires.0, decimal_u64 r.power (omega arith))

pub returns-then-r : goal.returns-then-r
returns-then-r c =
    let r = c.args.r in
    let f = c.digits_len.ensures in
    let d = c.decimal_len.ensures in
    (rw c.if-r.true (simp length-append (omega arith)), omega (arith, part_short r.first r.last 65536 c.args.mantissa.now c.requires.0, decimal_u64 r.power (omega arith)))

pub returns : goal.returns
returns c =
    let r = c.args.r in
    let f = c.digits_len.ensures in
    let d = c.decimal_len.ensures in
    (rw c.if-r.false (simp length-append (omega arith)), omega (arith, part_short r.first r.last 65536 c.args.mantissa.now c.requires.0, decimal_u64 r.power (omega arith)))
