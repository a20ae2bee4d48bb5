-- `digits::end_dec_digits` meets its contract.
-- Assumes nothing.
use Prim.Native.Nat.{◌+◌, ◌-◌}
use mathlib.Core.Path.{◌≡◌, sym, ap, ◌∙◌}
use native.Mathlib.Omega.{arith}
use lib.ListN.{take, drop, length-take}
use Rattle.scan.specs.Run.{count_not}
use Rattle.scan.proofs.Runs.{run_part}
use Rattle.scan.proofs.Counts.{count_le, tally_part}
use Rattle.parse.specs.Sets.{digit}
use Rattle.parse.specs.Digits.{is_digit, digit_count}
use borrow.Author.Rules.{rules}
use Rattle.digits.proofs.end_dec_digits.Goals as goal

pub returns-then-block-ne0 : goal.returns-then-block-ne0
unfolding digit_count
returns-then-block-ne0 c =
    let v = c.loop-bytes.invariant in
    let r = c.dec_digits_from.ensures in
    record { end = r.end ∙ v.2; count = r.count ∙ v.3 }

pub loop-bytes-preserved : goal.loop-bytes-preserved
unfolding digit_count
loop-bytes-preserved c =
    let v = c.loop-bytes.invariant in
    let s = c.args.s.now in
    let i = c.loop-bytes.i in
    let is : c.in-Some.bytes.now ≡ take (i + 64 - i) (drop i s) = search rules in
    let clear = sym (c.count_block-block.ensures.0 ∙ ap (count_not (digit 10)) is) ∙ c.if-block-ne0.false in
    let digits = c.count_block-block.ensures.1 ∙ ap (digit_count 10) is in (
      search rules,
      omega (arith, digits, count_le (is_digit 10) (take (i + 64 - i) (drop i s)), length-take (i + 64 - i) (drop i s), v.1),
      sym (run_part _ _ _ _ clear (omega arith) (search rules)) ∙ v.2,
      omega (arith, digits, tally_part (digit 10) (is_digit 10) s i (i + 64) c.loop-bytes.digits clear (omega arith) (search rules), v.3),
    )

pub returns : goal.returns
unfolding digit_count
returns c =
    let v = c.loop-bytes.invariant in
    let r = c.dec_digits_from-2.ensures in
    record { end = r.end ∙ v.2; count = r.count ∙ v.3 }
