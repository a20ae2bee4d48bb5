-- `integer_value::number_within` meets its contract.
-- Assumes nothing.
use Prim.Native.Nat.{◌+◌, ◌*◌, ◌<◌}
use mathlib.Core.Path.{sym, ◌∙◌}
use native.Mathlib.Omega.{arith}
use borrow.Author.Tests.{leb-false}
use Rattle.err.specs.Reading.{base_of}
use Rattle.integer.proofs.Bases.{base_ends}
use Rattle.integer_value.specs.Value.{number}
use Rattle.integer_value.proofs.Numbers.{number_end, number_above, within_given, within_over}
use Rattle.integer_value.proofs.number_within.Goals as goal

-- a digit that takes the number above the largest takes the whole above
pub returns-then-not-is_within : goal.returns-then-not-is_within
unfolding number
returns-then-not-is_within c =
    let base = c.from-by.ensures ∙ c.value.ensures in
    let two = base_ends c.args.base in
    let exceeds : c.args.largest < c.loop-b.n * c.from-by.result + c.from-d.result = leb-false _ _ (sym c.if-not-is_within.ensures) in
    within_over _ _ (rw (← base, ← c.loop-b.invariant.1) (number_above _ _ _ _ _ (omega (arith, base, two.0)) c.loop-b-test.true c.if-b-eq95.false (omega (arith, c.from-d.ensures ∙ c.digit_class.ensures))))

pub returns : goal.returns
unfolding number
returns c =
    let base = c.from-by.ensures ∙ c.value.ensures in
    within_given _ c.loop-b.n (number (base_of c.args.base) c.args.digits.now) (sym (number_end _ _ _ _ c.loop-b-test.false) ∙ c.loop-b.invariant.1 ∙ rw base) c.loop-b.invariant.0
