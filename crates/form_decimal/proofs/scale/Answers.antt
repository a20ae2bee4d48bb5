-- `form_decimal::scale` meets its contract.
-- Assumes nothing.
use mathlib.Core.Path.{sym, ◌∙◌}
use native.Mathlib.Omega.{arith}
use Rattle.form_decimal.proofs.Digits.{part_short}
use Rattle.form_decimal.proofs.Capped.{capped_most}
use Rattle.form_decimal.proofs.Texts as texts
use Rattle.form_decimal.proofs.scale.Goals as goal

pub slice_bounds-mantissa-end : goal.slice_bounds-mantissa-end
slice_bounds-mantissa-end c = sym (texts.mantissa_length _ _ _ _ c.requires.0 c.requires.1)

pub returns-then-last-eq0 : goal.returns-then-last-eq0
returns-then-last-eq0 c = texts.found_zero _ _ _ _ c.requires.0 c.requires.1 (sym c.last_end-last.ensures ∙ c.if-last-eq0.true)

pub slice_bounds-digits_len-count : goal.slice_bounds-digits_len-count
slice_bounds-digits_len-count c = rw c.last_end-last.ensures (texts.last_inside _ _ _ _ c.requires.0 c.requires.1)

pub slice_bounds-digits_len-start : goal.slice_bounds-digits_len-start
slice_bounds-digits_len-start c = rw c.last_end-last.ensures (texts.last_inside _ _ _ _ c.requires.0 c.requires.1)

pub slice_bounds-digits_len-end : goal.slice_bounds-digits_len-end
slice_bounds-digits_len-end c = omega (arith, texts.order _ _ _ _ c.requires.0 c.requires.1)

pub slice_bounds-digits_len-count-2 : goal.slice_bounds-digits_len-count-2
slice_bounds-digits_len-count-2 c = (texts.order _ _ _ _ c.requires.0 c.requires.1).0

pub slice_bounds-digits_len-start-2 : goal.slice_bounds-digits_len-start-2
slice_bounds-digits_len-start-2 c = (texts.order _ _ _ _ c.requires.0 c.requires.1).0

pub slice_bounds-digits_len-end-2 : goal.slice_bounds-digits_len-end-2
slice_bounds-digits_len-end-2 c = omega (arith, texts.order _ _ _ _ c.requires.0 c.requires.1)

pub exponent_start-start-requires : goal.exponent_start-start-requires
exponent_start-start-requires c = (texts.order _ _ _ _ c.requires.0 c.requires.1).1.0

pub slice_bounds-exponent_of-end : goal.slice_bounds-exponent_of-end
slice_bounds-exponent_of-end c = (texts.order _ _ _ _ c.requires.0 c.requires.1).1.1

-- the size of an exponent is clamped, and a text has no more digits than bytes
pub overflow_add-ex : goal.overflow_add-ex
overflow_add-ex c =
    let l = c.args.lit in
    omega (arith, capped_most _ _ c.exponent_of-ex.ensures.1, c.digits_len-places.ensures.1, part_short l.end_integer_part l.end_fractional_part 65536 c.args.text.now c.requires.0)

pub returns-then-ex : goal.returns-then-ex
returns-then-ex c =
    rw c.to_power.ensures
    (texts.found_down _ _ _ _ c.requires.0 c.requires.1 c.last_end-last.result _ _ _ _ _ _ c.last_end-last.ensures c.if-last-eq0.false c.lead_len-first.ensures
    c.digits_len-zeros.ensures.0 c.digits_len-places.ensures.0 c.exponent_start-start.ensures.1
    c.exponent_of-ex.ensures.0 c.exponent_of-ex.ensures.1 c.if-ex.true)

pub overflow_add-ex-2 : goal.overflow_add-ex-2
overflow_add-ex-2 c =
    omega (arith, capped_most _ _ c.exponent_of-ex.ensures.1, c.digits_len-zeros.ensures.1, part_short c.last_end-last.result c.args.lit.end_fractional_part 65536 c.args.text.now c.requires.0)

pub returns : goal.returns
returns c =
    rw c.to_power-2.ensures
    (texts.found_up _ _ _ _ c.requires.0 c.requires.1 c.last_end-last.result _ _ _ _ _ _ c.last_end-last.ensures c.if-last-eq0.false c.lead_len-first.ensures
    c.digits_len-zeros.ensures.0 c.digits_len-places.ensures.0 c.exponent_start-start.ensures.1
    c.exponent_of-ex.ensures.0 c.exponent_of-ex.ensures.1 c.if-ex.false)
