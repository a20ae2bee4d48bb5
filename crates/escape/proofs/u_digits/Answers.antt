-- `escape::u_digits` meets its contract.
-- Assumes nothing.
use Rattle.std.proofs.Common.{sym, ap, ◌∙◌, arith, ◌+◌, length}
use Rattle.parse.proofs.Classes.{hex_class}
use Rattle.escape.specs.Escape.{u_hex}
use Rattle.escape.proofs.Escapes.{refused_is_bad}
use Rattle.escape.proofs.Hexes as hexes
use Rattle.escape.proofs.u_digits.Goals as goal

pub returns-in_default : goal.returns-in_default
returns-in_default c =
    refused_is_bad c.bad_digit.ensures
    ∙ ap (u_hex c.args.k (length c.args.d.now + 4))
    (sym (hexes.no_digit _ _ _ _ c.loop-i-test.true c.if-b-eq95.false (sym c.hex_digit_value.ensures ∙ c.in_default.is))
    ∙ c.loop-i.invariant.2)

pub returns-then-n-eq6 : goal.returns-then-n-eq6
returns-then-n-eq6 c =
    refused_is_bad c.bad_digit-then-n-eq6.ensures
    ∙ ap (u_hex c.args.k (length c.args.d.now + 4))
    (sym (hexes.too_many _ _ _ _ c.loop-i-test.true c.if-b-eq95.false _ (sym c.hex_digit_value.ensures ∙ c.in-Some.is) c.if-n-eq6.true)
    ∙ c.loop-i.invariant.2)

pub overflow_mul-v : goal.overflow_mul-v
overflow_mul-v c = let i = c.loop-i.invariant in omega (arith, hexes.small _ _ i.0 c.if-n-eq6.false i.1)

pub overflow_add-v : goal.overflow_add-v
overflow_add-v c =
    let i = c.loop-i.invariant in
    omega (arith, hexes.small _ _ i.0 c.if-n-eq6.false i.1, hex_class _ _ (sym c.hex_digit_value.ensures ∙ c.in-Some.is))

pub loop-i-preserved : goal.loop-i-preserved
loop-i-preserved c =
    let i = c.loop-i.invariant in
    let is = sym c.hex_digit_value.ensures ∙ c.in-Some.is in
    rw c.from.ensures (
      omega arith,
      hexes.longer _ _ _ (hex_class _ _ is).1 i.1,
      sym (hexes.digit _ _ _ _ c.loop-i-test.true c.if-b-eq95.false _ is c.if-n-eq6.false) ∙ i.2,
    )
