-- `form_value::forms_len` meets its contract.
-- Assumes nothing.
use Rattle.std.proofs.Common.{◌≡◌, ◌+◌, arith, rules, ap, ◌∙◌}
use Rattle.std.specs.Slice.Iter.{chunks_rest}
use Rattle.form_byte.specs.Styled.{extras_of}
use Rattle.form_byte.proofs.Styles as styles
use Rattle.form_value.proofs.forms_len.Goals as goal

-- the block's are the first of those left
first : (c : goal.After-from-n) →
    let x = extras_of c.args.style.verbatim c.args.style.quote in
    x (chunks_rest c.loop-block.block-iterator) ≡ c.extras.result + x (chunks_rest c.next.new.self)
first c =
    let x = extras_of c.args.style.verbatim c.args.style.quote in
    let e = ap x c.in-Some.ensures.steps.1.0 in
    omega (arith, simp styles.extras_append at e, c.extras.ensures)

pub loop-block-init : goal.loop-block-init
loop-block-init c = (search rules, tt, search rules, search rules)

pub extras-requires : goal.extras-requires
extras-requires c = omega (arith, c.in-Some.ensures.steps.1.1, c.loop-block.invariant.2)

pub overflow_add-n : goal.overflow_add-n
overflow_add-n c = omega (arith, first c, c.loop-block.invariant.3, styles.extras_short c.args.style.verbatim c.args.style.quote c.args.s.now, c.requires)

pub loop-block-preserved : goal.loop-block-preserved
loop-block-preserved c =
    let s = c.in-Some.ensures.steps in
    (omega (arith, s.0, c.loop-block.invariant.2), tt, s.0 ∙ c.loop-block.invariant.2, omega (arith, first c, c.loop-block.invariant.3))

pub returns : goal.returns
returns c =
    let w = c.args.style.verbatim in
    let q = c.args.style.quote in
    let none = styles.extras_short w q (chunks_rest c.loop-block.block-iterator) in
    styles.all_measured w q c.args.s.now _
    (rw styles.forms_extras (omega (arith, none, c.in-None.ensures.steps.1.0, c.loop-block.invariant.3)))
