-- `body::measure` meets its contract.
-- Assumes nothing.
use mathlib.Core.Path.{refl, sym}
use native.Mathlib.Omega.{arith}
use Rattle.utf8.proofs.Cuts.{last_le}
use Rattle.body.proofs.Within.{step_in}
use Rattle.body.proofs.Bodies as bodies
use Rattle.body.proofs.Runs as runs
use Rattle.body.proofs.Turns.{code_turn, run_length, run_turn, code_end, quote_end, run_end}
use Rattle.body.proofs.measure.Goals.{then-b-eq92+then-c-eq0, else-b-eq92+then-b-eq34, else-b-eq92+else-b-eq34+then-e-i}
use Rattle.body.proofs.measure.Goals as goal

pub overflow_sub-end : goal.overflow_sub-end
overflow_sub-end c = omega (arith, c.last_len-last.ensures, last_le c.args.s.now)

pub loop-c-init : goal.loop-c-init
loop-c-init c =
    let e = c.front_end-i.ensures in
    (_, runs.front_passed _ _ _ e, runs.front_length _ _ _ e)

pub overflow_add-n : goal.overflow_add-n
overflow_add-n c =
    let t = code_turn c.args.k c.loop-c.invariant.1 _ _ _ c.packed_at-c.ensures c.if-c-eq0.false refl c.packed_value.ensures in
    omega (arith, c.value_len-n.ensures, t.passed.within, t.passed.short)

pub overflow_add-i : goal.overflow_add-i
overflow_add-i c =
    let t = code_turn c.args.k c.loop-c.invariant.1 _ _ _ c.packed_at-c.ensures c.if-c-eq0.false c.packed_len-i.ensures c.packed_value.ensures in
    omega (arith, t.passed.within)

pub loop-c-smaller-then-b-eq92 : goal.loop-c-smaller-then-b-eq92
loop-c-smaller-then-b-eq92 c =
    let t = code_turn c.args.k c.loop-c.invariant.1 _ _ _ c.packed_at-c.ensures c.if-c-eq0.false c.packed_len-i.ensures c.packed_value.ensures in
    omega (arith, t.on, t.passed.within)

pub loop-c-preserved-then-b-eq92 : goal.loop-c-preserved-then-b-eq92
loop-c-preserved-then-b-eq92 c =
    let t = code_turn c.args.k c.loop-c.invariant.1 _ _ _ c.packed_at-c.ensures c.if-c-eq0.false c.packed_len-i.ensures c.packed_value.ensures in
    (_, t.passed, omega (arith, t.count, c.value_len-n.ensures, c.loop-c.invariant.2))

pub loop-c-preserved : goal.loop-c-preserved
loop-c-preserved c =
    let t = run_turn c.args.k c.loop-c.invariant.1 _ c.plain_end-e.ensures c.if-e-i.false in
    let l = run_length c.args.k c.loop-c.invariant.1 _ c.plain_end-e.ensures in
    (_, t.passed, omega (arith, t.count, l, c.loop-c.invariant.2))

pub ending_at-requires : goal.ending_at-requires
ending_at-requires c = (
  c.last_len-last.ensures,
  elim c.if-b-eq92.branch [
    | then-b-eq92+then-c-eq0 w ↦ code_end c.args.k c.args.s.now c.loop-c.i _ c.byte_at-b.ensures _ w.if-b-eq92.true w.packed_at-c.ensures w.if-c-eq0.true
    | else-b-eq92+then-b-eq34 w ↦ quote_end c.args.k c.args.s.now c.loop-c.i _ c.byte_at-b.ensures w.if-b-eq34.true
    | else-b-eq92+else-b-eq34+then-e-i w ↦ run_end c.args.k c.args.s.now c.loop-c.i _ c.byte_at-b.ensures _ w.if-b-eq92.false w.plain_end-e.ensures w.if-e-i.true
  ],
)

pub returns : goal.returns
returns c =
    let i = c.loop-c.invariant in
    bodies.measures _ 1 (step_in _) i.1 _ (sym c.ending_at.ensures) _ refl i.2 refl
