-- `body_value::write_value` meets its contract.
-- Assumes nothing.
use mathlib.Core.Path.{refl}
use mathlib.Core.List.{[]}
use native.Mathlib.Omega.{arith}
use Rattle.buffer.proofs.Laws.{nothing}
use Rattle.utf8.proofs.Cuts.{last_le}
use Rattle.body.proofs.Bodies.{start}
use Rattle.body.proofs.Turns.{code_turn, code_valid, run_turn, code_end, run_end}
use Rattle.body_value.proofs.Writes.{written, fits, further}
use Rattle.body_value.proofs.write_value.Goals as goal

pub overflow_sub-end : goal.overflow_sub-end
overflow_sub-end c = omega (arith, c.last_len.ensures, last_le c.args.s.now)

pub loop-c-init : goal.loop-c-init
loop-c-init c = ([], start _ _, nothing _)

pub returns-then-c-eq0 : goal.returns-then-c-eq0
returns-then-c-eq0 c =
    let a = c.args in
    written a.k c.loop-c.invariant.1 c.loop-c.invariant.2 c.requires.1
    (code_end a.k a.s.now c.loop-c.i _ c.byte_at.ensures _ c.if-byte_at-eq92.true c.packed_at-c.ensures c.if-c-eq0.true)

pub put_value-at-requires : goal.put_value-at-requires
put_value-at-requires c =
    let k = c.args.k in
    let p = c.loop-c.invariant.1 in
    let t = code_turn k p _ _ _ c.packed_at-c.ensures c.if-c-eq0.false refl c.packed_value.ensures in
    (code_valid k p _ _ _ c.packed_at-c.ensures c.if-c-eq0.false refl c.packed_value.ensures, fits k p c.loop-c.invariant.2 c.requires.1 t)

pub overflow_add-at : goal.overflow_add-at
overflow_add-at c =
    let t = code_turn c.args.k c.loop-c.invariant.1 _ _ _ c.packed_at-c.ensures c.if-c-eq0.false refl c.packed_value.ensures in
    omega (arith, (further c.args.k c.loop-c.invariant.1 c.loop-c.invariant.2 c.requires.1 t c.put_value-at.ensures).1, c.well_formed)

pub overflow_add-i : goal.overflow_add-i
overflow_add-i c =
    let t = code_turn c.args.k c.loop-c.invariant.1 _ _ _ c.packed_at-c.ensures c.if-c-eq0.false c.packed_len-i.ensures c.packed_value.ensures in
    omega (arith, t.passed.within)

pub loop-c-smaller-then-byte_at-eq92 : goal.loop-c-smaller-then-byte_at-eq92
loop-c-smaller-then-byte_at-eq92 c =
    let t = code_turn c.args.k c.loop-c.invariant.1 _ _ _ c.packed_at-c.ensures c.if-c-eq0.false c.packed_len-i.ensures c.packed_value.ensures in
    omega (arith, t.on, t.passed.within)

pub loop-c-preserved-then-byte_at-eq92 : goal.loop-c-preserved-then-byte_at-eq92
loop-c-preserved-then-byte_at-eq92 c =
    let t = code_turn c.args.k c.loop-c.invariant.1 _ _ _ c.packed_at-c.ensures c.if-c-eq0.false c.packed_len-i.ensures c.packed_value.ensures in
    (_, t.passed, (further c.args.k c.loop-c.invariant.1 c.loop-c.invariant.2 c.requires.1 t c.put_value-at.ensures).0)

pub returns-then-e-i : goal.returns-then-e-i
returns-then-e-i c =
    let a = c.args in
    written a.k c.loop-c.invariant.1 c.loop-c.invariant.2 c.requires.1
    (run_end a.k a.s.now c.loop-c.i _ c.byte_at.ensures _ c.if-byte_at-eq92.false c.plain_end-e.ensures c.if-e-i.true)

pub slice_bounds-put_bytes-end-in-loop-c : goal.slice_bounds-put_bytes-end-in-loop-c
slice_bounds-put_bytes-end-in-loop-c c =
    let t = run_turn c.args.k c.loop-c.invariant.1 _ c.plain_end-e.ensures c.if-e-i.false in
    t.passed.within

pub put_bytes-at-requires : goal.put_bytes-at-requires
put_bytes-at-requires c =
    let t = run_turn c.args.k c.loop-c.invariant.1 _ c.plain_end-e.ensures c.if-e-i.false in
    fits c.args.k c.loop-c.invariant.1 c.loop-c.invariant.2 c.requires.1 t

pub loop-c-preserved : goal.loop-c-preserved
loop-c-preserved c =
    let t = run_turn c.args.k c.loop-c.invariant.1 _ c.plain_end-e.ensures c.if-e-i.false in
    (_, t.passed, (further c.args.k c.loop-c.invariant.1 c.loop-c.invariant.2 c.requires.1 t c.put_bytes-at.ensures).0)
