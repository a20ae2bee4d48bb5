-- `raw::scan_from` meets its contract.
-- Assumes nothing.
use mathlib.Core.Path.{sym, ◌∙◌}
use native.Mathlib.Omega.{arith}
use Rattle.raw.proofs.Flags.{scan_in, scan_more, scan_stop}
use Rattle.raw.proofs.scan_from.Goals as goal

pub returns-then-not-passes_at : goal.returns-then-not-passes_at
returns-then-not-passes_at c =
    let a = c.args in
    omega (arith, c.loop-i.invariant, scan_stop a.k a.h a.last a.s.now c.loop-i.i c.loop-i-test.true (sym c.if-not-passes_at.ensures))

pub loop-i-preserved : goal.loop-i-preserved
loop-i-preserved c =
    let a = c.args in
    sym (scan_more a.k a.h a.last a.s.now c.loop-i.i c.loop-i-test.true (sym c.if-not-passes_at.ensures)) ∙ c.loop-i.invariant

pub returns : goal.returns
returns c =
    let a = c.args in
    omega (arith, c.loop-i.invariant, scan_in a.k a.h a.last a.s.now c.loop-i.i)
