-- `raw::raw_end` meets its contract.
-- Assumes nothing.
use mathlib.Core.Path.{sym, ◌∙◌}
use native.Mathlib.Omega.{arith}
use Rattle.raw.proofs.Flags.{scan_here, scan_after}
use Rattle.raw.proofs.raw_end.Goals as goal

pub returns-then-m-lt64 : goal.returns-then-m-lt64
returns-then-m-lt64 c =
    let a = c.args in
    scan_here a.k a.h a.last a.s.now c.loop-i.i 64 _ c.raw_block_run-m.ensures c.if-m-lt64.true ∙ c.loop-i.invariant.1

pub loop-i-preserved : goal.loop-i-preserved
loop-i-preserved c =
    let a = c.args in
    (omega arith, sym (scan_after a.k a.h a.last a.s.now c.loop-i.i 64 _ c.raw_block_run-m.ensures c.if-m-lt64.false) ∙ c.loop-i.invariant.1)
