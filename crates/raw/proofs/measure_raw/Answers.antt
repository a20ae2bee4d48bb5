-- `raw::measure_raw` meets its contract.
-- Assumes nothing.
use mathlib.Core.Path.{refl, sym, ◌∙◌}
use native.Mathlib.Omega.{arith}
use borrow.Author.Tests.{leb-true, leb-false}
use Rattle.scan.proofs.Bytes.{byte_inside}
use Rattle.raw.proofs.Steps as steps
use Rattle.raw.proofs.Bodies.{raw_more, raw_measures}
use Rattle.raw.proofs.Passes.{passed_scan, scan_closes, scan_ends}
use Rattle.raw.proofs.measure_raw.Goals.{then-byte_at-ne34-via-then-byte_at-ne34, then-byte_at-ne34-via-else-byte_at-ne34+then-has_hashes}
use Rattle.raw.proofs.measure_raw.Goals as goal

pub raw_ending_at-requires : goal.raw_ending_at-requires
raw_ending_at-requires c =
    let a = c.args in
    let scan = rw c.closing_byte-last.ensures at c.raw_end-e.ensures in
    elim c.then-byte_at-ne34.branch [
      | then-byte_at-ne34-via-then-byte_at-ne34 w ↦ scan_ends a.k a.h a.s.now _ c.raw_end-e.result scan (λ e. w.if-byte_at-ne34.true (c.byte_at.ensures ∙ e))
      | then-byte_at-ne34-via-else-byte_at-ne34+then-has_hashes w ↦ scan_closes a.k a.h a.s.now c.raw_end-e.result (sym c.byte_at.ensures ∙ w.if-byte_at-ne34.false) (leb-true _ _ (sym w.if-has_hashes.ensures))
    ]

pub returns-then-byte_at-ne34 : goal.returns-then-byte_at-ne34
returns-then-byte_at-ne34 c =
    let a = c.args in
    let scan = rw c.closing_byte-last.ensures at c.raw_end-e.ensures in
    raw_measures a.k a.h (passed_scan a.k a.h a.s.now _ _ scan c.loop-i.invariant) _ (sym c.raw_ending_at.ensures) _ refl refl refl

pub loop-i-preserved : goal.loop-i-preserved
loop-i-preserved c =
    let a = c.args in
    let scan = rw c.closing_byte-last.ensures at c.raw_end-e.ensures in
    let quote = sym c.byte_at.ensures ∙ c.if-byte_at-ne34.false in
    let l = byte_inside a.s.now c.raw_end-e.result 34 quote (omega arith) in
    raw_more a.k a.h 1 _ (passed_scan a.k a.h a.s.now _ _ scan c.loop-i.invariant)
    (sym (steps.raw_quote a.k a.h a.s.now c.raw_end-e.result l quote _ refl (leb-false _ _ (sym c.if-has_hashes.ensures))))
