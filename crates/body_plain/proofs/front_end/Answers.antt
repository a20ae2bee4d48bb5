-- `body_plain::front_end` meets its contract.
-- Assumes nothing.
use Rattle.std.proofs.Common.{sym, ◌∙◌, arith, ◌-◌, length}
use Rattle.scan.proofs.Runs.{run_le, run_past}
use Rattle.scan.proofs.Windows.{all_last}
use Rattle.body_plain.specs.Plain.{plain_byte}
use Rattle.body_plain.proofs.Eights.{eight_passed}
use Rattle.body_plain.proofs.front_end.Goals as goal

pub returns-then-s-n-eq34 : goal.returns-then-s-n-eq34
unfolding plain_byte
returns-then-s-n-eq34 c =
    let a = c.args in
    let on = eight_passed a.k a.s.now c.loop-k.at (omega arith) c.loop-k.invariant.1 (cc) in
    all_last (plain_byte a.k) a.s.now (length a.s.now - 1) (omega arith) (omega arith) (rw c.if-s-n-eq34.true)

pub returns-then-at-last : goal.returns-then-at-last
returns-then-at-last c =
    let a = c.args in
    let on = eight_passed a.k a.s.now c.loop-k.at (omega arith) c.loop-k.invariant.1 (cc) in
    c.block_end-then-at-last.ensures ∙ sym (run_past (plain_byte a.k) (length a.s.now - 1) a.s.now (omega arith))

pub loop-k-preserved : goal.loop-k-preserved
loop-k-preserved c =
    let a = c.args in
    let on = eight_passed a.k a.s.now c.loop-k.at (omega arith) c.loop-k.invariant.1 (cc) in
    (omega (arith, c.clamped_end-at.ensures), omega (arith, c.clamped_end-at.ensures))

pub returns : goal.returns
returns c =
    let a = c.args in
    let on = run_past (plain_byte a.k) c.loop-k.at a.s.now c.loop-k.invariant.1 in
    omega (arith, c.byte_run.ensures, run_le (plain_byte a.k) a.s.now)
