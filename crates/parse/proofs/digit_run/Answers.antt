-- `parse::digit_run` meets its contract.
-- Assumes nothing.
use Rattle.std.proofs.Common.{ℕ, ◌≡◌, ◌+◌, ◌≤◌, ◌<◌, true, false, cond, ltb, eqb, get_or, arith, sym, ◌∙◌}
use mathlib.Core.Bool.{or-true}
use borrow.Author.Tests.{lt-ltb, le-ltb, eq-eqb, ne_eqb}
use Rattle.scan.proofs.Runs.{run_more, run_stop, run_end}
use Rattle.scan.proofs.Counts.{tally_more, tally_stop, tally_end}
use Rattle.parse.specs.Class.{class_of}
use Rattle.parse.specs.Sets.{digit}
use Rattle.parse.specs.Digits.{is_digit, digit_count}
use Rattle.parse.proofs.digit_run.Goals.{then-class-base, else-class-base+else-class-ne16}
use Rattle.parse.proofs.digit_run.Goals as goal

-- a byte that is neither a digit nor `_`
other : (base b class : ℕ) → class ≡ class_of b → base ≤ class → (class ≡ 16 → ⊥) → digit base b ≡ false
unfolding digit
other base b class e h n = rw (ne_eqb (class_of b) 16 (λ q. n (e ∙ q)), le-ltb (class_of b) base (omega arith))

pub returns-then-class-ne16 : goal.returns-then-class-ne16
unfolding digit_count
returns-then-class-ne16 c =
    let v = c.loop-i.invariant in
    let no = other _ _ _ c.class_of-class.ensures c.if-class-base.false c.if-class-ne16.true in
    record { end = sym (run_stop _ _ _ c.loop-i-test.true no) ∙ v.1; count = sym (tally_stop _ _ _ _ _ c.loop-i-test.true no) ∙ v.2 }

-- n is the count after the byte, which is a digit or `_`, and is counted where it is a digit
Counted : ℕ → ℕ → ℕ → ℕ → Type 0
Counted base b m n = (n ≡ m + cond (is_digit base b) 1 0) × (digit base b ≡ true) × (n ≤ m + 1)

counted : (base b class m n : ℕ) → class ≡ class_of b → class < base → n ≡ m + 1 → Counted base b m n
unfolding Counted is_digit digit
counted base b class m n e h q = let below : ltb (class_of b) base ≡ true = lt-ltb (class_of b) base (omega arith) in (rw below q, rw (below, or-true), omega arith)

passed : (base b class m n : ℕ) → class ≡ class_of b → base ≤ class → class ≡ 16 → n ≡ m → Counted base b m n
unfolding Counted is_digit digit
passed base b class m n e h u q =
    let above : ltb (class_of b) base ≡ false = le-ltb (class_of b) base (omega arith) in
    let low : eqb (class_of b) 16 ≡ true = eq-eqb (class_of b) 16 (sym e ∙ u) in
    (rw above (omega arith), rw low, omega arith)

pub loop-i-preserved : goal.loop-i-preserved
unfolding Counted
loop-i-preserved c =
    let v = c.loop-i.invariant in
    let a = c.args in
    let step : Counted a.base (get_or a.s.now c.loop-i.i 0) c.loop-i.digits c.if-class-base.digits =
    elim c.if-class-base.branch [
      | then-class-base w ↦ counted _ _ _ _ _ c.class_of-class.ensures w.if-class-base.true w.digits-is
      | else-class-base+else-class-ne16 w ↦ passed _ _ _ _ _ c.class_of-class.ensures w.if-class-base.false w.if-class-ne16.false w.digits-is
    ] in
    (omega (arith, step.2, v.0), sym (run_more _ _ _ c.loop-i-test.true step.1) ∙ v.1, rw step.0 (tally_more _ _ _ _ _ c.loop-i-test.true step.1) ∙ v.2)

pub returns : goal.returns
unfolding digit_count
returns c =
    let v = c.loop-i.invariant in
    record { end = omega (arith, run_end (digit c.args.base) _ _ c.loop-i-test.false, v.1); count = sym (tally_end _ _ _ _ _ c.loop-i-test.false) ∙ v.2 }
