-- `form_value::put_body`: what its loops keep, and why they end.
-- Assumes nothing.
use Rattle.std.proofs.Common.{ℕ, ◌-◌, List, length}
use Rattle.buffer.specs.Buffer.{Wrote}
use Rattle.body.specs.Step.{step_of}
use Rattle.body.proofs.Bodies.{Passed}
use Rattle.form_byte.specs.Styled.{styled_forms}
use Rattle.form_value.proofs.put_body.Given as goal

-- what is passed stands for v, whose form is written
abbrev pub invariant-loop-c : goal.invariant-loop-c
invariant-loop-c l =
    (v : List ℕ) × Passed (step_of l.k) l.s l.i v × Wrote (styled_forms l.style.verbatim l.style.quote v) l.at l.fn.out l.out

abbrev pub decreases-loop-c : goal.decreases-loop-c
decreases-loop-c l = length l.s - l.i
