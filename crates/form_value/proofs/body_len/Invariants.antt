-- `form_value::body_len`: what its loops keep, and why they end.
-- Assumes nothing.
use Rattle.std.proofs.Common.{◌≡◌, ℕ, ◌-◌, List, length}
use Rattle.body.specs.Step.{step_of}
use Rattle.body.proofs.Bodies.{Passed}
use Rattle.form_byte.specs.Styled.{styled_forms}
use Rattle.form_value.proofs.body_len.Given as goal

-- what is passed stands for v, of whose form n is the length
abbrev pub invariant-loop-c : goal.invariant-loop-c
invariant-loop-c l = (v : List ℕ) × Passed (step_of l.k) l.s l.i v × (l.n ≡ length (styled_forms l.style.verbatim l.style.quote v))

abbrev pub decreases-loop-c : goal.decreases-loop-c
decreases-loop-c l = length l.s - l.i
