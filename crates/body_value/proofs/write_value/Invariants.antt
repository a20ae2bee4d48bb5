-- `body_value::write_value`: what its loop keeps, and why it ends.
-- Assumes nothing.
use mathlib.Core.List.{List}
use Prim.Native.Nat.{ℕ, ◌-◌}
use lib.ListN.{length}
use Rattle.buffer.specs.Buffer.{Wrote}
use Rattle.body.specs.Step.{step_of}
use Rattle.body.proofs.Bodies.{Passed}
use Rattle.body_value.proofs.write_value.Given as goal

-- what is passed stands for v, which is written
abbrev pub invariant-loop-c : goal.invariant-loop-c
invariant-loop-c l = (v : List ℕ) × Passed (step_of l.k) l.s l.i v × Wrote v l.at l.fn.out l.out

abbrev pub decreases-loop-c : goal.decreases-loop-c
decreases-loop-c l = length l.s - l.i
