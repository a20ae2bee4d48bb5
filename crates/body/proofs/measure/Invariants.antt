-- `body::measure`: what its loop keeps, and why it ends.
-- Assumes nothing.
use mathlib.Core.Path.{◌≡◌}
use mathlib.Core.List.{List}
use Prim.Native.Nat.{ℕ, ◌-◌}
use lib.ListN.{length}
use Rattle.body.specs.Step.{step_of}
use Rattle.body.proofs.Bodies.{Passed}
use Rattle.body.proofs.measure.Given as goal

-- what is passed stands for v, of which n is the length
abbrev pub invariant-loop-c : goal.invariant-loop-c
invariant-loop-c l = (v : List ℕ) × Passed (step_of l.k) l.s l.i v × (l.n ≡ length v)

abbrev pub decreases-loop-c : goal.decreases-loop-c
decreases-loop-c l = length l.s - l.i
