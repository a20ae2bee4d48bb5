-- A loop over a quoted body that writes what the pieces stand for: one turn more fits the buffer and is written after the others.
-- Assumes nothing.
use mathlib.Core.Path.{subst}
use mathlib.Core.List.{List, ◌++◌}
use Prim.Native.Nat.{ℕ, ◌+◌, ◌-◌, ◌≤◌}
use native.Mathlib.Omega.{arith}
use lib.ListN.{length, take, drop}
use borrow.Rule.Slice.PartMut.{put_mid}
use Rattle.buffer.specs.Buffer.{Wrote}
use Rattle.buffer.proofs.Laws as laws
use Rattle.escape.specs.declared.Allowed.{Allowed}
use Rattle.body.specs.Body.{body}
use Rattle.body.specs.Packed.{Stopped}
use Rattle.body.specs.Step.{step_of}
use Rattle.body.proofs.Within.{step_in}
use Rattle.body.proofs.Bodies.{Passed, whole, part}
use Rattle.body.proofs.Turns.{Turn}

module _ (k : Allowed) {s : List ℕ} {i : ℕ} {v : List ℕ} (p : Passed (step_of k) s i v) {at : ℕ} {l out : List ℕ} (w : Wrote v at l out)
    (room : length (body k s).value ≤ length l) where
  small : length v ≤ length l
  small = omega (arith, part (step_of k) 1 (step_in k) p)

  -- where the body ends, its whole value is written
  pub written : Stopped (step_of k (drop i s)) → Wrote (body k s).value at l out
  written stops = subst (λ (v : List ℕ). Wrote v at l out) (whole (step_of k) 1 (step_in k) p stops) w

  -- one turn more
  module _ {e : ℕ} {x : List ℕ} (t : Turn k s i e v x) where
    both : length v + length x ≤ length l
    both = omega (arith, part (step_of k) 1 (step_in k) t.passed, t.count)

    pub fits : length x ≤ length (take (length out - at) (drop at out))
    fits = laws.room (length x) w both

    pub further : {n : ℕ} {ys : List ℕ} → Wrote x n (take (length out - at) (drop at out)) ys
        → Wrote (v ++ x) (at + n) l (put_mid at (length out - at) out ys) × (at + n ≤ length l)
    further y = let f = laws.past w y both in (f, omega (arith, f.count, t.count, both))
