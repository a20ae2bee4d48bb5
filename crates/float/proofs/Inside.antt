-- Digits end inside the text.
-- Assumes nothing.
use mathlib.Core.Path.{◌≡◌}
use mathlib.Core.List.{List}
use Prim.Native.Nat.{ℕ, ◌+◌, ◌-◌, ◌≤◌}
use native.Mathlib.Omega.{arith}
use lib.ListN.{length, take, drop, length-drop}
use Rattle.scan.specs.Run.{run}
use Rattle.scan.proofs.Parts.{part_to_end}
use Rattle.scan.proofs.Runs.{run_le}
use Rattle.parse.specs.Sets.{digit}
use Rattle.float.specs.Float.{digits_end}

pub digits_inside : (s : List ℕ) (at : ℕ) → at ≤ length s → digits_end s at ≤ length s
digits_inside s at h = omega (arith, run_le (digit 10) (drop at s), length-drop at s)

-- what the scan of the digits from an offset on finds
pub digits_found : (s : List ℕ) (at n : ℕ) → at ≤ length s → n ≡ run (digit 10) (take (length s - at) (drop at s)) → (at + n ≡ digits_end s at) × (at + n ≤ length s)
digits_found s at n h e = let g : at + n ≡ digits_end s at = rw (e, part_to_end) in (g, rw g (digits_inside s at h))
