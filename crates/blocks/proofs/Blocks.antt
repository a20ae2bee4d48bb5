-- The run of a test in a block, by the least place that fails it, and a run that is passed part by part. For any test.
-- Assumes nothing.
use mathlib.Core.Path.{◌≡◌, refl}
use mathlib.Core.Bool.{Bool, true, false, cond}
use mathlib.Core.List.{List, [], ◌∷◌}
use Prim.Native.Nat.{ℕ, zero, suc, ◌+◌, ◌-◌, ◌≤◌, ◌<◌, min}
use native.Mathlib.Omega.{arith}
use lib.ListN.{length, get_or, take, drop}
use lib.Seq.{drop-drop}
use Rattle.scan.specs.Run.{run}
use Rattle.scan.proofs.Runs.{run_le, run_more, run_stop, run_end, run_past}

-- ---- in a block of n bytes

-- A loop stands at j, and m is the least place before it that fails, or n: the run ends there, or where the run from j on does.
pub record Least (p : ℕ → Bool) (s : List ℕ) (n m j : ℕ) : Type 0 where
  pub within : j ≤ n
  pub small : m ≤ n
  pub is : min m (j + run p (drop j s)) ≡ run p s

module _ (p : ℕ → Bool) (s : List ℕ) (n : ℕ) (size : length s ≡ n) where
  pub least_start : Least p s n n 0
  least_start = record { within = omega arith; small = omega arith; is = omega (arith, run_le p s) }

  -- x is the place of the byte at j, where it fails, or n
  pub least_more : (m j x y : ℕ) → Least p s n m j → j < n → x ≡ cond (p (get_or s j 0)) n j → y ≡ min m x → Least p s n y (j + 1)
  least_more m j x y l h e f = rw (f, e) (by_test (p (get_or s j 0)) refl)
    where
      by_test : (t : Bool) → p (get_or s j 0) ≡ t → Least p s n (min m (cond t n j)) (j + 1)
      by_test true g =
          let r = run_more p s j (omega arith) g in
          record { within = omega arith; small = omega (arith, l.small); is = omega (arith, l.is, l.small) }
      by_test false g =
          let r = run_stop p s j (omega arith) g in
          record { within = omega arith; small = omega (arith, l.small); is = omega (arith, l.is) }

  -- THE LAW: after the last byte it is the run.
  pub least_end : (m j : ℕ) → Least p s n m j → n ≤ j → m ≡ run p s
  least_end m j l h = omega (arith, l.is, l.small, l.within, run_end p s j (omega arith))

-- ---- by blocks

pub run_take : (p : ℕ → Bool) (m : ℕ) (s : List ℕ) → run p (take m s) ≡ min m (run p s)
run_take p zero [] = refl
run_take p zero (b ∷ s) = omega arith
run_take p (suc m) [] = omega arith
run_take p (suc m) (b ∷ s) = by_test (p b) (run_take p m s)
  where
    by_test : (t : Bool) → run p (take m s) ≡ min m (run p s) → cond t (suc (run p (take m s))) 0 ≡ min (suc m) (cond t (suc (run p s)) 0)
    by_test true f = omega arith
    by_test false f = omega arith

-- m is the run in the block of n bytes at i
module _ (p : ℕ → Bool) (s : List ℕ) (i n m : ℕ) (is : m ≡ run p (take (i + n - i) (drop i s))) where
  -- the run ends in the block
  pub block_stop : m < n → i + m ≡ i + run p (drop i s)
  block_stop h = omega (arith, run_take p (i + n - i) (drop i s))

  -- or goes on after it
  pub block_past : n ≤ m → i + run p (drop i s) ≡ i + n + run p (drop (i + n) s)
  block_past h = rw (← drop-drop) (omega (arith, run_past p n (drop i s) (omega (arith, run_take p (i + n - i) (drop i s)))))

-- ---- at most n bytes of the run at i

-- the run goes on after them
pub run_rest : (p : ℕ → Bool) (s : List ℕ) (i n e : ℕ) → e ≡ i + min n (run p (drop i s)) → e + run p (drop e s) ≡ i + run p (drop i s)
run_rest p s i n e h =
    let m = min n (run p (drop i s)) in
    rw (h, ← drop-drop) (omega (arith, run_past p m (drop i s) (omega arith)))
