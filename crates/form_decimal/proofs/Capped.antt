-- The size of an exponent as it is counted: itself up to 2,000,000, and one number for all above.
-- Assumes nothing.
use mathlib.Core.Path.{◌≡◌, refl}
use mathlib.Core.Logic.{◌⊎◌, inl, inr}
use mathlib.Core.Bool.{Bool, true, false, cond}
use Prim.Native.Nat.{ℕ, ◌≤◌, ◌<◌}
use native.Mathlib.Omega.{arith}
use lib.Dec.{leb}
use borrow.Author.Tests.{leb-true, leb-false}
use Rattle.scan.proofs.Cases.{cond_in}
use Rattle.std.specs.Prelude.{Some, None}
use Rattle.integer_value.specs.Value.{number_within}
use Rattle.form_decimal.specs.Scaled.{clamped}

-- it is the size, or both are too large
pub capped_cases : (n : ℕ) → (clamped n ≡ n) ⊎ ((2000000 < n) × (clamped n ≡ 2000001))
unfolding clamped
capped_cases n = cond_in (λ (k : ℕ). (k ≡ n) ⊎ ((2000000 < n) × (k ≡ 2000001))) (leb n 2000000) (λ e. inl refl) (λ e. inr (leb-false n 2000000 e, refl))

pub capped_most : (n k : ℕ) → k ≡ clamped n → k ≤ 2000001
unfolding clamped
capped_most n k q = rw q (cond_in (λ (k : ℕ). k ≤ 2000001) (leb n 2000000) (λ e. omega (arith, leb-true n 2000000 e)) (λ e. omega arith))

-- what the code's reading within 2,000,000 says of it
pub capped_given : (n k : ℕ) → number_within 2000000 n ≡ Some k → k ≡ clamped n
unfolding clamped
capped_given n k = by_test (leb n 2000000)
  where
    by_test : (t : Bool) → cond t (Some n) None ≡ Some k → k ≡ cond t n 2000001
    by_test true e = cc
    by_test false e = absurd (let z : ◌≡◌ {A = ℕ} 0 1 = cc in omega arith)

pub capped_over : (n : ℕ) → number_within 2000000 n ≡ None → 2000001 ≡ clamped n
unfolding clamped
capped_over n = by_test (leb n 2000000)
  where
    by_test : (t : Bool) → cond t (Some n) None ≡ None → 2000001 ≡ cond t n 2000001
    by_test true e = absurd (let z : ◌≡◌ {A = ℕ} 0 1 = cc in omega arith)
    by_test false e = refl
