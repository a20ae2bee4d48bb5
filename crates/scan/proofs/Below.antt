-- A rule of every number below a bound, proved by one test that antt computes.
-- Assumes nothing.
use mathlib.Core.Path.{◌≡◌, refl, subst}
use mathlib.Core.Bool.{Bool, true, false, not, ◌&&◌}
use Prim.Native.Nat.{ℕ, zero, suc, ◌<◌}
use native.Mathlib.Nat.{not-suc-le-zero}
use native.Mathlib.Omega.{arith}
use lib.Dec.{T}
use Rattle.scan.proofs.Cases.{by_lt}

both_left : (a b : Bool) → T (a && b) → T a
both_left true b t = tt
both_left false b t = t

both_right : (a b : Bool) → T (a && b) → T b
both_right true b t = t
both_right false b t = absurd t

-- the test holds at every number below n
abbrev pub every_below : (ℕ → Bool) → ℕ → Bool
every_below f zero = true
every_below f (suc n) = f n && every_below f n

pub below : (f : ℕ → Bool) (n : ℕ) → T (every_below f n) → (k : ℕ) → k < n → T (f k)
below f zero t k h = absurd (not-suc-le-zero h)
below f (suc n) t k h =
    by_lt k n (λ l. below f n (both_right (f n) (every_below f n) t) k l)
    (λ l. let e : n ≡ k = omega arith in subst (λ (m : ℕ). T (f m)) e (both_left (f n) (every_below f n) t))

abbrev pub alike : Bool → Bool → Bool
alike true c = c
alike false c = not c

alike_eq : (a c : Bool) → T (alike a c) → a ≡ c
alike_eq true true t = refl
alike_eq true false t = absurd t
alike_eq false true t = absurd t
alike_eq false false t = refl

-- two tests that agree below n
pub agreed : (f g : ℕ → Bool) (n : ℕ) → T (every_below (λ k. alike (f k) (g k)) n) → (k : ℕ) → k < n → f k ≡ g k
agreed f g n t k h = alike_eq (f k) (g k) (below (λ k. alike (f k) (g k)) n t k h)
