-- Reading on by where fraction and exponent end: there is one exactly where it ends after its start.
-- Assumes nothing.
use mathlib.Core.Path.{◌≡◌}
use mathlib.Core.Bool.{Bool, true, false, cond, ◌&&◌, ◌||◌}
use mathlib.Core.List.{List}
use Prim.Native.Nat.{ℕ, ◌+◌, ◌<◌}
use native.Mathlib.Omega.{arith}
use lib.Dec.{eqb, ltb}
use lib.ListN.{get_or}
use borrow.Author.Tests.{lt-ltb, le-ltb}
use Rattle.err.specs.Outcome.{Outcome, refused, between}
use Rattle.scan.proofs.Cases.{cond_in}
use Rattle.parse.specs.Sets.{starts_e}
use Rattle.float.specs.Float.{digits_end, after_number, sign_end, no_digit, exponent_end, after_fraction, bad_fraction, fraction_end, after_integer}

-- a part that is there ends after its start, and one that is not there ends where it would start
by_end : (t : Bool) (a d : ℕ) (bad : ℕ → Bool) (out on : ℕ → Outcome) → a < d
    → let e = cond t d a in
    cond t (cond (bad d) (out d) (on d)) (on a) ≡ cond (ltb a e && bad e) (out e) (on e)
by_end true a d bad out on h = rw (lt-ltb a d h)
by_end false a d bad out on h = rw (le-ltb a a (omega arith))

module _ (s : List ℕ) where
  -- the digits of an exponent start after its `e`
  pub sign_after : (f : ℕ) → f < sign_end s f
  unfolding sign_end
  sign_after f = cond_in (λ (n : ℕ). f < n) (eqb (get_or s (f + 1) 0) 45 || eqb (get_or s (f + 1) 0) 43) (λ e. omega arith) (λ e. omega arith)

  pub by_exponent : (i f : ℕ)
      → let e = exponent_end s f in
      after_fraction s i f ≡ cond (ltb f e && no_digit s (sign_end s f) e) (refused 7 (between f e)) (after_number s i f e)
  unfolding after_fraction exponent_end
  by_exponent i f =
      by_end (starts_e s f) f (digits_end s (sign_end s f)) (no_digit s (sign_end s f)) (λ e. refused 7 (between f e)) (after_number s i f) (omega (arith, sign_after f))

  pub by_fraction : (i : ℕ)
      → let f = fraction_end s i in
      after_integer s i ≡ cond (ltb i f && bad_fraction s (i + 1) f) (refused 2 (between (i + 1) (i + 1 + 1))) (after_fraction s i f)
  unfolding after_integer fraction_end
  by_fraction i = by_end (eqb (get_or s i 0) 46) i (digits_end s (i + 1)) (bad_fraction s (i + 1)) (λ f. refused 2 (between (i + 1) (i + 1 + 1))) (after_fraction s i) (omega arith)
