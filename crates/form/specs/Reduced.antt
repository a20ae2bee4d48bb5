-- The reduced power of ten, as document 01 coins the word (The settled form, Float).
-- Assumes nothing.
use Rattle.std.specs.Prelude.{◌≡◌, cond, ℕ, zero, suc, ◌+◌, ◌-◌, ◌/◌, ◌%◌, ◌<◌, min, eqb}
use Rattle.grammar.specs.Decimal.{Decimal, SameValue}

-- "the number is m times 10^k, two whole numbers, m not ending in 0; for zero both are 0": m is coef, and k is up or minus down, one of which is 0
pub record Reduced (d : Decimal) : Type 0 where
  pub last : 0 < d.coef → 0 < d.coef % 10
  pub one_sign : min d.up d.down ≡ 0
  pub none : d.coef ≡ 0 → (d.up ≡ 0) × (d.down ≡ 0)

-- "It is 46 exactly when k is beyond 1,000,000 either way"
abbrev pub TooFar : Decimal → Type 0
TooFar d = (r : Decimal) × Reduced r × SameValue d r × (1000000 < r.up + r.down)

-- ---- by computing; `proofs/Reduce` shows that `reduce` finds the reduced number

-- how many zeros n ends in, and n without them, within as many steps as the first number says
unfoldable pub zeros : ℕ → ℕ → ℕ
zeros zero n = zero
zeros (suc f) n = cond (eqb (n % 10) 0) (suc (zeros f (n / 10))) zero

unfoldable pub strip : ℕ → ℕ → ℕ
strip zero n = n
strip (suc f) n = cond (eqb (n % 10) 0) (strip f (n / 10)) n

unfoldable pub reduce : Decimal → Decimal
reduce d =
    cond (eqb d.coef 0)
    (record { coef = 0; up = 0; down = 0 })
    (record {
      coef = strip d.coef d.coef;
      up = d.up + zeros d.coef d.coef - d.down;
      down = d.down - (d.up + zeros d.coef d.coef);
    })
