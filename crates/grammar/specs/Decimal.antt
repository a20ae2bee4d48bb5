-- Exact decimal numbers, and 01's equality of them.
-- Assumes nothing.
use Rattle.std.specs.Prelude.{◌≡◌, ℕ, ◌+◌, ◌*◌, ◌^◌}

-- coef · 10^up / 10^down
pub record Decimal : Type 0 where
  pub coef : ℕ
  pub up : ℕ
  pub down : ℕ

-- 01, The settled form: "Two floats are equal in value when one power of ten makes both whole and the two whole numbers agree": the power is
-- 10^t, the whole number w
abbrev pub SameValue : Decimal → Decimal → Type 0
SameValue a b =
    (t : ℕ) × (w : ℕ) × (a.coef * 10 ^ (a.up + t) ≡ w * 10 ^ a.down) × (b.coef * 10 ^ (b.up + t) ≡ w * 10 ^ b.down)
