-- Cases by a test.
-- Assumes nothing.
use mathlib.Core.Path.{◌≡◌, refl, sym, ap, ◌∙◌}
use mathlib.Core.Bool.{Bool, true, false, cond}
use Prim.Native.Nat.{ℕ, ◌≤◌, ◌<◌}
use native.Mathlib.Omega.{arith}
use lib.Dec.{ltb, eqb}
use borrow.Author.Tests.{ltb-true, ltb-false, eqb-true, eqb-false}

-- what holds of both values holds of the one that is chosen
pub cond_in {ℓ ℓ'} : {A : Type ℓ'} (P : A → Type ℓ) (t : Bool) {x y : A} → (t ≡ true → P x) → (t ≡ false → P y) → P (cond t x y)
cond_in P true f g = f refl
cond_in P false f g = g refl

-- the same for the two tests of numbers
pub cond_lt {ℓ ℓ'} : {A : Type ℓ'} (P : A → Type ℓ) (m n : ℕ) {x y : A} → (m < n → P x) → (n ≤ m → P y) → P (cond (ltb m n) x y)
cond_lt P m n f g = cond_in P (ltb m n) (λ e. f (ltb-true m n e)) (λ e. g (ltb-false m n e))

pub cond_eq {ℓ ℓ'} : {A : Type ℓ'} (P : A → Type ℓ) (m n : ℕ) {x y : A} → (m ≡ n → P x) → ((m ≡ n → ⊥) → P y) → P (cond (eqb m n) x y)
cond_eq P m n f g = cond_in P (eqb m n) (λ e. f (eqb-true m n e)) (λ e. g (eqb-false m n e))

-- two numbers are in one order or the other
pub by_lt {ℓ} : {P : Type ℓ} (m n : ℕ) → (m < n → P) → (n ≤ m → P) → P
by_lt {P = P} m n f g = go (ltb m n) (λ e. f (ltb-true m n e)) (λ e. g (ltb-false m n e))
  where
    go : (t : Bool) → (t ≡ true → P) → (t ≡ false → P) → P
    go true a b = a refl
    go false a b = b refl

-- a test is not both
pub clash {ℓ} : {P : Type ℓ} {t : Bool} → t ≡ true → t ≡ false → P
clash a b = let z : ◌≡◌ {A = ℕ} 0 1 = ap (λ (u : Bool). cond u 0 1) (sym a ∙ b) in absurd (omega arith)
