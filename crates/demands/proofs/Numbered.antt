-- What is wrong with a text before it is read, as a refusal of each call.
-- Assumes nothing.
use mathlib.Core.Path.{◌≡◌, refl}
use mathlib.Core.Logic.{◌⊎◌, inl, inr}
use mathlib.Core.List.{List, ◌∷◌}
use Prim.Native.Nat.{ℕ}
use Rattle.err.specs.Outcome.{Place, none}
use Rattle.text_check.specs.Checks.{text_fault}
use Rattle.text_check.proofs.Checks.{fault_is}
use Rattle.demands.specs.Demand1.{OneOf, Numbered}

-- 43 or 44, of a call that adds these and more
pub text_refused : (m : ℕ) (s more : List ℕ) → (text_fault s ≡ 0 → ⊥) → Numbered m (43 ∷ 44 ∷ more) (text_fault s) none
text_refused m s more z = inr (go (fault_is s z), refl)
  where
    go : {n : ℕ} → (n ≡ 43) ⊎ (n ≡ 44) → OneOf (43 ∷ 44 ∷ more) n
    go (inl e) = inl e
    go (inr e) = inr (inl e)

-- of a call that takes a code too
pub or_42 : (m : ℕ) (added : List ℕ) (n : ℕ) (p : Place) → Numbered m added n p → Numbered m (42 ∷ added) n p
or_42 m added n p (inl r) = inl r
or_42 m added n p (inr (o, e)) = inr (inr o, e)
