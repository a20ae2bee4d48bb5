-- The form of a float in each case of its scaling.
-- Assumes nothing.
use mathlib.Core.Path.{◌≡◌, refl, subst}
use mathlib.Core.Bool.{Bool, true, false, cond}
use mathlib.Core.List.{List, [], ◌∷◌}
use Prim.Native.Nat.{ℕ, ◌+◌, ◌<◌}
use native.Mathlib.Omega.{arith}
use borrow.Author.Tests.{le-leb, lt-leb, ne_eqb}
use Rattle.buffer.specs.Digits.{decimal}
use Rattle.grammar.specs.Decimal.{Decimal}
use Rattle.form.specs.Reduced.{reduce}
use Rattle.form.specs.Form.{reduced_form}
use Rattle.form_decimal.specs.Scaled.{power_in_range, ScaledTo, Scales}
use Rattle.form_decimal.specs.declared.Scaled.{Scaled}
use Rattle.form_decimal.specs.declared.Scaling.{Scaling}
use Rattle.form_decimal.specs.declared.Scaling.TheVariants as scaling
use Rattle.form_float.specs.Floats.{scaled_form}

module _ (m : List ℕ) (d : Decimal) (r : Scaling) (h : Scales m d r) where
  zero_coef : r ≡ scaling.Zero → d.coef ≡ 0
  zero_coef e = subst (λ (x : Scaling). Scales m d x) e h

  -- zero is `0e0`, and its power is in range
  pub zero_in_range : r ≡ scaling.Zero → power_in_range d ≡ true
  unfolding reduce
  zero_in_range e = rw (zero_coef e)

  pub zero_form : r ≡ scaling.Zero → reduced_form (reduce d) ≡ 48 ∷ 101 ∷ 48 ∷ []
  unfolding reduce reduced_form decimal
  zero_form e = rw (zero_coef e)

  pub far_not_in_range : r ≡ scaling.TooFar → power_in_range d ≡ false
  far_not_in_range e = lt-leb ((reduce d).up + (reduce d).down) 1000000 (subst (λ (x : Scaling). Scales m d x) e h).1

  pub found : (x : Scaled) → r ≡ scaling.To x → ScaledTo m d x
  found x e = subst (λ (x : Scaling). Scales m d x) e h

module _ (m : List ℕ) (d : Decimal) (r : Scaled) (h : ScaledTo m d r) where
  -- one of the two powers is zero
  powers {ℓ} : {P : Type ℓ}
      → (r.negative ≡ true → (reduce d).up ≡ 0 → (reduce d).down ≡ r.power → 0 < r.power → P)
      → (r.negative ≡ false → (reduce d).up ≡ r.power → (reduce d).down ≡ 0 → P) → P
  powers {P = P} f g = go r.negative refl h.up h.down h.sign
    where
      go : (t : Bool) → r.negative ≡ t → (reduce d).up ≡ cond t 0 r.power → (reduce d).down ≡ cond t r.power 0 → (t ≡ true → 0 < r.power) → P
      go true e u w s = f e u w (s refl)
      go false e u w s = g e u w

  pub found_in_range : power_in_range d ≡ true
  found_in_range =
      le-leb ((reduce d).up + (reduce d).down) 1000000
      (powers (λ e u w s. omega (arith, h.power)) (λ e u w. omega (arith, h.power)))

  pub found_form : reduced_form (reduce d) ≡ scaled_form m r
  unfolding reduced_form
  found_form =
      powers
      (λ e u w s. rw (e, h.digits, w, ne_eqb r.power 0 (λ z. omega arith)))
      (λ e u w. rw (e, h.digits, w, u))
