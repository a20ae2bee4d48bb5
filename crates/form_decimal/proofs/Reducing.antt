-- The reduced number from the digits and the two powers, and what `scaling_by` finds of it.
-- Assumes nothing.
use mathlib.Core.Path.{◌≡◌, refl, sym, ap, ◌∙◌}
use mathlib.Core.Logic.{⊎_elim}
use mathlib.Core.List.{List}
use Prim.Native.Nat.{ℕ, ◌+◌, ◌*◌, ◌^◌, ◌-◌, ◌%◌, ◌≤◌, ◌<◌}
use native.Mathlib.Nat.{mul_assoc, mul_comm, zero-mul, one-le-pow, eq_of_mul-eq-mul_right}
use native.Mathlib.Omega.{arith}
use lib.Pow.{pow-add}
use lib.ListN.{length, drop, length-drop}
use Rattle.scan.specs.Run.{run}
use Rattle.scan.proofs.Cases.{cond_lt, by_lt, clash}
use Rattle.buffer.specs.Digits.{decimal}
use Rattle.buffer.proofs.Decimals.{some as decimal-some}
use Rattle.grammar.specs.Decimal.{Decimal, SameValue}
use Rattle.form.specs.Reduced.{Reduced, reduce}
use Rattle.form.proofs.Reduce.{same_iff, reduce_again}
use Rattle.form_decimal.specs.Digits.{digits_of, insignificant, last_end}
use Rattle.scan.specs.Part.{part}
use Rattle.form_decimal.specs.Scaled.{clamped, ScaledTo, Scales, scaling_by}
use Rattle.form_decimal.specs.declared.Scaled.{Scaled}
use Rattle.form_decimal.specs.declared.Scaling.{Scaling}
use Rattle.form_decimal.proofs.Digits.{digits_short, last_le}
use Rattle.form_decimal.proofs.Capped.{capped_cases}
use Rattle.form_decimal.proofs.Numbers.{count, Middle, middle, no_last}

no_product : (c n : ℕ) → c * n ≡ 0 → 0 < n → c ≡ 0
no_product c n e h = eq_of_mul-eq-mul_right n h c 0 (e ∙ sym (zero-mul n))

module _ (d : Decimal) (c z : ℕ) (is : d.coef ≡ c * 10 ^ z) (ending : 0 < c % 10) where
  -- the number with the zeros taken off
  abbrev taken : Decimal
  taken = record { coef = c; up = d.up + z - d.down; down = d.down - (d.up + z) }

  taken_reduced : Reduced taken
  taken_reduced = record { last = λ h. ending; one_sign = omega arith; none = λ e. absurd (omega arith) }

  same : SameValue d taken
  same =
      let q : d.up + z - d.down + d.down ≡ d.up + z + (d.down - (d.up + z)) = omega arith in (
        d.down,
        c * 10 ^ (d.up + z),
        rw is (simp (pow-add, mul_assoc, mul_comm)),
        ap (λ (n : ℕ). c * 10 ^ n) q ∙ ap (λ (n : ℕ). c * n) (pow-add 10 (d.up + z) (d.down - (d.up + z))) ∙ sym (mul_assoc c _ _),
      )

  pub reduced : reduce d ≡ taken
  reduced = (same_iff d taken).0 same ∙ reduce_again taken taken_reduced

-- the digits that are found stand in the mantissa
pub inside : (m : List ℕ) (d : Decimal) (r : Scaled) → ScaledTo m d r → (r.first ≤ r.last) × (r.last ≤ length m)
inside m d r h = (
  by_lt r.last r.first
      (λ l.
      let none : r.last - r.first ≡ 0 = omega arith in
      absurd (omega (arith, decimal-some (reduce d).coef, ap length (rw none at h.digits))))
      (λ l. l),
  rw h.last (last_le m),
)

-- what `scaling_by` of two powers finds of a number, where they are its own or both sides are too far
module _ (m : List ℕ) (d : Decimal) (up down : ℕ) (some : 0 < d.coef)
    (digits : digits_of (part (run insignificant m) (last_end m) m) ≡ decimal (reduce d).coef) where
  abbrev found : Scaling
  found = scaling_by (run insignificant m) (last_end m) up down

  pub scales_far : 1000000 < (reduce d).up + (reduce d).down → 1000000 < (up - down) + (down - up) → Scales m d found
  scales_far r f =
      cond_lt (λ (s : Scaling). Scales m d s) up down
      (λ l. cond_lt (λ (s : Scaling). Scales m d s) 1000000 (down - up) (λ g. (some, r)) (λ g. absurd (omega arith)))
      (λ l. cond_lt (λ (s : Scaling). Scales m d s) 1000000 (up - down) (λ g. (some, r)) (λ g. absurd (omega arith)))

  pub scales_by : (reduce d).up ≡ up - down → (reduce d).down ≡ down - up → Scales m d found
  scales_by u w =
      cond_lt (λ (s : Scaling). Scales m d s) up down
      (λ l. cond_lt (λ (s : Scaling). Scales m d s) 1000000 (down - up)
      (λ g. (some, omega arith))
      (λ g. record { some = some; first = refl; last = refl; digits = digits; up = omega arith; down = w; sign = λ e. omega arith; power = g }))
      (λ l. cond_lt (λ (s : Scaling). Scales m d s) 1000000 (up - down)
      (λ g. (some, omega arith))
      (λ g. record { some = some; first = refl; last = refl; digits = digits; up = u; down = omega arith; sign = λ e. clash e refl; power = g }))

-- of a mantissa m, with n the size of the exponent and p the digits of the fraction
module _ (m : List ℕ) (d : Decimal) (coef : d.coef ≡ count 0 m) where
  pub scales_zero : last_end m ≡ 0 → d.coef ≡ 0
  scales_zero e = coef ∙ no_last m e

  module _ (n p : ℕ) (h : 0 < last_end m) (short : length m ≤ 65536) (places : p ≤ length m) where
    abbrev z : ℕ
    z = length (digits_of (drop (last_end m) m))

    z_short : z ≤ 65536
    z_short = omega (arith, digits_short (drop (last_end m) m), length-drop (last_end m) m)

    mid : Middle m (run insignificant m) (last_end m)
    mid = middle m h

    abbrev c : ℕ
    c = count 0 (part (run insignificant m) (last_end m) m)

    is : reduce d ≡ record { coef = c; up = d.up + z - d.down; down = d.down - (d.up + z) }
    is = reduced d c z (coef ∙ mid.whole) mid.ending

    some : 0 < d.coef
    some =
        by_lt 0 d.coef (λ l. l)
        (λ l. absurd (omega (arith, mid.ending, no_product c (10 ^ z) (sym mid.whole ∙ sym coef ∙ omega arith) (one-le-pow z 10 (omega arith)))))

    digits : digits_of (part (run insignificant m) (last_end m) m) ≡ decimal (reduce d).coef
    digits = sym mid.digits ∙ ap (λ (r : Decimal). decimal r.coef) (sym is)

    up_is : (reduce d).up ≡ d.up + z - d.down
    up_is = ap (λ (r : Decimal). r.up) is

    down_is : (reduce d).down ≡ d.down - (d.up + z)
    down_is = ap (λ (r : Decimal). r.down) is

    -- an exponent without a minus sign
    pub scales_up : d.up ≡ n → d.down ≡ p → Scales m d (scaling_by (run insignificant m) (last_end m) (clamped n + z) p)
    scales_up u w =
        ⊎_elim
        (λ e. scales_by m d (clamped n + z) p some digits (omega (arith, up_is)) (omega (arith, down_is)))
        (λ e. scales_far m d (clamped n + z) p some digits (omega (arith, up_is)) (omega arith))
        (capped_cases n)

    -- with one
    pub scales_down : d.up ≡ 0 → d.down ≡ n + p → Scales m d (scaling_by (run insignificant m) (last_end m) z (clamped n + p))
    scales_down u w =
        ⊎_elim
        (λ e. scales_by m d z (clamped n + p) some digits (omega (arith, up_is)) (omega (arith, down_is)))
        (λ e. scales_far m d z (clamped n + p) some digits (omega (arith, down_is, z_short)) (omega (arith, z_short)))
        (capped_cases n)
