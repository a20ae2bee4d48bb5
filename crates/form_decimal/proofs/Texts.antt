-- What the code finds in the text of a float is the reduced number.
-- Assumes nothing.
use mathlib.Core.Path.{◌≡◌, refl, sym, ap, ◌∙◌}
use mathlib.Core.Bool.{Bool, true, false}
use mathlib.Core.List.{List, [], ◌∷◌}
use Prim.Native.Nat.{ℕ, zero, suc, ◌+◌, ◌-◌, ◌≤◌, ◌<◌}
use native.Mathlib.Omega.{arith}
use lib.ListN.{length, take, drop, length-take}
use lib.Seq.{take-nil, length-take-le}
use Rattle.err.specs.Outcome.{accepted, ends}
use Rattle.scan.specs.Run.{run}
use Rattle.scan.proofs.Cases.{cond_lt, by_lt}
use Rattle.integer_value.specs.Value.{number}
use Rattle.float.specs.Float.{float_read}
use Rattle.grammar.specs.Notation.{begins, byte}
use Rattle.grammar.specs.Values.{number_in}
use Rattle.form_decimal.specs.Digits.{insignificant, digits_of, last_end}
use Rattle.scan.specs.Part.{part}
use Rattle.form_decimal.specs.Scaled.{float_at, clamped, Scales, scaling_by, exponent_start}
use Rattle.form_decimal.proofs.Digits.{digits_short, last_le}
use Rattle.form_decimal.proofs.Signs.{unsigned}
use Rattle.form_decimal.proofs.Reducing.{scales_zero, scales_up, scales_down}
use Rattle.form_decimal.proofs.Shape.{Shape, shape, same_number}

drop_take : (a f : ℕ) (s : List ℕ) → drop a (take f s) ≡ take (f - a) (drop a s)
drop_take zero f s = let e : f - 0 ≡ f = omega arith in rw e
drop_take (suc a) zero s = let e : 0 - suc a ≡ 0 = omega arith in rw e
drop_take (suc a) (suc f) [] = sym (take-nil (suc f - suc a))
drop_take (suc a) (suc f) (b ∷ s) = let e : suc f - suc a ≡ f - a = omega arith in rw e (drop_take a f s)

-- where there is no exponent both parts are empty
exponent_there : (f e : ℕ) (s : List ℕ) → part (exponent_start f e) e s ≡ part (f + 1) e s
exponent_there f e s =
    cond_lt (λ (k : ℕ). part k e s ≡ part (f + 1) e s) f e (λ l. refl)
    (λ l. let p : e - f ≡ 0 = omega arith in let q : e - (f + 1) ≡ 0 = omega arith in rw (p, q))

module _ (s : List ℕ) (i f e : ℕ) (fits : length s ≤ 65536) (read : float_read s ≡ accepted 3 e (ends (record { whole = i; fraction = f; end = e }))) where
  is : Shape s i f e
  is = shape s i f e read

  pub order : (i ≤ f) × ((f ≤ e) × (e ≤ length s))
  order = is.order

  pub mantissa_length : length (take f s) ≡ f
  mantissa_length = length-take-le f s (omega (arith, order))

  pub last_inside : last_end (take f s) ≤ f
  last_inside = omega (arith, last_le (take f s), mantissa_length)

  pub found_zero : last_end (take f s) ≡ 0 → (float_at s i f e).coef ≡ 0
  found_zero h = scales_zero (take f s) (float_at s i f e) is.coef h

  abbrev digits : List ℕ
  digits = unsigned (part (f + 1) e s)

  abbrev places : ℕ
  places = length (digits_of (part i f s))

  short : places ≤ length (take f s)
  short = omega (arith, digits_short (part i f s), length-take (f - i) (drop i s), mantissa_length)

  -- the first and the last significant digit as they were found, the zeros after them and the fraction's digits, and the exponent
  module _ (last first start n z p : ℕ) (negative : Bool) (last_is : last ≡ last_end (take f s)) (there : last ≡ 0 → ⊥)
      (first_is : first ≡ run insignificant (take f s)) (zeros-are : z ≡ length (digits_of (part last f s))) (places-are : p ≡ places)
      (start_is : start ≡ exponent_start f e) (minus_is : negative ≡ begins (byte 45) (part start e s))
      (size_is : n ≡ clamped (number 10 (unsigned (part start e s)))) where
    some : 0 < last_end (take f s)
    some = by_lt 0 (last_end (take f s)) (λ l. l) (λ l. absurd (there (omega arith)))

    zeros : length (digits_of (drop (last_end (take f s)) (take f s))) ≡ z
    zeros = rw (zeros-are, last_is) (ap (λ (u : List ℕ). length (digits_of u)) (drop_take (last_end (take f s)) f s))

    exponent_is : part start e s ≡ part (f + 1) e s
    exponent_is = rw start_is (exponent_there f e s)

    -- the code's size is that of the Reference's exponent
    size : n ≡ clamped (number_in 10 digits)
    size = size_is ∙ ap (λ (x : List ℕ). clamped (number 10 (unsigned x))) exponent_is ∙ ap clamped (same_number digits is.exponent)

    minus : negative ≡ begins (byte 45) (part (f + 1) e s)
    minus = minus_is ∙ ap (begins (byte 45)) exponent_is

    -- with a minus sign
    pub found_down : negative ≡ true → Scales (take f s) (float_at s i f e) (scaling_by first last z (n + p))
    unfolding float_at
    found_down t =
        let m = sym minus ∙ t in
        rw (size, places-are, ← zeros, first_is, last_is)
        (scales_down (take f s) (float_at s i f e) is.coef (number_in 10 digits) places some
        (omega (arith, mantissa_length, order)) short (rw m) (rw (m, is.places)))

    -- and without
    pub found_up : negative ≡ false → Scales (take f s) (float_at s i f e) (scaling_by first last (n + z) p)
    unfolding float_at
    found_up t =
        let m = sym minus ∙ t in
        rw (size, places-are, ← zeros, first_is, last_is)
        (scales_up (take f s) (float_at s i f e) is.coef (number_in 10 digits) places some
        (omega (arith, mantissa_length, order)) short (rw m) (rw (m, is.places) (omega arith)))
