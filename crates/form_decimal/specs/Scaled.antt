-- The number that a float's three ends mark, and what its scaling finds: the digits and the power of the reduced number.
-- Assumes nothing.
use Rattle.std.specs.Prelude.{◌≡◌, Bool, true, false, cond, List, ℕ, ◌+◌, ◌-◌, ◌≤◌, ◌<◌, leb, ltb, length}
use Rattle.err.specs.Outcome.{accepted}
use Rattle.err.specs.Reading.{values_of_float}
use Rattle.err.specs.declared.FloatLit.{FloatLit}
use Rattle.scan.specs.Run.{run}
use Rattle.scan.specs.Part.{part}
use Rattle.buffer.specs.Digits.{decimal}
use Rattle.grammar.specs.Decimal.{Decimal}
use Rattle.grammar.specs.Values.{powered}
use Rattle.float.specs.Float.{float_read}
use Rattle.form.specs.Reduced.{reduce}
use Rattle.form_decimal.specs.Digits.{insignificant, digits_of, last_end}
use Rattle.form_decimal.specs.declared.Scaled.{Scaled}
use Rattle.form_decimal.specs.declared.Scaling.{Scaling}
use Rattle.form_decimal.specs.declared.Scaling.TheVariants as scaling

-- the digits up to the first end, those after a period up to the second, and the exponent after an `e` up to the third
unfoldable pub float_at : List ℕ → ℕ → ℕ → ℕ → Decimal
float_at s i f e = powered (part 0 i s) (part (i + 1) f s) (part (f + 1) e s)

-- the number of a float that was read with its three ends
abbrev pub decimal_of : List ℕ → FloatLit → Decimal
decimal_of s l = float_at s l.end_integer_part l.end_fractional_part l.end_number_part

-- a text within its limit that litrs reads as a float with these ends
abbrev pub FloatOf : List ℕ → FloatLit → Type 0
FloatOf s l =
    (length s ≤ 65536)
    × (float_read s ≡ accepted 3 l.end_number_part (values_of_float l))

-- no exponent that is above 2,000,000 can be mended by the 65,536 digits of a text; all of them are clamped to 2,000,001
unfoldable pub clamped : ℕ → ℕ
clamped n = cond (leb n 2000000) n 2000001

-- the opposite of 01's "It is 46 exactly when k is beyond 1,000,000 either way"
abbrev pub power_in_range : Decimal → Bool
power_in_range d = leb ((reduce d).up + (reduce d).down) 1000000

-- what is found of a number d whose mantissa is m: its significant digits stand from the first to the last, and the power has a sign only where it is above 0
pub record ScaledTo (m : List ℕ) (d : Decimal) (r : Scaled) : Type 0 where
  pub some : 0 < d.coef
  pub first : r.first ≡ run insignificant m
  pub last : r.last ≡ last_end m
  pub digits : digits_of (part r.first r.last m) ≡ decimal (reduce d).coef
  pub up : (reduce d).up ≡ cond r.negative 0 r.power
  pub down : (reduce d).down ≡ cond r.negative r.power 0
  pub sign : r.negative ≡ true → 0 < r.power
  pub power : r.power ≤ 1000000

abbrev pub Scales : List ℕ → Decimal → Scaling → Type 0
Scales m d scaling.Zero = d.coef ≡ 0
Scales m d scaling.TooFar = (0 < d.coef) × (1000000 < (reduce d).up + (reduce d).down)
Scales m d (scaling.To r) = ScaledTo m d r

-- the number that is `up` less `down`, as a power with its sign, where it is within 1,000,000 either way
abbrev pub scaling_by : ℕ → ℕ → ℕ → ℕ → Scaling
scaling_by first last up down =
    cond (ltb up down)
    (cond (ltb 1000000 (down - up)) scaling.TooFar (scaling.To (record { first = first; last = last; negative = true; power = down - up })))
    (cond (ltb 1000000 (up - down)) scaling.TooFar (scaling.To (record { first = first; last = last; negative = false; power = up - down })))

-- where an exponent's sign and digits start: after the `e`, or at the end where there is none
abbrev pub exponent_start : ℕ → ℕ → ℕ
exponent_start end number_end = cond (ltb end number_end) (end + 1) end
