-- What a byte's class says of the byte: sets that are defined by class, as ranges of bytes. By a test of each byte below 128; all others have one class.
-- Assumes nothing.
use mathlib.Core.Path.{◌≡◌, refl, sym, ◌∙◌}
use mathlib.Core.Bool.{Bool, true, false, cond, ◌&&◌, ◌||◌, and-false, or-true}
use mathlib.Core.Logic.{◌⊎◌, inl, inr, ⊎_map}
use Prim.Native.Nat.{ℕ, ◌+◌, ◌-◌, ◌≤◌, ◌<◌}
use native.Mathlib.Omega.{arith}
use lib.Dec.{T, leb, ltb, eqb, eqb→eq}
use borrow.Author.Tests.{ltb-true, leb-true, eqb-true, lt-ltb, le-ltb, le-leb, lt-leb, ne_eqb}
use Rattle.scan.proofs.Cases.{by_lt, cond_lt, clash}
use Rattle.scan.proofs.Below.{every_below, below, alike, agreed}
use Rattle.parse.specs.Class.{class_of, within}
use Rattle.parse.specs.Sets.{digit, blank, dec_digit, hex_digit_of}
use Rattle.std.specs.Prelude.{Option, Some}

-- ---- tests

pub both : (a b : Bool) → (a && b) ≡ true → (a ≡ true) × (b ≡ true)
both true b e = (refl, e)
both false b e = clash e refl

pub either : (a b : Bool) → (a || b) ≡ true → (a ≡ true) ⊎ (b ≡ true)
either true b e = inl refl
either false b e = inr e

pub within_above : (a e b : ℕ) → e < b → within a e b ≡ false
within_above a e b h = rw (lt-leb b e h, and-false)

pub within_below : (a e b : ℕ) → b < a → within a e b ≡ false
within_below a e b h = rw (lt-leb a b h)

pub within_is : (a e b : ℕ) → a ≤ b → b ≤ e → within a e b ≡ true
within_is a e b h g = rw (le-leb a b h, le-leb b e g)

pub within_ends : (a e b : ℕ) → within a e b ≡ true → (a ≤ b) × (b ≤ e)
within_ends a e b t = let p = both (leb a b) (leb b e) t in (leb-true a b p.0, leb-true b e p.1)

-- ---- the class

-- the class of the n bytes from a on, by a test of each
pub class_from : (f : ℕ → ℕ) (a n : ℕ) → T (every_below (λ k. eqb (class_of (a + k)) (f (a + k))) n) → (b : ℕ) → a ≤ b → b < a + n → class_of b ≡ f b
class_from f a n t b h g =
    let q : a + (b - a) ≡ b = omega arith in
    rw q at (eqb→eq (class_of (a + (b - a))) (f (a + (b - a))) (below (λ k. eqb (class_of (a + k)) (f (a + k))) n t (b - a) (omega arith)))

pub class_digit : (b : ℕ) → 48 ≤ b → b ≤ 57 → class_of b ≡ b - 48
unfolding class_of
class_digit b h g = class_from (λ b. b - 48) 48 10 tt b h (omega arith)

pub class_upper_hex : (b : ℕ) → 65 ≤ b → b ≤ 70 → class_of b ≡ b - 55
unfolding class_of
class_upper_hex b h g = class_from (λ b. b - 55) 65 6 tt b h (omega arith)

pub class_lower_hex : (b : ℕ) → 97 ≤ b → b ≤ 102 → class_of b ≡ b - 87
unfolding class_of
class_lower_hex b h g = class_from (λ b. b - 87) 97 6 tt b h (omega arith)

-- below `0`, and between `Z` and `a`
pub class_low : (b : ℕ) → b < 48 → class_of b ≡ cond (eqb b 32 || (eqb b 9 || eqb b 10)) 18 19
unfolding class_of
class_low b h = class_from (λ b. cond (eqb b 32 || (eqb b 9 || eqb b 10)) 18 19) 0 48 tt b (omega arith) (omega arith)

pub class_middle : (b : ℕ) → 90 < b → b < 97 → class_of b ≡ cond (eqb b 95) 16 19
unfolding class_of
class_middle b h g = class_from (λ b. cond (eqb b 95) 16 19) 91 6 tt b (omega arith) (omega arith)

pub class_above : (b : ℕ) → 128 ≤ b → class_of b ≡ 20
unfolding class_of
class_above b h =
    rw (within_above 48 57 b (omega arith), within_above 97 102 b (omega arith), within_above 65 70 b (omega arith), ne_eqb b 95 (omega arith), within_above 97 122 b (omega arith), within_above 65 90 b (omega arith), ne_eqb b 32 (omega arith), ne_eqb b 9 (omega arith), ne_eqb b 10 (omega arith), le-ltb b 128 h)

-- two tests that agree below 128 and from 128 on are one
pub everywhere : (f g : ℕ → Bool) → T (every_below (λ b. alike (f b) (g b)) 128) → ((b : ℕ) → 128 ≤ b → f b ≡ g b) → (b : ℕ) → f b ≡ g b
everywhere f g t h b = by_lt b 128 (agreed f g 128 t b) (h b)

pub class_underscore : class_of 95 ≡ 16
unfolding class_of
class_underscore = refl

pub class_underscore_is : (b : ℕ) → eqb (class_of b) 16 ≡ eqb b 95
unfolding class_of
class_underscore_is = everywhere (λ b. eqb (class_of b) 16) (λ b. eqb b 95) tt (λ b h. rw (class_above b h, ne_eqb b 95 (omega arith)))

-- ---- decimal digits

pub dec_digit_is : (b : ℕ) → dec_digit b ≡ within 48 57 b
unfolding dec_digit class_of
dec_digit_is = everywhere dec_digit (within 48 57) tt (λ b h. rw (class_above b h, within_above 48 57 b (omega arith)))

pub dec_digit_ends : (b : ℕ) → dec_digit b ≡ true → (48 ≤ b) × (b ≤ 57)
dec_digit_ends b t = within_ends 48 57 b (sym (dec_digit_is b) ∙ t)

pub dec_digit_within : (b : ℕ) → 48 ≤ b → b ≤ 57 → dec_digit b ≡ true
dec_digit_within b h g = dec_digit_is b ∙ within_is 48 57 b h g

pub class_decimal : (b : ℕ) → class_of b < 10 → class_of b ≡ b - 48
unfolding dec_digit class_of
class_decimal b h = rw (sym (dec_digit_is b) ∙ lt-ltb (class_of b) 10 h)

-- ---- digits and `_`

pub digit_underscore : (base : ℕ) → digit base 95 ≡ true
unfolding digit
digit_underscore base = rw class_underscore

pub digit_below : (base b : ℕ) → class_of b < base → digit base b ≡ true
unfolding digit
digit_below base b h = rw (lt-ltb (class_of b) base h, or-true)

pub digit_cases : (base b : ℕ) → digit base b ≡ true → (b ≡ 95) ⊎ (class_of b < base)
unfolding digit
digit_cases base b t =
    ⊎_map (λ e. eqb-true b 95 (sym (class_underscore_is b) ∙ e)) (λ e. ltb-true (class_of b) base e)
    (either (eqb (class_of b) 16) (ltb (class_of b) base) t)

pub digit_decimal : (base b : ℕ) → 10 ≤ base → dec_digit b ≡ true → digit base b ≡ true
unfolding dec_digit
digit_decimal base b h t = digit_below base b (omega (arith, ltb-true (class_of b) 10 t))

pub digit_is : (base b : ℕ) → digit base b ≡ (eqb b 95 || ltb (class_of b) base)
unfolding digit
digit_is base b = rw class_underscore_is

pub digit_ten : (b : ℕ) → digit 10 b ≡ (eqb b 95 || dec_digit b)
unfolding dec_digit
digit_ten b = digit_is 10 b

pub digit_ten_cases : (b : ℕ) → digit 10 b ≡ true → (b ≡ 95) ⊎ (dec_digit b ≡ true)
digit_ten_cases b t = ⊎_map (eqb-true b 95) (λ e. e) (either (eqb b 95) (dec_digit b) (sym (digit_ten b) ∙ t))

-- ---- blanks

pub blank_is : (b : ℕ) → blank b ≡ (eqb b 32 || (eqb b 9 || eqb b 10))
unfolding blank class_of
blank_is =
    everywhere blank (λ b. eqb b 32 || (eqb b 9 || eqb b 10)) tt
    (λ b h. rw (class_above b h, ne_eqb b 32 (omega arith), ne_eqb b 9 (omega arith), ne_eqb b 10 (omega arith)))

pub blank_cases : (b : ℕ) → blank b ≡ true → (b ≡ 32) ⊎ ((b ≡ 9) ⊎ (b ≡ 10))
blank_cases b t =
    ⊎_map (eqb-true b 32) (λ e. ⊎_map (eqb-true b 9) (eqb-true b 10) (either (eqb b 9) (eqb b 10) e))
    (either (eqb b 32) (eqb b 9 || eqb b 10) (sym (blank_is b) ∙ t))

-- ---- hex digits

pub hex_is : (b : ℕ) → ltb (class_of b) 16 ≡ (within 48 57 b || (within 97 102 b || within 65 70 b))
unfolding class_of
hex_is =
    everywhere (λ b. ltb (class_of b) 16) (λ b. within 48 57 b || (within 97 102 b || within 65 70 b)) tt
    (λ b h. rw (class_above b h, within_above 48 57 b (omega arith), within_above 97 102 b (omega arith), within_above 65 70 b (omega arith)))

pub hex_class : (b v : ℕ) → hex_digit_of b ≡ Some v → (v ≡ class_of b) × (v < 16)
unfolding hex_digit_of
hex_class b v =
    cond_lt (λ (h : Option ℕ). h ≡ Some v → (v ≡ class_of b) × (v < 16)) (class_of b) 16
    (λ l e. let q : v ≡ class_of b = cc in (q, omega arith))
    (λ l e. let z : ◌≡◌ {A = ℕ} 0 1 = cc in absurd (omega arith))
