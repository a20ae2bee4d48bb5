-- What the three ends of a float that was read say of its text: the digits of its mantissa, of its fraction and of its exponent.
-- Assumes nothing.
use mathlib.Core.Path.{◌≡◌, refl, sym, ap, ◌∙◌}
use mathlib.Core.Logic.{⊎_elim}
use mathlib.Core.Bool.{Bool, true, false, cond}
use mathlib.Core.List.{List, [], ◌∷◌, ◌++◌, append_assoc}
use Prim.Native.Nat.{ℕ, ◌+◌, ◌*◌, ◌-◌, ◌≤◌}
use native.Mathlib.Omega.{arith}
use lib.ListN.{length, take, drop, length-append}
use lib.Seq.{take_at, drop_at}
use borrow.Author.Tests.{ne_eqb, ltb-true}
use Rattle.err.specs.Outcome.{FloatValues, accepted, ends}
use Rattle.err.proofs.Values.{ends_same}
use Rattle.scan.specs.Run.{All}
use Rattle.scan.proofs.Cases.{cond_in}
use Rattle.parse.specs.Class.{class_of}
use Rattle.parse.specs.Sets.{digit, dec_digit}
use Rattle.parse.proofs.Classes.{digit_ten_cases, dec_digit_ends, class_decimal}
use Rattle.integer_value.specs.Value.{number}
use Rattle.integer_value.specs.Value as code
use Rattle.float.specs.Float.{float_read}
use Rattle.float.specs.Parts.{Fraction, no_fraction, fraction, Exponent, no_exponent, exponent, Sign, unsigned, plus, minus}
use Rattle.float.proofs.Sound.{sound}
use Rattle.grammar.specs.Notation.{begins}
use Rattle.grammar.specs.Suffixes.{LOW}
use Rattle.grammar.specs.Numbers.{SIGN}
use Rattle.grammar.specs.Values.{digit_value, plain, number_from, number_in}
use Rattle.form_decimal.specs.Digits.{digits_of}
use Rattle.scan.specs.Part.{part}
use Rattle.form_decimal.specs.Scaled.{float_at}
use Rattle.form_decimal.proofs.Digits.{digits_append}
use Rattle.form_decimal.proofs.Numbers.{count, value}

-- ---- digits and `_`

-- their digits are what is left without `_`
digits_plain : (s : List ℕ) → All (digit 10) s → digits_of s ≡ plain s
unfolding dec_digit class_of LOW
digits_plain [] h = refl
digits_plain (b ∷ s) h =
    let e = digits_plain s h.1 in
    ⊎_elim (λ q. rw q e)
    (λ t.
    let g = dec_digit_ends b t in
    rw (t, ne_eqb b 95 (λ q. omega arith)) (ap (λ (u : List ℕ). b ∷ u) e))
    (digit_ten_cases b h.0)

plain_append : (s t : List ℕ) → plain (s ++ t) ≡ plain s ++ plain t
plain_append [] t = refl
plain_append (b ∷ s) t = by_test (LOW b) (plain_append s t)
  where
    by_test : (x : Bool) → plain (s ++ t) ≡ plain s ++ plain t → cond x (plain (s ++ t)) (b ∷ plain (s ++ t)) ≡ cond x (plain s) (b ∷ plain s) ++ plain t
    by_test true e = e
    by_test false e = ap (λ (u : List ℕ). b ∷ u) e

class : (b : ℕ) → dec_digit b ≡ true → class_of b ≡ b - 48
unfolding dec_digit
class b t = class_decimal b (ltb-true (class_of b) 10 t)

-- the number that the code reads of them is the Reference's
same_from : (a : ℕ) (s : List ℕ) → All (digit 10) s → code.number_from 10 a s ≡ number_from 10 a (plain s)
unfolding LOW
same_from a [] h = refl
same_from a (b ∷ s) h =
    ⊎_elim (λ q. rw q (same_from a s h.1))
    (λ t.
    let g = dec_digit_ends b t in
    let v : class_of b ≡ digit_value b = class b t ∙ sym (value b g.0 g.1) in
    rw (ne_eqb b 95 (λ q. omega (arith, g.1)), v) (same_from (a * 10 + digit_value b) s h.1))
    (digit_ten_cases b h.0)

pub same_number : (s : List ℕ) → All (digit 10) s → number 10 s ≡ number_in 10 s
unfolding number number_in
same_number s h = same_from 0 s h

-- ---- the parts

part_at : (a b c : List ℕ) (n k : ℕ) → length a ≡ n → n + length b ≡ k → part n k (a ++ (b ++ c)) ≡ b
part_at a b c n k e g = rw (drop_at a (b ++ c) n e) (take_at b c (k - n) (omega arith))

pub record Shape (s : List ℕ) (i f e : ℕ) : Type 0 where
  pub order : (i ≤ f) × ((f ≤ e) × (e ≤ length s))
  pub coef : (float_at s i f e).coef ≡ count 0 (take f s)
  pub places : length (plain (part (i + 1) f s)) ≡ length (digits_of (part i f s))
  pub exponent : All (digit 10) (cond (begins SIGN (part (f + 1) e s)) (drop 1 (part (f + 1) e s)) (part (f + 1) e s))

-- what stands after the period, and it has the fraction's digits
fraction_part : (a b c : List ℕ) → Fraction b → let n = length a in
    digits_of b ≡ plain (part (n + 1) (n + length b) (a ++ (b ++ c)))
unfolding dec_digit class_of
fraction_part a b c (no_fraction e) =
    let q : length a + length b - (length a + 1) ≡ 0 = omega (arith, ap length e) in
    rw (q, e)
fraction_part a b c (fraction ds e all st) =
    let w : a ++ (b ++ c) ≡ (a ++ (46 ∷ [])) ++ (ds ++ c) = rw (e, append_assoc) in
    let p : part (length a + 1) (length a + length b) (a ++ (b ++ c)) ≡ ds =
    rw w (part_at (a ++ (46 ∷ [])) ds c (length a + 1) (length a + length b) (simp length-append) (omega (arith, ap length e))) in
    rw (p, e) (digits_plain ds all)

-- after the sign, if there is one
after_sign_lem : (sign ds : List ℕ) → Sign sign → All (digit 10) ds → All (digit 10) (cond (begins SIGN (sign ++ ds)) (drop 1 (sign ++ ds)) (sign ++ ds))
unfolding SIGN
after_sign_lem sign ds plus h = h
after_sign_lem sign ds minus h = h
after_sign_lem sign [] unsigned h = tt
after_sign_lem sign (b ∷ ds) unsigned h = cond_in (λ (u : List ℕ). All (digit 10) u) (SIGN b) (λ t. h.1) (λ t. h)

exponent_part : (a b c : List ℕ) → Exponent b → let n = length a in
    let x = part (n + 1) (n + length b) (a ++ (b ++ c)) in All (digit 10) (cond (begins SIGN x) (drop 1 x) x)
exponent_part a b c (no_exponent e) =
    let q : length a + length b - (length a + 1) ≡ 0 = omega (arith, ap length e) in
    rw q tt
exponent_part a b c (exponent letter sign ds e st sg all some) =
    let w : a ++ (b ++ c) ≡ (a ++ (letter ∷ [])) ++ ((sign ++ ds) ++ c) = rw e (simp append_assoc) in
    let p : part (length a + 1) (length a + length b) (a ++ (b ++ c)) ≡ sign ++ ds =
    rw w (part_at (a ++ (letter ∷ [])) (sign ++ ds) c (length a + 1) (length a + length b) (simp length-append) (omega (arith, ap length e))) in
    rw p (after_sign_lem sign ds sg all)

-- the three ends of tiled parts
tiled : (w b x c : List ℕ) → All (digit 10) w → Fraction b → Exponent x → (e : ℕ) → e ≡ length w + length b + length x
    → Shape (w ++ (b ++ (x ++ c))) (length w) (length w + length b) e
unfolding float_at number_in
tiled w b x c h fr ex e q = record {
  order = (omega arith, (omega arith, simp length-append (omega arith)));
  coef = rw (whole, front, digits_append, plain_append, digits_plain w h, ← fraction_part w b (x ++ c) fr);
  places = rw (frac, ← fraction_part w b (x ++ c) fr);
  exponent = rw q (rw (length-append, append_assoc) at (exponent_part (w ++ b) x c ex));
}
  where
    s : List ℕ
    s = w ++ (b ++ (x ++ c))

    whole : part 0 (length w) s ≡ w
    whole = part_at [] w (b ++ (x ++ c)) 0 (length w) refl (omega arith)

    front : take (length w + length b) s ≡ w ++ b
    front = rw (← append_assoc w b (x ++ c)) (take_at (w ++ b) (x ++ c) (length w + length b) (simp length-append))

    frac : part (length w) (length w + length b) s ≡ b
    frac = part_at w b (x ++ c) (length w) (length w + length b) refl refl

-- what a float's reading says of its text
pub shape : (s : List ℕ) (i f e : ℕ) → float_read s ≡ accepted 3 e (ends (record { whole = i; fraction = f; end = e })) → Shape s i f e
shape s i f e h =
    let t = sound s 3 e (ends (record { whole = i; fraction = f; end = e })) h in
    let p = t.parts in
    let v = ends_same t.values in
    placed t.whole t.frac t.ex t.suf t.text (ap (λ (z : FloatValues). z.whole) v) (ap (λ (z : FloatValues). z.fraction) v)
    (tiled t.whole t.frac t.ex t.suf p.digits p.fraction p.exponent e t.start)
  where
    placed : (w b x c : List ℕ) → s ≡ w ++ (b ++ (x ++ c)) → i ≡ length w → f ≡ length w + length b
        → Shape (w ++ (b ++ (x ++ c))) (length w) (length w + length b) e → Shape s i f e
    placed w b x c q a d r = rw (q, a, d) r
