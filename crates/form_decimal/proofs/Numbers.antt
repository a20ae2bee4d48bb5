-- The number that a mantissa's digits write: zeros before the first significant digit add nothing, and those after the last are a power of ten.
-- Assumes nothing.
use mathlib.Core.Path.{◌≡◌, refl, sym, ap, ◌∙◌}
use mathlib.Core.Bool.{Bool, true, false, cond}
use mathlib.Core.List.{List, [], ◌∷◌, ◌++◌, append-nil, append_assoc}
use Prim.Native.Nat.{ℕ, ◌+◌, ◌*◌, ◌^◌, ◌-◌, ◌/◌, ◌%◌, ◌≤◌, ◌<◌}
use native.Mathlib.Nat.{mul-one, mul_assoc, mul_comm, zero-mul, zero-add, pow-suc}
use native.Mathlib.Omega.{arith}
use lib.ListN.{length, take, drop, take-append-drop}
use lib.Seq.{length-take-le, drop-drop}
use borrow.Author.Tests.{le-leb}
use Rattle.scan.specs.Run.{run, All, Stops}
use Rattle.scan.proofs.Cases.{cond_in, cond_eq, by_lt, clash}
use Rattle.scan.proofs.Runs.{run_le, run_all, run_stops}
use Rattle.buffer.specs.Digits.{decimal}
use Rattle.buffer.proofs.Decimals.{last, more}
use Rattle.grammar.specs.Values.{digit_value, number_from}
use Rattle.parse.specs.Sets.{dec_digit}
use Rattle.parse.proofs.Classes.{dec_digit_ends}
use Rattle.form_decimal.specs.Digits.{significant, insignificant, digits_of, last_end}
use Rattle.scan.specs.Part.{part}
use Rattle.form_decimal.proofs.Digits.{not_insignificant, is_insignificant, last_insignificant, significant_ends, significant_digit, significant_within, digits_append, last_append, last_after}

-- the number of digits after a number a
abbrev pub count : ℕ → List ℕ → ℕ
count a s = number_from 10 a (digits_of s)

pub value : (b : ℕ) → 48 ≤ b → b ≤ 57 → digit_value b ≡ b - 48
unfolding digit_value
value b h g = rw (le-leb b 57 g)

from_append : (a : ℕ) (s t : List ℕ) → number_from 10 a (s ++ t) ≡ number_from 10 (number_from 10 a s) t
from_append a [] t = refl
from_append a (b ∷ s) t = from_append (a * 10 + digit_value b) s t

pub count_append : (a : ℕ) (s t : List ℕ) → count a (s ++ t) ≡ count (count a s) t
count_append a s t = rw digits_append (from_append a (digits_of s) (digits_of t))

-- a digit that is not significant is `0`
zero_digit : (b : ℕ) → dec_digit b ≡ true → insignificant b ≡ true → b ≡ 48
zero_digit b f t =
    let e = dec_digit_ends b f in
    by_lt 48 b (λ l. clash (significant_within b (omega arith) (omega arith)) (not_insignificant b t)) (λ l. omega arith)

-- digits that are not significant are a power of ten
pub count_insignificant : (a : ℕ) (s : List ℕ) → All insignificant s → count a s ≡ a * 10 ^ length (digits_of s)
count_insignificant a [] h = sym (mul-one a)
count_insignificant a (b ∷ s) h = by_test (dec_digit b) refl (count_insignificant a s h.1) (count_insignificant (a * 10 + digit_value b) s h.1)
  where
    by_test : (x : Bool) → dec_digit b ≡ x → count a s ≡ a * 10 ^ length (digits_of s)
        → count (a * 10 + digit_value b) s ≡ (a * 10 + digit_value b) * 10 ^ length (digits_of s)
        → number_from 10 a (cond x (b ∷ digits_of s) (digits_of s)) ≡ a * 10 ^ length (cond x (b ∷ digits_of s) (digits_of s))
    by_test false x e g = e
    by_test true x e g =
        let z = zero_digit b x h.0 in
        let v : digit_value b ≡ 0 = value b (omega arith) (omega arith) ∙ omega arith in
        let w : a * 10 + digit_value b ≡ a * 10 = omega arith in
        g ∙ rw w (mul_assoc a 10 _ ∙ ap (λ (n : ℕ). a * n) (mul_comm 10 _ ∙ sym (pow-suc 10 _)))

-- up to the last significant digit the number does not end in zero
pub count_last : (a : ℕ) (s : List ℕ) → 0 < last_end s → 0 < count a (take (last_end s) s) % 10
count_last a [] = λ h. absurd (omega arith)
count_last a (b ∷ s) =
    cond_eq (λ (n : ℕ). 0 < n → 0 < count a (take n (b ∷ s)) % 10) (last_end s) 0
    (λ e.
    cond_in (λ (n : ℕ). 0 < n → 0 < count a (take n (b ∷ s)) % 10) (significant b)
    (λ t h.
    let g = significant_ends b t in
    rw (significant_digit b t, value b (omega arith) (omega arith)) (omega arith))
    (λ t h. absurd (omega arith)))
    (λ e h.
    cond_in (λ (u : List ℕ). 0 < number_from 10 a u % 10) (dec_digit b)
    (λ t. count_last (a * 10 + digit_value b) s (omega arith)) (λ t. count_last a s (omega arith)))

-- ---- digits without a leading zero are the decimal digits of their number

decimal_step : (a d : ℕ) → 0 < a → d < 10 → decimal (a * 10 + d) ≡ decimal a ++ ((48 + d) ∷ [])
decimal_step a d p h =
    let q : (a * 10 + d) / 10 ≡ a = omega arith in
    let r : (a * 10 + d) % 10 ≡ d = omega arith in
    more (a * 10 + d) (omega arith) ∙ rw (q, r)

after : (a : ℕ) (s : List ℕ) → 0 < a → decimal (count a s) ≡ decimal a ++ digits_of s
after a [] p = sym (append-nil _)
after a (b ∷ s) p = by_test (dec_digit b) refl (after a s p) (after (a * 10 + digit_value b) s (omega arith))
  where
    by_test : (x : Bool) → dec_digit b ≡ x → decimal (count a s) ≡ decimal a ++ digits_of s
        → decimal (count (a * 10 + digit_value b) s) ≡ decimal (a * 10 + digit_value b) ++ digits_of s
        → decimal (number_from 10 a (cond x (b ∷ digits_of s) (digits_of s))) ≡ decimal a ++ cond x (b ∷ digits_of s) (digits_of s)
    by_test false x e g = e
    by_test true x e g =
        let h = dec_digit_ends b x in
        let v = value b h.0 h.1 in
        let k : 48 + (b - 48) ≡ b = omega arith in
        g ∙ rw v (ap (λ (t : List ℕ). t ++ digits_of s) (decimal_step a (b - 48) p (omega arith)) ∙ append_assoc (decimal a) _ (digits_of s) ∙ rw k)

pub decimal_only : (b : ℕ) (s : List ℕ) → significant b ≡ true → decimal (count 0 (b ∷ s)) ≡ digits_of (b ∷ s)
decimal_only b s t =
    let h = significant_ends b t in
    let v : 0 * 10 + digit_value b ≡ b - 48 = zero-add (digit_value b) ∙ value b (omega arith) (omega arith) in
    let k : 48 + (b - 48) ≡ b = omega arith in
    rw (significant_digit b t)
    (ap (λ (n : ℕ). decimal (count n s)) v ∙ after (b - 48) s (omega arith) ∙ rw (last (b - 48) (omega arith), k))

-- ---- the whole mantissa

-- what the text between the first and the last significant digit is, in a mantissa m that has one
pub record Middle (m : List ℕ) (first end : ℕ) : Type 0 where
  pub digits : decimal (count 0 (part first end m)) ≡ digits_of (part first end m)
  pub ending : 0 < count 0 (part first end m) % 10
  pub whole : count 0 m ≡ count 0 (part first end m) * 10 ^ length (digits_of (drop end m))

-- the rest from the first significant digit on
from_first : (r : List ℕ) → Stops insignificant r → 0 < last_end r → decimal (count 0 (take (last_end r) r)) ≡ digits_of (take (last_end r) r)
from_first [] g = λ h. absurd (omega arith)
from_first (b ∷ r) g =
    cond_eq (λ (n : ℕ). 0 < n → decimal (count 0 (take n (b ∷ r))) ≡ digits_of (take n (b ∷ r))) (last_end r) 0
    (λ e. rw (is_insignificant b g) (λ h. decimal_only b [] (is_insignificant b g)))
    (λ e h. decimal_only b (take (last_end r) r) (is_insignificant b g))

all_insignificant : (s : List ℕ) → All insignificant s → last_end s ≡ 0
all_insignificant [] h = refl
all_insignificant (b ∷ s) h = rw (all_insignificant s h.1, not_insignificant b h.0)

-- where there is no significant digit the number is zero
pub no_last : (m : List ℕ) → last_end m ≡ 0 → count 0 m ≡ 0
no_last m e = count_insignificant 0 m (rw e at (last_after m)) ∙ zero-mul _

pub middle : (m : List ℕ) → 0 < last_end m → Middle m (run insignificant m) (last_end m)
middle m h = record {
  digits = rw span (from_first r (run_stops insignificant m) some);
  ending = rw span (count_last 0 r some);
  whole = rw (span, back) whole;
}
  where
    a : List ℕ
    a = take (run insignificant m) m

    r : List ℕ
    r = drop (run insignificant m) m

    split : a ++ r ≡ m
    split = take-append-drop (run insignificant m) m

    len : length a ≡ run insignificant m
    len = length-take-le (run insignificant m) m (run_le insignificant m)

    some : 0 < last_end r
    some = by_lt 0 (last_end r) (λ l. l) (λ l. absurd (omega (arith, ap last_end split, last_insignificant a r (omega arith), all_insignificant a (run_all insignificant m))))

    ends : last_end m ≡ run insignificant m + last_end r
    ends = ap last_end (sym split) ∙ last_append a r some ∙ rw len

    span : part (run insignificant m) (last_end m) m ≡ take (last_end r) r
    span = let e : last_end m - run insignificant m ≡ last_end r = omega (arith, ends) in rw e

    back : drop (last_end m) m ≡ drop (last_end r) r
    back = rw ends (sym (drop-drop (last_end r) (run insignificant m) m))

    whole : count 0 m ≡ count 0 (take (last_end r) r) * 10 ^ length (digits_of (drop (last_end r) r))
    whole =
        ap (count 0) (sym split) ∙ count_append 0 a r ∙ ap (λ (n : ℕ). count n r) (count_insignificant 0 a (run_all insignificant m) ∙ zero-mul _)
        ∙ ap (count 0) (sym (take-append-drop (last_end r) r)) ∙ count_append 0 (take (last_end r) r) (drop (last_end r) r)
        ∙ count_insignificant (count 0 (take (last_end r) r)) (drop (last_end r) r) (last_after r)
