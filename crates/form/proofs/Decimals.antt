-- A number's decimal digits as the grammar reads them: digits, the first one a digit, and worth the number.
-- Assumes nothing.
use mathlib.Core.Path.{◌≡◌, refl, ap}
use mathlib.Core.Bool.{true}
use mathlib.Core.List.{List, [], ◌∷◌, ◌++◌}
use Prim.Native.Nat.{ℕ, ◌+◌, ◌*◌, ◌/◌, ◌%◌, ◌≤◌, ◌<◌}
use native.Mathlib.Omega.{arith}
use lib.Dec.{T, leb, le→leb}
use borrow.Author.Tests.{le-leb, ne_eqb}
use Rattle.buffer.specs.Digits.{decimal}
use Rattle.buffer.proofs.Decimals.{by_digits}
use Rattle.grammar.specs.Notation.{Class, all, begins}
use Rattle.grammar.specs.Suffixes.{DEC_DIGIT, LOW}
use Rattle.grammar.specs.Numbers.{DEC_LITERAL}
use Rattle.grammar.specs.Values.{digit_value, plain, number_from, number_in}
use Rattle.grammar.proofs.Scan.{any, Run}
use Rattle.grammar.proofs.Runs.{and_l, and_r, and_i, or_l, all_append}
use Rattle.grammar.proofs.Integers.{range_is, dec_make}

pub dec_is : (c : ℕ) → T (DEC_DIGIT c) → (48 ≤ c) × (c ≤ 57)
unfolding DEC_DIGIT
dec_is c t = range_is 48 57 c t

digit : (d : ℕ) → d < 10 → T (DEC_DIGIT (48 + d))
unfolding DEC_DIGIT
digit d h = and_i (leb 48 (48 + d)) (leb (48 + d) 57) (le→leb 48 (48 + d) (omega arith)) (le→leb (48 + d) 57 (omega arith))

one_digit : (d : ℕ) → d < 10 → T (all DEC_DIGIT ((48 + d) ∷ []))
one_digit d h = and_i (DEC_DIGIT (48 + d)) true (digit d h) tt

pub begins_append : (f : Class) (u v : List ℕ) → T (begins f u) → T (begins f (u ++ v))
begins_append f [] v t = absurd t
begins_append f (c ∷ u) v t = t

pub begins_any : (f : Class) (u : List ℕ) → T (begins f u) → T (any f u)
begins_any f [] t = t
begins_any f (c ∷ u) t = or_l (f c) (any f u) t

pub decimal_all : (n : ℕ) → T (all DEC_DIGIT (decimal n))
decimal_all =
    by_digits (λ n l. T (all DEC_DIGIT l)) one_digit
    (λ n h p. all_append DEC_DIGIT (decimal (n / 10)) ((48 + n % 10) ∷ []) p (one_digit (n % 10) (omega arith)))

pub decimal_begins : (n : ℕ) → T (begins DEC_DIGIT (decimal n))
decimal_begins =
    by_digits (λ n l. T (begins DEC_DIGIT l)) digit (λ n h p. begins_append DEC_DIGIT (decimal (n / 10)) ((48 + n % 10) ∷ []) p)

-- ---- any digits

pub all_more : (f g : Class) → ((c : ℕ) → T (f c) → T (g c)) → (s : List ℕ) → T (all f s) → T (all g s)
all_more f g h [] t = tt
all_more f g h (c ∷ s) t = and_i (g c) (all g s) (h c (and_l (f c) (all f s) t)) (all_more f g h s (and_r (f c) (all f s) t))

pub digits_run : (s : List ℕ) → T (all DEC_DIGIT s) → T (all Run s)
digits_run = all_more DEC_DIGIT Run (λ c t. or_l (DEC_DIGIT c) (LOW c) t)

pub digits_literal : (s : List ℕ) → T (begins DEC_DIGIT s) → T (all DEC_DIGIT s) → DEC_LITERAL s
digits_literal [] t a = absurd t
digits_literal (c ∷ s) t a = dec_make c s t (digits_run s (and_r (DEC_DIGIT c) (all DEC_DIGIT s) a))

digits_plain : (s : List ℕ) → T (all DEC_DIGIT s) → plain s ≡ s
unfolding LOW
digits_plain [] t = refl
digits_plain (c ∷ s) t =
    let d = dec_is c (and_l (DEC_DIGIT c) (all DEC_DIGIT s) t) in
    rw (ne_eqb c 95 (λ e. omega arith)) (ap (λ (u : List ℕ). c ∷ u) (digits_plain s (and_r (DEC_DIGIT c) (all DEC_DIGIT s) t)))

-- ---- their worth

number_snoc : (a : ℕ) (s : List ℕ) (c : ℕ) → number_from 10 a (s ++ (c ∷ [])) ≡ number_from 10 a s * 10 + digit_value c
number_snoc a [] c = refl
number_snoc a (x ∷ s) c = number_snoc (a * 10 + digit_value x) s c

digit_value_lem : (d : ℕ) → d < 10 → digit_value (48 + d) ≡ d
unfolding digit_value
digit_value_lem d h = simp (le-leb (48 + d) 57 (omega arith)) (omega arith)

number_from_lem : (n : ℕ) → number_from 10 0 (decimal n) ≡ n
number_from_lem =
    by_digits (λ n l. number_from 10 0 l ≡ n) (λ n h. rw (digit_value_lem n h) (omega arith))
    (λ n h p. rw (number_snoc, digit_value_lem (n % 10) (omega arith), p) (omega arith))

-- the digits of n are worth n
pub number_decimal : (n : ℕ) → number_in 10 (decimal n) ≡ n
unfolding number_in
number_decimal n = rw (digits_plain (decimal n) (decimal_all n)) (number_from_lem n)
