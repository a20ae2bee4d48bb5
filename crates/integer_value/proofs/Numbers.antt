-- The number that digits write: byte by byte, of two parts, of plain decimal digits, and as it grows.
-- Assumes nothing.
use mathlib.Core.Path.{◌≡◌, refl, sym, ◌∙◌}
use mathlib.Core.Bool.{Bool, true, false, cond}
use mathlib.Core.List.{List, [], ◌∷◌, ◌++◌, foldl}
use Prim.Native.Nat.{ℕ, ◌+◌, ◌*◌, ◌-◌, ◌/◌, ◌≤◌, ◌<◌}
use native.Mathlib.Nat.{div-lt_iff_lt-mul, le-div_iff_mul-le, le-mul_of_pos_right}
use native.Mathlib.Numerals.{add-one}
use native.Mathlib.Omega.{arith}
use borrow.Author.Tests.{ltb-true, le-leb, lt-leb, eq-eqb, ne_eqb}
use lib.Dec.{eqb, leb}
use lib.ListN.{length, get_or, drop, drop_of_length-le}
use lib.Seq.{drop-cons}
use Rattle.scan.specs.Run.{All}
use Rattle.scan.proofs.Cases.{cond_in, by_lt}
use Rattle.parse.specs.Class.{class_of}
use Rattle.parse.specs.Sets.{dec_digit}
use Rattle.parse.proofs.Classes.{class_decimal, dec_digit_ends}
use Rattle.std.specs.Prelude.{Some, None}
use Rattle.integer_value.specs.Value.{number_from, number, number_within}

-- ---- byte by byte

module _ (base n : ℕ) (s : List ℕ) (i : ℕ) (h : i < length s) where
  pub number_passed : get_or s i 0 ≡ 95 → number_from base n (drop i s) ≡ number_from base n (drop (i + 1) s)
  number_passed e = rw (drop-cons s i 0, eq-eqb _ _ e, add-one)

  pub number_more : (get_or s i 0 ≡ 95 → ⊥) → number_from base n (drop i s) ≡ number_from base (n * base + class_of (get_or s i 0)) (drop (i + 1) s)
  number_more e = rw (drop-cons s i 0, ne_eqb _ _ e, add-one)

pub number_end : (base n : ℕ) (s : List ℕ) (i : ℕ) → length s ≤ i → number_from base n (drop i s) ≡ n
number_end base n s i h = rw (drop_of_length-le s h)

-- ---- it never falls, so what is above the largest stays above

pub number_grows : (base n : ℕ) (s : List ℕ) → 0 < base → n ≤ number_from base n s
number_grows base n [] h = omega arith
number_grows base n (b ∷ s) h =
    cond_in (λ (m : ℕ). n ≤ m) (eqb b 95) (λ e. number_grows base n s h)
    (λ e. omega (arith, number_grows base (n * base + class_of b) s h, le-mul_of_pos_right n h))

-- a digit that takes it above the largest takes the whole above
pub number_above : (base n largest : ℕ) (s : List ℕ) (i : ℕ) → 0 < base → i < length s → (get_or s i 0 ≡ 95 → ⊥) → largest < n * base + class_of (get_or s i 0) → largest < number_from base n (drop i s)
number_above base n largest s i p h e l =
    omega (arith, number_more base n s i h e, number_grows base (n * base + class_of (get_or s i 0)) (drop (i + 1) s) p)

pub within_given : (largest n m : ℕ) → n ≡ m → n ≤ largest → Some n ≡ number_within largest m
within_given largest n m e h = rw (← e, le-leb n largest h)

pub within_over : (largest m : ℕ) → largest < m → None ≡ number_within largest m
within_over largest m h = rw (lt-leb m largest h)

-- ---- with one digit more: far below the largest, above it, and near

module _ (n d by largest : ℕ) (p : 2 ≤ by) where
  some : 0 < by
  some = omega arith

  pub past_within : largest / by < n → false ≡ leb (n * by + d) largest
  past_within h = sym (lt-leb (n * by + d) largest (omega (arith, (div-lt_iff_lt-mul some).0 h)))

  pub small_product : n ≤ largest / by → n * by ≤ largest
  small_product h = (le-div_iff_mul-le some).0 h

  pub small_within : n * by ≤ largest → leb d (largest - n * by) ≡ leb (n * by + d) largest
  small_within h =
      by_lt largest (n * by + d)
      (λ g. lt-leb d (largest - n * by) (omega arith) ∙ sym (lt-leb (n * by + d) largest g))
      (λ g. le-leb d (largest - n * by) (omega arith) ∙ sym (le-leb (n * by + d) largest g))

-- ---- of two parts

pub number_append : (base n : ℕ) (a b : List ℕ) → number_from base n (a ++ b) ≡ number_from base (number_from base n a) b
number_append base n [] b = refl
number_append base n (x ∷ a) b = by_test (eqb x 95) (number_append base n a b) (number_append base (n * base + class_of x) a b)
  where
    m : ℕ
    m = n * base + class_of x

    by_test : (t : Bool) → number_from base n (a ++ b) ≡ number_from base (number_from base n a) b → number_from base m (a ++ b) ≡ number_from base (number_from base m a) b
        → cond t (number_from base n (a ++ b)) (number_from base m (a ++ b)) ≡ number_from base (cond t (number_from base n a) (number_from base m a)) b
    by_test true p q = p
    by_test false p q = q

-- ---- of plain decimal digits

fold_decimal : (n : ℕ) (d : List ℕ) → All dec_digit d → number_from 10 n d ≡ foldl (λ n b. n * 10 + (b - 48)) n d
unfolding dec_digit
fold_decimal n [] h = refl
fold_decimal n (b ∷ d) h =
    let l = dec_digit_ends b h.0 in
    rw (ne_eqb b 95 (omega arith), class_decimal b (ltb-true (class_of b) 10 h.0)) (fold_decimal (n * 10 + (b - 48)) d h.1)

pub number_decimal : (d : List ℕ) → All dec_digit d → number 10 d ≡ foldl (λ n b. n * 10 + (b - 48)) 0 d
unfolding number
number_decimal d h = fold_decimal 0 d h
