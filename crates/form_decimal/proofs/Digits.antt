-- The digits of a mantissa: of two parts, byte by byte and by blocks; before the first significant one and after the last.
-- Assumes nothing.
use mathlib.Core.Path.{◌≡◌, refl, sym, ap, ◌∙◌}
use mathlib.Core.Bool.{Bool, true, false, cond}
use mathlib.Core.List.{List, [], ◌∷◌, ◌++◌, append-nil}
use Prim.Native.Nat.{ℕ, zero, suc, ◌+◌, ◌-◌, ◌≤◌, ◌<◌}
use native.Mathlib.Numerals.{add-one}
use native.Mathlib.Omega.{arith}
use lib.Dec.{eqb}
use lib.ListN.{length, get_or, take, drop, length-append, length-take, length-drop, take-append-drop}
use lib.Seq.{take-suc, take-add}
use borrow.Author.Tests.{ne_eqb, not-true, not-false}
use Rattle.scan.specs.Run.{All}
use Rattle.scan.proofs.Cases.{cond_in, cond_eq}
use Rattle.parse.specs.Sets.{dec_digit}
use Rattle.parse.proofs.Classes.{within_ends, within_is, dec_digit_within}
use Rattle.form_decimal.specs.Digits.{significant, insignificant, digits_of, last_end}
use Rattle.scan.specs.Part.{part}

pub significant_ends : (b : ℕ) → significant b ≡ true → (49 ≤ b) × (b ≤ 57)
unfolding significant
significant_ends b t = within_ends 49 57 b t

pub significant_within : (b : ℕ) → 49 ≤ b → b ≤ 57 → significant b ≡ true
unfolding significant
significant_within b h g = within_is 49 57 b h g

pub insignificant_is : (b : ℕ) → significant b ≡ false → insignificant b ≡ true
unfolding insignificant
insignificant_is b t = rw t

pub insignificant_not : (b : ℕ) → significant b ≡ true → insignificant b ≡ false
unfolding insignificant
insignificant_not b t = rw t

pub not_insignificant : (b : ℕ) → insignificant b ≡ true → significant b ≡ false
unfolding insignificant
not_insignificant b t = not-true (significant b) t

pub is_insignificant : (b : ℕ) → insignificant b ≡ false → significant b ≡ true
unfolding insignificant
is_insignificant b t = not-false (significant b) t

-- a significant digit is a digit
pub significant_digit : (b : ℕ) → significant b ≡ true → dec_digit b ≡ true
significant_digit b t = let e = significant_ends b t in dec_digit_within b (omega arith) (omega arith)

-- ---- the digits

pub digits_append : (s t : List ℕ) → digits_of (s ++ t) ≡ digits_of s ++ digits_of t
digits_append [] t = refl
digits_append (b ∷ s) t = by_test (dec_digit b) (digits_append s t)
  where
    by_test : (x : Bool) → digits_of (s ++ t) ≡ digits_of s ++ digits_of t
        → cond x (b ∷ digits_of (s ++ t)) (digits_of (s ++ t)) ≡ cond x (b ∷ digits_of s) (digits_of s) ++ digits_of t
    by_test true e = ap (λ (u : List ℕ). b ∷ u) e
    by_test false e = e

pub digits_short : (s : List ℕ) → length (digits_of s) ≤ length s
digits_short [] = omega arith
digits_short (b ∷ s) =
    let h = digits_short s in
    cond_in (λ (u : List ℕ). length u ≤ suc (length s)) (dec_digit b) (λ e. omega arith) (λ e. omega arith)

-- a part is no longer than the whole
pub part_short : (a e m : ℕ) (s : List ℕ) → length s ≤ m → length (part a e s) ≤ m
part_short a e m s h = omega (arith, length-take (e - a) (drop a s), length-drop a s)

-- the front has no more digits than the whole
pub digits_front : (i : ℕ) (s : List ℕ) → length (digits_of (take i s)) ≤ length (digits_of s)
digits_front i s =
    let e = ap (λ (u : List ℕ). length (digits_of u)) (take-append-drop i s) in
    omega (arith, simp (digits_append, length-append) at e)

-- where there are as many digits as bytes, they are all the bytes
pub digits_whole : (s : List ℕ) → length (digits_of s) ≡ length s → digits_of s ≡ s
digits_whole [] = λ h. refl
digits_whole (b ∷ s) = by_test (dec_digit b) (digits_short s) (digits_whole s)
  where
    by_test : (x : Bool) → length (digits_of s) ≤ length s → (length (digits_of s) ≡ length s → digits_of s ≡ s)
        → length (cond x (b ∷ digits_of s) (digits_of s)) ≡ suc (length s) → cond x (b ∷ digits_of s) (digits_of s) ≡ b ∷ s
    by_test true g f h = ap (λ (u : List ℕ). b ∷ u) (f (omega arith))
    by_test false g f h = absurd (omega arith)

-- a loop that stands at i: one byte more of the front
module _ (s : List ℕ) (i : ℕ) (h : i < length s) where
  pub digits_more : length (digits_of (take (i + 1) s)) ≡ length (digits_of (take i s)) + cond (dec_digit (get_or s i 0)) 1 0
  digits_more = rw (add-one, take-suc s i 0 h, digits_append, length-append) (by_test (dec_digit (get_or s i 0)))
    where
      by_test : (x : Bool) → let n = length (digits_of (take i s)) in n + length (cond x (get_or s i 0 ∷ []) []) ≡ n + cond x 1 0
      by_test true = refl
      by_test false = refl

  pub digits_one : dec_digit (get_or s i 0) ≡ true → digits_of (take (i + 1) s) ≡ digits_of (take i s) ++ (get_or s i 0 ∷ [])
  digits_one t = rw (add-one, take-suc s i 0 h, digits_append, t)

  pub digits_pass : dec_digit (get_or s i 0) ≡ false → digits_of (take (i + 1) s) ≡ digits_of (take i s)
  digits_pass t = rw (add-one, take-suc s i 0 h, digits_append, t) (append-nil _)

-- a part more
pub digits_to : (i e : ℕ) (s : List ℕ) → i ≤ e → digits_of (take e s) ≡ digits_of (take i s) ++ digits_of (part i e s)
digits_to i e s h =
    let q : i + (e - i) ≡ e = omega arith in
    ap (λ (n : ℕ). digits_of (take n s)) (sym q) ∙ rw take-add (digits_append (take i s) (part i e s))

-- and a count of the front goes on by that of the part
pub count_to : (i e : ℕ) (s : List ℕ) (n m : ℕ) → i ≤ e → n ≡ length (digits_of (take i s)) → m ≡ length (digits_of (part i e s))
    → (n + m ≡ length (digits_of (take e s))) × (n + m ≤ e)
count_to i e s n m h p q =
    let is : n + m ≡ length (digits_of (take e s)) = omega (arith, simp length-append at (ap length (digits_to i e s h))) in
    (is, omega (arith, digits_short (take e s), length-take e s))

-- ---- the last significant digit

-- a part with none at the end changes nothing
pub last_insignificant : (s t : List ℕ) → last_end t ≡ 0 → last_end (s ++ t) ≡ last_end s
last_insignificant [] t e = e
last_insignificant (b ∷ s) t e = rw (last_insignificant s t e)

-- a part with one has the last
pub last_append : (s t : List ℕ) → 0 < last_end t → last_end (s ++ t) ≡ length s + last_end t
last_append [] t h = omega arith
last_append (b ∷ s) t h =
    let e = last_append s t h in
    rw (e, ne_eqb (length s + last_end t) 0 (λ z. omega arith)) (omega arith)

-- by the last byte that is significant, or none
none_last : (s : List ℕ) → ((k : ℕ) → k < length s → significant (get_or s k 0) ≡ false) → last_end s ≡ 0
none_last [] h = refl
none_last (b ∷ s) h = rw (none_last s (λ k g. h (suc k) (omega arith)), h 0 (omega arith))

pub found_none : (s : List ℕ) → ((k : ℕ) → k < length s → significant (get_or s k 0) ≡ false) → 0 ≡ last_end s
found_none s h = sym (none_last s h)

last_at : (s : List ℕ) (i : ℕ) → i < length s → significant (get_or s i 0) ≡ true
    → ((k : ℕ) → i + 1 ≤ k → k < length s → significant (get_or s k 0) ≡ false) → last_end s ≡ i + 1
last_at [] i l t h = absurd (omega arith)
last_at (b ∷ s) zero l t h = rw (none_last s (λ k g. h (suc k) (omega arith) (omega arith)), t)
last_at (b ∷ s) (suc i) l t h =
    let e = last_at s i (omega arith) t (λ k g f. h (suc k) (omega arith) (omega arith)) in
    rw (e, ne_eqb (i + 1) 0 (λ z. omega arith)) (omega arith)

pub found_last : (s : List ℕ) (i : ℕ) → i < length s → significant (get_or s i 0) ≡ true
    → ((k : ℕ) → i + 1 ≤ k → k < length s → significant (get_or s k 0) ≡ false) → i + 1 ≡ last_end s
found_last s i l t h = sym (last_at s i l t h)

pub last_le : (s : List ℕ) → last_end s ≤ length s
last_le [] = omega arith
last_le (b ∷ s) =
    let h = last_le s in
    cond_in (λ (n : ℕ). n ≤ suc (length s)) (eqb (last_end s) 0)
    (λ e. cond_in (λ (n : ℕ). n ≤ suc (length s)) (significant b) (λ e. omega arith) (λ e. omega arith)) (λ e. omega arith)

-- none is significant after it
pub last_after : (s : List ℕ) → All insignificant (drop (last_end s) s)
last_after [] = tt
last_after (b ∷ s) =
    cond_eq (λ (n : ℕ). All insignificant (drop n (b ∷ s))) (last_end s) 0
    (λ e.
    let rest : All insignificant s = rw e at (last_after s) in
    cond_in (λ (n : ℕ). All insignificant (drop n (b ∷ s))) (significant b) (λ t. rest) (λ t. (insignificant_is b t, rest)))
    (λ e. last_after s)
