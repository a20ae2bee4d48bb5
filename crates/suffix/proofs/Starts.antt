-- The bytes of a suffix by comparisons: the first, and those after it.
-- Assumes nothing.
use mathlib.Core.Path.{◌≡◌}
use mathlib.Core.Bool.{true, false, not, ◌||◌, or-true, or-false}
use Prim.Native.Nat.{ℕ, ◌≤◌}
use lib.Dec.{leb, eqb}
use borrow.Author.Tests.{le-leb, not-true}
use Rattle.parse.specs.Class.{class_of, within}
use Rattle.parse.specs.Sets.{digit, suffix_rest, dec_digit}
use Rattle.parse.proofs.Classes.{both, class_above, everywhere, digit_ten}
use Rattle.suffix.specs.Suffix.{suffix_start}

pub start_above : (b : ℕ) → 128 ≤ b → suffix_start b ≡ true
unfolding suffix_start suffix_rest
start_above b h = rw (class_above b h)

pub start_is : (b : ℕ) → suffix_start b ≡ (eqb b 95 || (within 97 122 b || (within 65 90 b || leb 128 b)))
unfolding suffix_start suffix_rest class_of
start_is =
    everywhere suffix_start (λ b. eqb b 95 || (within 97 122 b || (within 65 90 b || leb 128 b))) tt
    (λ b h. rw (start_above b h, le-leb 128 b h, or-true, or-true, or-true))

pub rest_is : (b : ℕ) → suffix_rest b ≡ (suffix_start b || dec_digit b)
unfolding suffix_start suffix_rest dec_digit class_of
rest_is = everywhere suffix_rest (λ b. suffix_start b || dec_digit b) tt (λ b h. rw (class_above b h))

pub start_not_decimal : (b : ℕ) → suffix_start b ≡ true → dec_digit b ≡ false
unfolding suffix_start dec_digit
start_not_decimal b t = not-true (dec_digit b) (both (not (dec_digit b)) (suffix_rest b) t).0

-- a run of decimal digits and `_` goes into a suffix only by `_`
pub start_digit : (b : ℕ) → suffix_start b ≡ true → digit 10 b ≡ eqb b 95
start_digit b t = rw (digit_ten, start_not_decimal b t, or-false)
