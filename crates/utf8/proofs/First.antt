-- What the count of leading ones of a byte says of a character's length: one test over the 256 bytes.
-- Assumes nothing.
use mathlib.Core.Path.{◌≡◌, sym, ap, ◌∙◌}
use mathlib.Core.Bool.{Bool, cond}
use Prim.Native.Nat.{ℕ, ◌≤◌, ◌<◌}
use native.Mathlib.Omega.{arith}
use borrow.Author.Tests.{ne_eqb, lt-ltb, le-ltb}
use lib.Dec.{ltb, eqb, eqb→eq}
use lib.Count.{count_leading_zeros}
use Rattle.std.specs.Int.{w8}
use Rattle.std.specs.Int as int
use Rattle.scan.proofs.Below.{below}
use Rattle.utf8.specs.Decode.{leading_ones, length_from}

-- the length by the count of leading ones
abbrev pub from_ones : ℕ → ℕ
from_ones n = cond (eqb n 0) 1 (cond (eqb n 1) 0 (cond (ltb 4 n) 0 n))

agree : ℕ → Bool
unfolding leading_ones length_from count_leading_zeros
agree b = eqb (from_ones (leading_ones b)) (length_from b)

pub from_ones_lem : (b : ℕ) → b < 256 → from_ones (leading_ones b) ≡ length_from b
unfolding agree
from_ones_lem b h = eqb→eq (from_ones (leading_ones b)) (length_from b) (below agree 256 tt b h)

-- ---- the same, of std's count

module _ (b n : ℕ) (h : b < 256) (e : n ≡ int.leading_ones w8 b) where
  by_ones : from_ones n ≡ length_from b
  unfolding leading_ones
  by_ones = ap from_ones e ∙ from_ones_lem b h

  pub length_one : n ≡ 0 → 1 ≡ length_from b
  length_one z = ap from_ones (sym z) ∙ by_ones

  pub length_some : 2 ≤ n → n ≤ 4 → n ≡ length_from b
  length_some lo hi = sym (simp (ne_eqb n 0 (omega arith), ne_eqb n 1 (omega arith), le-ltb 4 n hi)) ∙ by_ones

  pub length_none : (n ≡ 0 → ⊥) → n < 2 → 0 ≡ length_from b
  length_none z lo = let one : n ≡ 1 = omega arith in ap from_ones (sym one) ∙ by_ones

  pub length_above : 4 < n → 0 ≡ length_from b
  length_above hi = sym (simp (ne_eqb n 0 (omega arith), ne_eqb n 1 (omega arith), lt-ltb 4 n hi)) ∙ by_ones
