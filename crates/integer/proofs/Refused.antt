-- A refusal of an integer has one of litrs's numbers and a span inside the text.
-- Assumes nothing.
use mathlib.Core.Path.{◌≡◌, refl, subst}
use mathlib.Core.Bool.{true}
use mathlib.Core.List.{List, [], ◌∷◌}
use Prim.Native.Nat.{ℕ, ◌+◌, ◌≤◌, ◌<◌}
use native.Mathlib.Omega.{arith}
use lib.Dec.{eqb}
use lib.ListN.{length, get_or, take, drop, length-drop}
use Rattle.err.specs.Outcome.{Place, Outcome, refused, accepted, RefusedIn}
use Rattle.scan.specs.Run.{run}
use Rattle.scan.specs.Sets.{only}
use Rattle.scan.proofs.Bytes.{byte_inside}
use Rattle.scan.proofs.Cases.{by_lt, cond_in, cond_eq}
use Rattle.scan.proofs.Runs.{run_le}
use Rattle.parse.specs.Sets.{digit, dec_digit, starts_e}
use Rattle.suffix.specs.Suffix.{suffix_fault}
use Rattle.parse.proofs.Classes.{dec_digit_ends}
use Rattle.parse.proofs.Numbers.{e_inside}
use Rattle.suffix.proofs.Suffixes.{fault_small}
use Rattle.integer.specs.Integer.{base_at, prefix_len, main_len, after_suffix, after_digits, integer_of, integer_at, integer_read}
use Rattle.integer.proofs.Bases.{base_short}

-- what a refusal of a text of m bytes says
abbrev RefusedWithin : ℕ → Outcome → Type 0
RefusedWithin m (refused n p) = RefusedIn m n p
RefusedWithin m (accepted k e vs) = Unit {0}

-- ---- what stands inside the text

digit_inside : (s : List ℕ) (at : ℕ) → dec_digit (get_or s at 0) ≡ true → at < length s
digit_inside s at t = let h = dec_digit_ends (get_or s at 0) t in byte_inside s at (get_or s at 0) refl (omega arith)

prefix_inside : (s : List ℕ) → prefix_len (base_at s) ≤ length s
unfolding prefix_len
prefix_inside s =
    by_lt (length s) 2 (λ l. rw (← base_short s l) (omega arith))
    (λ l. cond_in (λ (n : ℕ). n ≤ length s) (eqb (base_at s) 10) (λ e. omega arith) (λ e. omega arith))

main_inside : (s : List ℕ) → prefix_len (base_at s) + main_len s ≤ length s
unfolding main_len
main_inside s =
    let n = prefix_len (base_at s) in
    omega (arith, prefix_inside s, run_le (digit (base_at s)) (drop n s), length-drop n s)

-- ---- the tests in their order

module _ (s : List ℕ) where
  after_suffix_lem : (e : ℕ) (next : Outcome) → e ≤ length s → RefusedWithin (length s) next → RefusedWithin (length s) (after_suffix s e next)
  unfolding after_suffix
  after_suffix_lem e next h t =
      cond_eq (RefusedWithin (length s)) (suffix_fault (drop e s)) 0 (λ z. t)
      (λ z. cond_in (RefusedWithin (length s)) (dec_digit (get_or s e 0))
      (λ d. let l = digit_inside s e d in omega arith)
      (λ d. let l = fault_small (drop e s) in omega arith))

  after_digits_lem : (start n : ℕ) (next : Outcome) → start + n ≤ length s → RefusedWithin (length s) next
      → RefusedWithin (length s) (after_digits s start (start + n) n next)
  unfolding after_digits
  after_digits_lem start n next h t =
      cond_in (RefusedWithin (length s)) (starts_e s (start + n))
      (λ d. let l = e_inside s (start + n) d in omega arith)
      (λ d. cond_eq (RefusedWithin (length s)) (run (only 95) (take n (drop start s))) n (λ z. omega arith) (λ z. t))

known : (s : List ℕ) → RefusedWithin (length s) (integer_read s)
unfolding integer_read integer_at integer_of
known [] = omega arith
known (b ∷ t) =
    let s = b ∷ t in
    let n = prefix_len (base_at s) in
    let h = main_inside s in
    cond_in (RefusedWithin (length s)) (dec_digit b)
    (λ d. after_suffix_lem s (n + main_len s) _ h (after_digits_lem s n (main_len s) _ h tt))
    (λ d. omega arith)

pub refused_in : (s : List ℕ) {n : ℕ} {p : Place} → integer_read s ≡ refused n p → RefusedIn (length s) n p
refused_in s h = subst (RefusedWithin (length s)) h (known s)
