-- A refusal of a float has one of litrs's numbers and a span inside the text.
-- Assumes nothing.
use mathlib.Core.Path.{◌≡◌, subst}
use mathlib.Core.Bool.{◌&&◌, ◌||◌, true}
use mathlib.Core.Logic.{⊎_elim}
use mathlib.Core.List.{List, [], ◌∷◌}
use Prim.Native.Nat.{ℕ, ◌+◌, ◌≤◌}
use native.Mathlib.Omega.{arith}
use borrow.Author.Tests.{eqb-true, ltb-true}
use lib.Dec.{eqb, ltb}
use lib.ListN.{length, get_or, drop}
use Rattle.err.specs.Outcome.{Place, Outcome, refused, accepted, RefusedIn}
use Rattle.scan.specs.Run.{run}
use Rattle.scan.proofs.Bytes.{byte_inside}
use Rattle.scan.proofs.Cases.{cond_in, cond_eq}
use Rattle.scan.proofs.Runs.{run_le}
use Rattle.parse.specs.Sets.{digit, dec_digit, starts_e}
use Rattle.suffix.specs.Suffix.{suffix_fault}
use Rattle.parse.proofs.Classes.{both, either}
use Rattle.parse.proofs.Numbers.{e_inside}
use Rattle.suffix.proofs.Suffixes.{fault_small}
use Rattle.float.specs.Float.{digits_end, not_integer, after_number, sign_end, no_digit, after_fraction, bad_fraction, after_integer, float_read}
use Rattle.float.proofs.Inside.{digits_inside}
use Rattle.float.proofs.Ends.{sign_after}

-- what a refusal of a text of m bytes says
abbrev RefusedWithin : ℕ → Outcome → Type 0
RefusedWithin m (refused n p) = RefusedIn m n p
RefusedWithin m (accepted k e vs) = Unit {0}

module _ (s : List ℕ) where
  number : (i f e : ℕ) → e ≤ length s → RefusedWithin (length s) (after_number s i f e)
  unfolding after_number not_integer
  number i f e h =
      cond_eq (RefusedWithin (length s)) (suffix_fault (drop e s)) 0
      (λ z. cond_eq (RefusedWithin (length s)) i e (λ y. omega arith) (λ y. tt))
      (λ z. let l = fault_small (drop e s) in omega arith)

  -- a sign stands inside the text, after an `e` that does
  sign_inside : (f : ℕ) → starts_e s f ≡ true → sign_end s f ≤ length s
  unfolding sign_end
  sign_inside f t =
      let l = e_inside s f t in
      let b = get_or s (f + 1) 0 in
      cond_in (λ (n : ℕ). n ≤ length s) (eqb b 45 || eqb b 43)
      (λ e.
      let g = ⊎_elim (λ y. byte_inside s (f + 1) 45 (eqb-true b 45 y) (omega arith)) (λ y. byte_inside s (f + 1) 43 (eqb-true b 43 y) (omega arith))
      (either (eqb b 45) (eqb b 43) e) in
      omega arith)
      (λ e. omega arith)

  after_fraction_lem : (i f : ℕ) → f ≤ length s → RefusedWithin (length s) (after_fraction s i f)
  unfolding after_fraction
  after_fraction_lem i f h =
      cond_in (RefusedWithin (length s)) (starts_e s f)
      (λ t.
      let d = digits_inside s (sign_end s f) (sign_inside f t) in
      cond_in (RefusedWithin (length s)) (no_digit s (sign_end s f) (digits_end s (sign_end s f))) (λ y. omega (arith, sign_after s f))
      (λ y. number i f (digits_end s (sign_end s f)) d))
      (λ t. number i f f h)

  -- what may not follow a period stands inside the text
  bad_inside : (at end : ℕ) → bad_fraction s at end ≡ true → at + 1 ≤ length s
  unfolding bad_fraction
  bad_inside at end t =
      ⊎_elim (λ e. let l = byte_inside s at 95 (eqb-true _ _ e) (omega arith) in omega arith)
      (λ e. let l = ltb-true at (length s) (both (eqb end at) (ltb at (length s)) e).1 in omega arith)
      (either (eqb (get_or s at 0) 95) (eqb end at && ltb at (length s)) t)

  after_integer_lem : (i : ℕ) → i ≤ length s → RefusedWithin (length s) (after_integer s i)
  unfolding after_integer
  after_integer_lem i h =
      cond_eq (RefusedWithin (length s)) (get_or s i 0) 46
      (λ e.
      let l = byte_inside s i 46 e (omega arith) in
      cond_in (RefusedWithin (length s)) (bad_fraction s (i + 1) (digits_end s (i + 1)))
      (λ t. let g = bad_inside (i + 1) (digits_end s (i + 1)) t in omega arith)
      (λ t. after_fraction_lem i (digits_end s (i + 1)) (digits_inside s (i + 1) (omega arith))))
      (λ e. after_fraction_lem i i h)

known : (s : List ℕ) → RefusedWithin (length s) (float_read s)
unfolding float_read
known [] = omega arith
known (b ∷ t) =
    let s = b ∷ t in
    cond_in (RefusedWithin (length s)) (dec_digit b) (λ d. after_integer_lem s (run (digit 10) s) (run_le (digit 10) s))
    (λ d. omega arith)

pub refused_in : (s : List ℕ) {n : ℕ} {p : Place} → float_read s ≡ refused n p → RefusedIn (length s) n p
refused_in s h = subst (RefusedWithin (length s)) h (known s)
