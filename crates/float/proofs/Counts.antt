-- How many digits the parts of a float have: period, `e` and sign are no digits.
-- Assumes nothing.
use mathlib.Core.Path.{◌≡◌, refl, ap, sym, ◌∙◌}
use mathlib.Core.Bool.{true, false, ◌||◌}
use mathlib.Core.Logic.{⊎_elim}
use mathlib.Core.List.{List}
use Prim.Native.Nat.{ℕ, ◌+◌, ◌-◌, ◌≤◌, ◌<◌}
use native.Mathlib.Nat.{add-sub_cancel_left}
use native.Mathlib.Omega.{arith}
use lib.Dec.{eqb}
use lib.ListN.{length, get_or, take, drop, length-take, length-drop}
use borrow.Author.Tests.{eqb-true, eq-eqb, ne_eqb}
use Rattle.err.specs.Outcome.{Outcome, ends}
use Rattle.err.specs.Counts.{Counts, float_counts, kept_counts}
use Rattle.scan.specs.Run.{All}
use Rattle.scan.specs.Part.{part}
use Rattle.scan.proofs.Cases.{cond_in}
use Rattle.scan.proofs.Parts.{part_to_end}
use Rattle.scan.proofs.Runs.{run_all}
use Rattle.scan.proofs.Counts.{count_parts, count_none, count_one}
use Rattle.parse.specs.Class.{class_of}
use Rattle.parse.specs.Sets.{digit, starts_e}
use Rattle.parse.specs.Digits.{is_digit, digit_count, DigitScan}
use Rattle.parse.specs.declared.DigitRun.{DigitRun}
use Rattle.parse.proofs.Classes.{either}
use Rattle.parse.proofs.Digits.{no_digits, some_digits}
use Rattle.parse.proofs.Numbers.{e_inside}
use Rattle.digits.specs.Counts.{part_counts, digit_counts}
use Rattle.suffix.specs.Suffix.{suffix_fault}
use Rattle.float.specs.Float.{digits_end, not_integer, after_number, sign_end, no_digit, exponent_end}
use Rattle.float.specs.Counts.{PartScan}
use Rattle.float.proofs.Inside.{digits_found}
use Rattle.float.proofs.Ends.{sign_after}

-- a part whose digits start at b, after bytes that are no digits
pub part_scanned : (s : List ℕ) (a b : ℕ) (r : DigitRun) → a ≤ b → b ≤ length s → digit_count 10 (part a b s) ≡ 0 → DigitScan 10 (take (length s - b) (drop b s)) r
    → PartScan a (digits_end s b) s (record { end = b + r.end; digits = r.digits })
unfolding digit_count
part_scanned s a b r h g z d =
    let found = digits_found s b r.end g d.end in
    let count : r.digits ≡ digit_count 10 (part b (digits_end s b) s) = d.count ∙ rw (part_to_end, add-sub_cancel_left) in
    record {
      end = found.0;
      inside = found.1;
      count = omega (arith, count, z, count_parts (is_digit 10) s a b (digits_end s b) h (omega arith));
    }

-- a part that is not there
pub part_missing : (s : List ℕ) (a : ℕ) → a ≤ length s → PartScan a a s (record { end = a; digits = 0 })
unfolding digit_count
part_missing s a h = record { end = refl; inside = h; count = sym (count_none (is_digit 10) s a) }

-- ---- bytes that are no digits

-- one such byte; 46 is `.`
other : (s : List ℕ) (a x : ℕ) → a < length s → get_or s a 0 ≡ x → is_digit 10 x ≡ false → digit_count 10 (part a (a + 1) s) ≡ 0
unfolding digit_count
other s a x h e n = count_one (is_digit 10) s a h ∙ rw (e, n)

pub period : (s : List ℕ) (i : ℕ) → i < length s → get_or s i 0 ≡ 46 → digit_count 10 (part i (i + 1) s) ≡ 0
unfolding is_digit class_of
period s i h e = other s i 46 h e refl

-- 101 is `e`, 69 is `E`
letter : (s : List ℕ) (f : ℕ) → starts_e s f ≡ true → digit_count 10 (part f (f + 1) s) ≡ 0
unfolding is_digit class_of starts_e
letter s f t =
    ⊎_elim (λ e. other s f 101 (e_inside s f t) (eqb-true _ _ e) refl) (λ e. other s f 69 (e_inside s f t) (eqb-true _ _ e) refl)
    (either (eqb (get_or s f 0) 101) (eqb (get_or s f 0) 69) t)

-- 45 is `-`, 43 is `+`
sign : (s : List ℕ) (a : ℕ) → a < length s → (eqb (get_or s a 0) 45 || eqb (get_or s a 0) 43) ≡ true → digit_count 10 (part a (a + 1) s) ≡ 0
unfolding is_digit class_of
sign s a h t =
    ⊎_elim (λ e. other s a 45 h (eqb-true _ _ e) refl) (λ e. other s a 43 h (eqb-true _ _ e) refl)
    (either (eqb (get_or s a 0) 45) (eqb (get_or s a 0) 43) t)

pub before_exponent : (s : List ℕ) (f : ℕ) → starts_e s f ≡ true → sign_end s f ≤ length s → digit_count 10 (part f (sign_end s f) s) ≡ 0
unfolding sign_end digit_count
before_exponent s f t =
    cond_in (λ (n : ℕ). n ≤ length s → digit_count 10 (part f n s) ≡ 0) (eqb (get_or s (f + 1) 0) 45 || eqb (get_or s (f + 1) 0) 43)
    (λ q l. omega (arith, letter s f t, sign s (f + 1) (omega arith) q, count_parts (is_digit 10) s f (f + 1) (f + 1 + 1) (omega arith) (omega arith)))
    (λ q l. letter s f t)

-- ---- litrs's test of an exponent for `_` alone, by the count

-- an exponent that ends after its start has an `e`, and ends after its digits
there : (s : List ℕ) (f : ℕ) → f < exponent_end s f → (starts_e s f ≡ true) × (exponent_end s f ≡ digits_end s (sign_end s f))
unfolding exponent_end
there s f = cond_in (λ (n : ℕ). f < n → (starts_e s f ≡ true) × (n ≡ digits_end s (sign_end s f))) (starts_e s f) (λ t h. (t, refl)) (λ t h. absurd (omega arith))

module _ (s : List ℕ) (f : ℕ) (r : DigitRun) (h : PartScan f (exponent_end s f) s r) (l : f < r.end) where
  abbrev from : ℕ
  from = sign_end s f

  abbrev ds : List ℕ
  ds = part from (digits_end s from) s

  found : (starts_e s f ≡ true) × (exponent_end s f ≡ digits_end s from)
  found = there s f (rw (← h.end) l)

  inside : digits_end s from ≤ length s
  inside = omega (arith, h.inside, h.end, found.1)

  digits_only : All (digit 10) ds
  digits_only = rw add-sub_cancel_left (run_all (digit 10) (drop from s))

  ends_at : r.end ≡ digits_end s from
  ends_at = h.end ∙ found.1

  as_long : length ds ≡ digits_end s from - from
  as_long = omega (arith, length-take (digits_end s from - from) (drop from s), length-drop from s, inside)

  all_counted : r.digits ≡ digit_count 10 ds
  unfolding digit_count
  all_counted =
      omega (arith, rw found.1 at h.count, before_exponent s f found.0 (omega (arith, inside)), count_parts (is_digit 10) s f from (digits_end s from) (omega (arith, sign_after s f)) (omega arith))

  pub lone : r.digits ≡ 0 → no_digit s from r.end ≡ true
  unfolding no_digit
  lone z = rw ends_at (eq-eqb _ _ (no_digits 10 ds (omega arith) digits_only (sym all_counted ∙ z) ∙ as_long))

  pub some : (r.digits ≡ 0 → ⊥) → no_digit s from r.end ≡ false
  unfolding no_digit
  some z = rw ends_at (ne_eqb _ _ (λ e. z (all_counted ∙ some_digits 10 ds (omega arith) digits_only (e ∙ sym as_long))))

-- ---- the literal

-- the counts of the three parts
pub three_counts : (s : List ℕ) (w f x : DigitRun) {to end : ℕ} → PartScan 0 w.end s w → PartScan w.end to s f → PartScan f.end end s x
    → float_counts (record { whole = w.digits; fraction = f.digits; exponent = x.digits }) ≡ part_counts s (ends (record { whole = w.end; fraction = f.end; end = x.end }))
three_counts s w f x {to} {end} h g k =
    let fraction : f.digits ≡ digit_count 10 (part w.end f.end s) = g.count ∙ ap (λ (n : ℕ). digit_count 10 (part w.end n s)) (sym g.end) in
    let exponent : x.digits ≡ digit_count 10 (part f.end x.end s) = k.count ∙ ap (λ (n : ℕ). digit_count 10 (part f.end n s)) (sym k.end) in
    let whole : w.digits ≡ digit_count 10 (part 0 w.end s) = h.count in
    cc

-- are those of the reading
pub number_counts : (s : List ℕ) (i f e : ℕ) (c : Counts) (o : Outcome) → o ≡ after_number s i f e → c ≡ part_counts s (ends (record { whole = i; fraction = f; end = e }))
    → kept_counts c o ≡ digit_counts s o
unfolding after_number not_integer
number_counts s i f e c o h g =
    rw h
    (cond_in P (eqb (suffix_fault (drop e s)) 0) (λ t. cond_in P (eqb i e) (λ u. refl) (λ u. g)) (λ t. refl))
  where
    P : Outcome → Type 0
    P o = kept_counts c o ≡ digit_counts s o
