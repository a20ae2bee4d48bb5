-- What the check of a suffix comes to, and what has passed it and the two tests after it.
-- Assumes nothing.
use mathlib.Core.Path.{◌≡◌}
use mathlib.Core.Bool.{Bool, true, false, cond}
use mathlib.Core.List.{List}
use Prim.Native.Nat.{ℕ, ◌+◌, ◌<◌}
use native.Mathlib.Omega.{arith}
use borrow.Author.Tests.{ne_eqb}
use lib.Dec.{eqb}
use lib.ListN.{length, get_or, take, drop}
use Rattle.err.specs.Outcome.{Outcome, Place, Values, refused, accepted, between}
use Rattle.scan.specs.Run.{run}
use Rattle.scan.specs.Sets.{only}
use Rattle.scan.proofs.Cases.{cond_in, cond_eq}
use Rattle.parse.specs.Sets.{dec_digit, starts_e}
use Rattle.suffix.specs.Suffix.{suffix_fault}
use Rattle.integer.specs.Integer.{after_suffix, after_digits}

-- a refusal is no acceptance
pub never {ℓ} : {A : Type ℓ} {n k e : ℕ} {p : Place} {v : Values} → refused n p ≡ accepted k e v → A
never q = let z : ◌≡◌ {A = ℕ} 0 1 = cc in absurd (omega arith)

module _ (s : List ℕ) (e : ℕ) (next : Outcome) where
  pub after_good : 0 ≡ suffix_fault (drop e s) → next ≡ after_suffix s e next
  unfolding after_suffix
  after_good h = rw (← h)

  module _ (n : ℕ) (f : n ≡ suffix_fault (drop e s)) (h : 0 < n) where
    pub after_digit : dec_digit (get_or s e 0) ≡ true → refused 5 (between e (e + 1)) ≡ after_suffix s e next
    unfolding after_suffix
    after_digit d = rw (← f, ne_eqb n 0 (λ z. omega arith), d)

    pub after_fault : dec_digit (get_or s e 0) ≡ false → refused n (between e (length s)) ≡ after_suffix s e next
    unfolding after_suffix
    after_fault d = rw (← f, ne_eqb n 0 (λ z. omega arith), d)

  -- what is accepted has a good suffix, and passed what comes next
  pub suffix_passed : {k a : ℕ} {v : Values} → after_suffix s e next ≡ accepted k a v → (suffix_fault (drop e s) ≡ 0) × (next ≡ accepted k a v)
  unfolding after_suffix
  suffix_passed {k} {a} {v} =
      cond_eq P (suffix_fault (drop e s)) 0 (λ z h. (z, h)) (λ z. cond_in P (dec_digit (get_or s e 0)) (λ t h. never h) (λ t h. never h))
    where
      P : Outcome → Type 0
      P o = o ≡ accepted k a v → (suffix_fault (drop e s) ≡ 0) × (next ≡ accepted k a v)

  -- and has no e or E after its digits, and a byte other than `_` among them
  pub digits_passed : (start n : ℕ) {k a : ℕ} {v : Values} → after_digits s start e n next ≡ accepted k a v → (starts_e s e ≡ false) × ((run (only 95) (take n (drop start s)) ≡ n → ⊥) × (next ≡ accepted k a v))
  unfolding after_digits
  digits_passed start n {k} {a} {v} =
      cond_in P (starts_e s e) (λ t h. never h) (λ t. cond_eq P (run (only 95) (take n (drop start s))) n (λ z h. never h) (λ z h. (t, (z, h))))
    where
      P : Outcome → Type 0
      P o = o ≡ accepted k a v → (starts_e s e ≡ false) × ((run (only 95) (take n (drop start s)) ≡ n → ⊥) × (next ≡ accepted k a v))

-- what the check refuses stays refused, whatever would come next
pub after_refused : (s : List ℕ) (e : ℕ) (next : Outcome) (k a : ℕ) (v : Values) {n : ℕ} {p : Place} → refused n p ≡ after_suffix s e (accepted k a v) → refused n p ≡ after_suffix s e next
unfolding after_suffix
after_refused s e next k a v {n} {p} = by_test (eqb (suffix_fault (drop e s)) 0) _
  where
    by_test : (t : Bool) (o : Outcome) → refused n p ≡ cond t (accepted k a v) o → refused n p ≡ cond t next o
    by_test true o q = never q
    by_test false o q = q
