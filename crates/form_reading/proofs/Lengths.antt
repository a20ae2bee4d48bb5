-- How long the form of a reading is without its suffix, kind by kind, and where there is none.
-- Assumes nothing.
use mathlib.Core.Path.{◌≡◌, refl, ap, ◌∙◌}
use mathlib.Core.Bool.{Bool, true, false, cond}
use mathlib.Core.List.{List}
use Prim.Native.Nat.{ℕ, ◌+◌}
use native.Mathlib.Omega.{arith}
use lib.Dec.{eqb, leb}
use lib.ListN.{length, length-append}
use Rattle.std.specs.Prelude.{Option, Some, None, Result, Err, ok_or, IsSome}
use Rattle.err.specs.Numbers.{number_of}
use Rattle.err.specs.Outcome.{Place, none, refused}
use Rattle.err.specs.Reading.{place_of, refusal_of}
use Rattle.err.specs.declared.ParseError.{ParseError}
use Rattle.grammar.specs.Meaning.{Worth}
use Rattle.grammar.specs.Meaning as worth
use Rattle.form.specs.Form.{bare_form, fault_of, integer_form, reduced_form}
use Rattle.form.specs.Reduced.{reduce}
use Rattle.grammar.specs.Decimal.{Decimal}
use Rattle.integer_value.specs.Value.{number_within}
use Rattle.utf8.specs.Utf8.{Scalar, encode}
use Rattle.form_byte.specs.Styled.{styled_form, styled_forms}
use Rattle.form_byte.proofs.Styles.{char_style, byte_style}
use Rattle.form_decimal.specs.Scaled.{power_in_range}
use Rattle.form_float.specs.Floats.{Length, known, too_far, length_of}
use Rattle.form_reading.specs.Bare.{BareLength, len, bad, bare_of, bare_len}

-- a length is no refusal
pub no_len {ℓ} : {A : Type ℓ} {n m : ℕ} {p : Place} → bad m p ≡ len n → A
no_len e = let z : ◌≡◌ {A = ℕ} 0 1 = cc in absurd (omega arith)

-- ---- kinds that always have a form

pub plain_bare : (w : Worth) (x : List ℕ) → fault_of w ≡ 0 → len (length (bare_form w x)) ≡ bare_len w x
unfolding bare_len
plain_bare w x e = rw e

pub char_length : (v : ℕ) (x : List ℕ) → Scalar v → 2 + length (styled_forms true 39 (encode v)) ≡ length (bare_form (worth.char v) x)
char_length v x sc = rw (char_style 39 v sc, length-append) (omega arith)

pub byte_length : (b : ℕ) (x : List ℕ) → 3 + length (styled_form false 39 b) ≡ length (bare_form (worth.byte b) x)
byte_length b x = rw (byte_style 39 b, length-append) (omega arith)

-- ---- integers and floats, which may have none

-- the number that is at most the largest
pub same_number : (m : ℕ) {n : ℕ} → Some n ≡ number_within 18446744073709551615 m → n ≡ m
same_number m {n} = by_test (leb m 18446744073709551615)
  where
    by_test : (t : Bool) → Some n ≡ cond t (Some m) None → n ≡ m
    by_test true e = cc
    by_test false e = let z : ◌≡◌ {A = ℕ} 0 1 = cc in absurd (omega arith)

module _ (m : ℕ) (x : List ℕ) where
  -- a number that is at most the largest
  pub is_within : {n : ℕ} → Some n ≡ number_within 18446744073709551615 m → len (length (bare_form (worth.integer n) x)) ≡ bare_len (worth.integer m) x
  unfolding bare_len
  is_within {n} = by_test (leb m 18446744073709551615)
    where
      by_test : (t : Bool) → Some n ≡ cond t (Some m) None
          → len (length (integer_form n x)) ≡ cond (eqb (cond t 0 45) 0) (len (length (integer_form m x))) (bad (cond t 0 45) none)
      by_test true e = let z : n ≡ m = cc in rw z
      by_test false e = let z : ◌≡◌ {A = ℕ} 0 1 = cc in absurd (omega arith)

  -- where there is a form, it is one
  pub is_some : {o : Option ℕ} {n : ℕ} → o ≡ number_within 18446744073709551615 m → bare_len (worth.integer m) x ≡ len n → IsSome o
  unfolding bare_len
  is_some {o} {n} = by_test (leb m 18446744073709551615)
    where
      by_test : (t : Bool) → o ≡ cond t (Some m) None
          → cond (eqb (cond t 0 45) 0) (len (length (integer_form m x))) (bad (cond t 0 45) none) ≡ len n → IsSome o
      by_test true e h = rw e refl
      by_test false e h = no_len h

  -- or above it
  pub is_over : None ≡ number_within 18446744073709551615 m → bad 45 none ≡ bare_len (worth.integer m) x
  unfolding bare_len
  is_over = by_test (leb m 18446744073709551615)
    where
      by_test : (t : Bool) → None ≡ cond t (Some m) None
          → bad 45 none ≡ cond (eqb (cond t 0 45) 0) (len (length (integer_form m x))) (bad (cond t 0 45) none)
      by_test true e = let z : ◌≡◌ {A = ℕ} 0 1 = cc in absurd (omega arith)
      by_test false e = refl

-- a refusal with no span
pub refusing : (m : ℕ) (e : ParseError) → refusal_of e ≡ refused m none → bare_of (Err e) ≡ bad m none
refusing m e h = let z : number_of e.kind ≡ m = cc in let y : place_of e.span ≡ none = cc in rw (z, y) refl

pub no_value : (o : Option ℕ) (e p : ParseError) → ◌≡◌ {A = Result ℕ ParseError} (Err e) (ok_or o p) → o ≡ None → refusal_of p ≡ refused 45 none
    → bare_of (Err e) ≡ bad 45 none
no_value None e p v h f = ap bare_of v ∙ refusing 45 p f
no_value (Some n) e p v h f = cc

-- the length of a float's form, as form_float returns it
abbrev pub bare_in : Length → BareLength
bare_in (known n) = len n
bare_in too_far = bad 46 none

pub length_or : (o : Option ℕ) (e : ParseError) → refusal_of e ≡ refused 46 none → bare_of (ok_or o e) ≡ bare_in (length_of o)
length_or (Some n) e h = refl
length_or None e h = refusing 46 e h

module _ (d : Decimal) (x : List ℕ) where
  pub float_bare : bare_in (cond (power_in_range d) (known (length (reduced_form (reduce d)))) too_far) ≡ bare_len (worth.float d) x
  unfolding bare_len
  float_bare = by_test (power_in_range d)
    where
      by_test : (t : Bool) → bare_in (cond t (known (length (reduced_form (reduce d)))) too_far)
          ≡ cond (eqb (cond t 0 46) 0) (len (length (reduced_form (reduce d)))) (bad (cond t 0 46) none)
      by_test true = refl
      by_test false = refl

  -- where there is a form, the power is in range
  pub float_in_range : {n : ℕ} → bare_len (worth.float d) x ≡ len n → power_in_range d ≡ true
  unfolding bare_len
  float_in_range {n} = by_test (power_in_range d)
    where
      by_test : (t : Bool) → cond (eqb (cond t 0 46) 0) (len (length (reduced_form (reduce d)))) (bad (cond t 0 46) none) ≡ len n → t ≡ true
      by_test true e = refl
      by_test false e = no_len e
