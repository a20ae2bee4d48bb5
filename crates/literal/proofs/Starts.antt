-- By which byte each kind starts, and that of the number kinds only a float starts as one.
-- Assumes nothing.
use mathlib.Core.Path.{◌≡◌, refl, ◌∙◌}
use mathlib.Core.Bool.{true, false, ◌||◌, or-true}
use mathlib.Core.List.{List, [], ◌∷◌, ◌++◌}
use Prim.Native.Nat.{ℕ}
use native.Mathlib.Nat.{add-zero}
use borrow.Author.Tests.{ne_eqb}
use lib.Dec.{eqb}
use lib.ListN.{length, get_or}
use lib.Seq.{get_or-append-add}
use Rattle.scan.specs.Run.{All, Stops}
use Rattle.scan.proofs.Cases.{clash}
use Rattle.scan.proofs.Runs.{run_is}
use Rattle.parse.specs.Class.{class_of}
use Rattle.parse.specs.Sets.{digit, suffix_rest, starts_e}
use Rattle.suffix.specs.Suffix.{suffix_start}
use Rattle.integer.specs.Parts.{Prefixed, dec, bin, oct, hex, IntegerParts}
use Rattle.integer.proofs.OtherDigits.{suffix_start_lem}
use Rattle.float.specs.Parts.{Fraction, no_fraction, fraction, Exponent, no_exponent, exponent, FloatParts}
use Rattle.float.proofs.Complete.{whole_longest}
use Rattle.dispatch.specs.Entries.{starts_float}

-- ---- numbers: by what stands after the digits

after_digits_lem : (d r : List ℕ) → All (digit 10) d → Stops (digit 10) r → starts_float (d ++ r) ≡ (eqb (get_or r 0 0) 46 || starts_e r 0)
unfolding starts_float starts_e
after_digits_lem d r h l =
    let q : get_or (d ++ r) (length d) 0 ≡ get_or r 0 0 = rw add-zero at (get_or-append-add d r 0 0) in
    rw (run_is (digit 10) d r h l, q)

no_period : (b : ℕ) → suffix_start b ≡ true → b ≡ 46 → ⊥
unfolding suffix_start suffix_rest class_of
no_period b t e = clash (rw e at t) refl

decimal_start : (main suf : List ℕ) → IntegerParts 10 [] main suf → starts_float (main ++ suf) ≡ false
unfolding starts_e
decimal_start main [] p = after_digits_lem main [] p.digits p.longest
decimal_start main (b ∷ suf) p = after_digits_lem main (b ∷ suf) p.digits p.longest ∙ rw (ne_eqb b 46 (no_period b (suffix_start_lem p).0)) p.no_e

by_prefix : {base : ℕ} {pre main suf : List ℕ} → Prefixed base pre → IntegerParts base pre main suf → starts_float (pre ++ (main ++ suf)) ≡ false
unfolding starts_float starts_e digit class_of
by_prefix {main = main} {suf} dec p = decimal_start main suf p
by_prefix bin p = refl
by_prefix oct p = refl
by_prefix hex p = refl

-- an integer does not start as a float
pub integer_start : {base : ℕ} {pre main suf : List ℕ} → IntegerParts base pre main suf → starts_float (pre ++ (main ++ suf)) ≡ false
integer_start p = by_prefix p.prefix p

e_start : (ex suf : List ℕ) → Exponent ex → (ex ≡ [] → ⊥) → starts_e (ex ++ suf) 0 ≡ true
unfolding starts_e
e_start ex suf (no_exponent e) n = absurd (n e)
e_start ex suf (exponent letter sign ds e t g d m) n = rw e (rw e at t)

-- a float does
pub float_start : {whole frac ex suf : List ℕ} → FloatParts whole frac ex suf → starts_float (whole ++ (frac ++ (ex ++ suf))) ≡ true
float_start {whole} {frac} {ex} {suf} p = after_digits_lem whole (frac ++ (ex ++ suf)) p.digits (whole_longest p) ∙ by_fraction p.fraction
  where
    by_fraction : Fraction frac → (eqb (get_or (frac ++ (ex ++ suf)) 0 0) 46 || starts_e (frac ++ (ex ++ suf)) 0) ≡ true
    by_fraction (no_fraction e) = rw (e, e_start ex suf p.exponent (p.some e), or-true)
    by_fraction (fraction ds e d n) = rw e
