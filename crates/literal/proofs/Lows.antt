-- The bytes of a number before its suffix are ASCII, and after ASCII bytes at the front of a text is a character boundary.
-- Assumes nothing.
use mathlib.Core.Path.{◌≡◌, refl, sym, subst}
use mathlib.Core.Bool.{Bool, true}
use mathlib.Core.Logic.{⊎_elim}
use mathlib.Core.List.{List, [], ◌∷◌, ◌++◌}
use Prim.Native.Nat.{ℕ, ◌≤◌}
use native.Mathlib.Omega.{arith}
use borrow.Author.Tests.{eqb-true, ltb-true, lt-ltb}
use lib.Dec.{eqb, ltb}
use lib.ListN.{length}
use Rattle.scan.specs.Run.{All}
use Rattle.scan.proofs.Cases.{by_lt}
use Rattle.scan.proofs.Runs.{all_append}
use Rattle.parse.specs.Sets.{digit, starts_e}
use Rattle.parse.proofs.Classes.{either, digit_cases, class_above}
use Rattle.utf8.specs.Utf8.{Utf8, Boundary}
use Rattle.utf8.proofs.Text.{utf8_nil, utf8_ascii, utf8_suffix}
use Rattle.integer.specs.Parts.{Prefixed, dec, bin, oct, hex}
use Rattle.float.specs.Parts.{Fraction, no_fraction, fraction, Sign, unsigned, plus, minus, Exponent, no_exponent, exponent}

abbrev pub low : ℕ → Bool
low b = ltb b 128

low_utf8 : (p : List ℕ) → All low p → Utf8 p
low_utf8 [] a = utf8_nil
low_utf8 (b ∷ p) a = utf8_ascii b p (ltb-true b 128 a.0) (low_utf8 p a.1)

pub low_boundary : (s p q : List ℕ) {n : ℕ} → Utf8 s → s ≡ p ++ q → All low p → length p ≡ n → Boundary s n
low_boundary s p q u e a l = let v = low_utf8 p a in (p, q, v, utf8_suffix p q v (subst (λ (t : List ℕ). Utf8 t) e u), sym e, l)

-- ---- the parts of a number

low_digit : (base b : ℕ) → base ≤ 20 → digit base b ≡ true → low b ≡ true
low_digit base b h t =
    lt-ltb b 128
    (by_lt b 128 (λ l. l) (λ l. absurd (⊎_elim (λ e. omega arith) (λ e. omega (arith, class_above b l)) (digit_cases base b t))))

low_all : (base : ℕ) (d : List ℕ) → base ≤ 20 → All (digit base) d → All low d
low_all base [] h a = tt
low_all base (b ∷ d) h a = (low_digit base b h a.0, low_all base d h a.1)

pub low_digits : {base : ℕ} {pre : List ℕ} → Prefixed base pre → (d : List ℕ) → All (digit base) d → All low d
low_digits dec d = low_all 10 d (omega arith)
low_digits bin d = low_all 2 d (omega arith)
low_digits oct d = low_all 8 d (omega arith)
low_digits hex d = low_all 16 d (omega arith)

pub low_prefix : {base : ℕ} {pre : List ℕ} → Prefixed base pre → All low pre
low_prefix dec = tt
low_prefix bin = (refl, (refl, tt))
low_prefix oct = (refl, (refl, tt))
low_prefix hex = (refl, (refl, tt))

pub low_fraction : (frac : List ℕ) → Fraction frac → All low frac
low_fraction frac (no_fraction e) = rw e tt
low_fraction frac (fraction ds e d n) = rw e (refl, low_digits dec ds d)

low_sign : {sign : List ℕ} → Sign sign → All low sign
low_sign unsigned = tt
low_sign plus = (refl, tt)
low_sign minus = (refl, tt)

low_e : (b : ℕ) → starts_e (b ∷ []) 0 ≡ true → low b ≡ true
unfolding starts_e
low_e b t = ⊎_elim (λ e. rw (eqb-true b 101 e)) (λ e. rw (eqb-true b 69 e)) (either (eqb b 101) (eqb b 69) t)

pub low_exponent : (ex : List ℕ) → Exponent ex → All low ex
unfolding starts_e
low_exponent ex (no_exponent e) = rw e tt
low_exponent ex (exponent letter sign ds e t g d m) =
    rw e (low_e letter (rw e at t), all_append low sign ds (low_sign g) (low_digits dec ds d))
