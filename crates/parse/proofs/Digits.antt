-- Digits and `_`: which of them are digits.
-- Assumes nothing.
use mathlib.Core.Path.{◌≡◌, refl}
use mathlib.Core.Bool.{true, false}
use mathlib.Core.Logic.{⊎_elim}
use mathlib.Core.List.{List, [], ◌∷◌}
use Prim.Native.Nat.{ℕ, suc, ◌≤◌}
use native.Mathlib.Omega.{arith}
use lib.Dec.{eqb}
use lib.ListN.{length}
use borrow.Author.Tests.{lt-ltb, le-ltb, ne_eqb}
use Rattle.scan.specs.Run.{run, All}
use Rattle.scan.specs.Sets.{only}
use Rattle.parse.specs.Class.{class_of}
use Rattle.parse.specs.Sets.{digit}
use Rattle.parse.specs.Digits.{is_digit, digit_count}
use Rattle.parse.proofs.Classes.{class_underscore, digit_cases}

-- of digits and `_`, none is a digit where all are `_`, and else some is
-- 95 is `_`
pub no_digits : (base : ℕ) (s : List ℕ) → base ≤ 16 → All (digit base) s → digit_count base s ≡ 0 → run (only 95) s ≡ length s
unfolding digit_count is_digit only
no_digits base [] h a z = refl
no_digits base (b ∷ s) h a z =
    ⊎_elim
    (λ e. let more = no_digits base s h a.1 in rw e (omega (arith, more (omega arith))))
    (λ l. let one : is_digit base b ≡ true = lt-ltb (class_of b) base l in absurd (omega (arith, rw one at z)))
    (digit_cases base b a.0)

pub some_digits : (base : ℕ) (s : List ℕ) → base ≤ 16 → All (digit base) s → run (only 95) s ≡ length s → digit_count base s ≡ 0
unfolding digit_count is_digit only
some_digits base [] h a z = refl
some_digits base (b ∷ s) h a z =
    ⊎_elim
    (λ e.
    let low : class_of b ≡ 16 = rw e class_underscore in
    let none : is_digit base b ≡ false = le-ltb (class_of b) base (omega (arith, low)) in
    let rest : suc (run (only 95) s) ≡ suc (length s) = rw e at z in
    rw none (omega (arith, some_digits base s h a.1 (omega (arith, rest)))))
    (λ l.
    let other : eqb b 95 ≡ false = ne_eqb b 95 (λ e. let low : class_of b ≡ 16 = rw e class_underscore in omega (arith, low)) in
    let z' : 0 ≡ suc (length s) = rw other at z in absurd (omega (arith, z')))
    (digit_cases base b a.0)
