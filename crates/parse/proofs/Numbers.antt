-- What integers and floats share: `e` or `E` at an offset, and plain decimal digits.
-- Assumes nothing.
use mathlib.Core.Path.{◌≡◌}
use mathlib.Core.Bool.{true}
use mathlib.Core.Logic.{⊎_elim}
use mathlib.Core.List.{List, [], ◌∷◌}
use Prim.Native.Nat.{ℕ, ◌<◌}
use native.Mathlib.Nat.{add-zero}
use native.Mathlib.Omega.{arith}
use borrow.Author.Tests.{eqb-true, ne_eqb}
use lib.Dec.{eqb}
use lib.ListN.{length, get_or, drop}
use lib.Seq.{get_or-drop}
use Rattle.scan.specs.Run.{run, All}
use Rattle.scan.specs.Sets.{only}
use Rattle.scan.proofs.Bytes.{byte_inside}
use Rattle.parse.specs.Sets.{digit, dec_digit, starts_e}
use Rattle.parse.proofs.Classes.{either, dec_digit_ends, digit_decimal}

pub e_inside : (s : List ℕ) (at : ℕ) → starts_e s at ≡ true → at < length s
unfolding starts_e
e_inside s at t =
    ⊎_elim (λ e. byte_inside s at 101 (eqb-true _ _ e) (omega arith)) (λ e. byte_inside s at 69 (eqb-true _ _ e) (omega arith))
    (either (eqb (get_or s at 0) 101) (eqb (get_or s at 0) 69) t)

pub e_after : (s : List ℕ) (at : ℕ) → starts_e (drop at s) 0 ≡ starts_e s at
unfolding starts_e
e_after s at = rw (get_or-drop, add-zero)

-- ---- plain decimal digits, without `_`

pub plain_digits : (d : List ℕ) → All dec_digit d → All (digit 10) d
plain_digits [] h = tt
plain_digits (b ∷ d) h = (digit_decimal 10 b (omega arith) h.0, plain_digits d h.1)

pub plain_first : (d : List ℕ) → All dec_digit d → 0 < length d → dec_digit (get_or d 0 0) ≡ true
plain_first [] h l = absurd (omega arith)
plain_first (b ∷ d) h l = h.0

pub plain_some : (d : List ℕ) → All dec_digit d → 0 < length d → run (only 95) d < length d
unfolding only
plain_some [] h l = absurd (omega arith)
plain_some (b ∷ d) h l = let e = dec_digit_ends b h.0 in rw (ne_eqb b 95 (λ z. omega arith)) (omega arith)
