-- The first bytes of a list, and lists with no zero byte; for quoted and raw bodies alike.
-- Assumes nothing.
use mathlib.Core.Path.{◌≡◌, refl, ap}
use mathlib.Core.Bool.{Bool, true, false, not, ◌&&◌}
use mathlib.Core.List.{List, [], ◌∷◌}
use Prim.Native.Nat.{ℕ, suc, ◌<◌}
use native.Mathlib.Omega.{arith}
use borrow.Author.Tests.{ne_eqb, eqb-false}
use lib.Dec.{eqb}
use lib.ListN.{length, get_or, take}
use Rattle.scan.specs.Run.{All}
use Rattle.scan.specs.Sets.{except}
use Rattle.scan.proofs.Cases.{clash}

-- ---- the first bytes

pub take_none : (s : List ℕ) → take 0 s ≡ []
take_none [] = refl
take_none (b ∷ s) = refl

pub take_one : (s : List ℕ) → 0 < length s → take 1 s ≡ get_or s 0 0 ∷ []
take_one [] h = absurd (omega arith)
take_one (b ∷ s) h = ap (λ (l : List ℕ). b ∷ l) (take_none s)

-- ---- no zero byte

pub other : (b : ℕ) → (b ≡ 0 → ⊥) → except 0 b ≡ true
unfolding except
other b h = rw (ne_eqb b 0 h)

-- what passes the test of a kind that has no NUL is not 0
pub tested : (t : Bool) (b : ℕ) → t ≡ false → (not t && eqb b 0) ≡ false → b ≡ 0 → ⊥
tested true b e g = clash refl e
tested false b e g = eqb-false b 0 g

-- every byte passes where the byte at each index does
pub all_at : (p : ℕ → Bool) (l : List ℕ) → ((i : ℕ) → i < length l → p (get_or l i 0) ≡ true) → All p l
all_at p [] h = tt
all_at p (b ∷ l) h = (h 0 (omega arith), all_at p l (λ i g. h (suc i) (omega arith)))
