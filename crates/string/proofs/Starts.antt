-- How a text begins, and what is read by it.
-- Assumes nothing.
use mathlib.Core.Path.{◌≡◌, refl}
use mathlib.Core.List.{List, [], ◌∷◌}
use Prim.Native.Nat.{ℕ}
use native.Mathlib.Omega.{arith}
use lib.ListN.{length}
use Rattle.err.specs.Outcome.{refused, none}
use Rattle.escape.specs.declared.Allowed.{Allowed}
use Rattle.escape.specs.declared.Allowed.TheVariants.{Text, Bytes, C}
use Rattle.string.specs.String.{opening_by, opening_at, read_by, string_read}
use Rattle.string.specs.declared.Opening.{Opening}
use Rattle.string.specs.declared.Opening.TheVariants as opening

pub read_none : (k : Allowed) (s : List ℕ) → length s ≡ 0 → refused 1 none ≡ string_read k s
unfolding string_read
read_none k [] h = refl
read_none k (b ∷ s) h = absurd (omega arith)

pub read_some : (k : Allowed) (s : List ℕ) → (length s ≡ 0 → ⊥) → string_read k s ≡ read_by k (opening_at k s) s
unfolding string_read
read_some k [] h = absurd (h refl)
read_some k (b ∷ s) h = refl

-- a text that opens is not empty, so it is read by its opening
pub read_opened : (k : Allowed) (s : List ℕ) (o : Opening) → o ≡ opening_at k s → (opening_at k s ≡ opening.Neither → ⊥) → string_read k s ≡ read_by k o s
unfolding string_read opening_by
read_opened Text [] o a h = absurd (h refl)
read_opened Bytes [] o a h = absurd (h refl)
read_opened C [] o a h = absurd (h refl)
read_opened k (b ∷ s) o a h = rw a

-- an opening that was told is not `Neither`
pub known_quoted : (k : Allowed) (s : List ℕ) (o : Opening) → o ≡ opening_at k s → o ≡ opening.Quoted → opening_at k s ≡ opening.Neither → ⊥
known_quoted k s o a b h = let z : ◌≡◌ {A = ℕ} 0 1 = cc in omega arith

pub known_raw : (k : Allowed) (s : List ℕ) (o : Opening) → o ≡ opening_at k s → o ≡ opening.Raw → opening_at k s ≡ opening.Neither → ⊥
known_raw k s o a b h = let z : ◌≡◌ {A = ℕ} 0 1 = cc in omega arith
