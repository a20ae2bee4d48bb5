-- `same` is equality of lists, and how a loop that compares goes on.
-- Assumes nothing.
use mathlib.Core.Path.{◌≡◌, refl, ap}
use mathlib.Core.Bool.{Bool, true, false, ◌&&◌}
use mathlib.Core.List.{List, [], ◌∷◌}
use Prim.Native.Nat.{ℕ, ◌+◌, ◌≤◌, ◌<◌}
use native.Mathlib.Numerals.{add-one}
use borrow.Author.Tests.{eq-eqb, ne_eqb, eqb-true}
use lib.Dec.{eqb}
use lib.ListN.{length, get_or, drop, drop_of_length-le}
use lib.Seq.{drop-cons}
use Rattle.scan.specs.Same.{same}
use Rattle.scan.proofs.Cases.{clash}

pub same_refl : (s : List ℕ) → same s s ≡ true
same_refl [] = refl
same_refl (a ∷ s) = rw (eq-eqb a a refl) (same_refl s)

pub same_eq : (s t : List ℕ) → same s t ≡ true → s ≡ t
same_eq [] [] h = refl
same_eq [] (b ∷ t) h = clash h refl
same_eq (a ∷ s) [] h = clash h refl
same_eq (a ∷ s) (b ∷ t) h = by_test (same_eq s t) (eqb a b) refl h
  where
    by_test : (same s t ≡ true → s ≡ t) → (x : Bool) → eqb a b ≡ x → (x && same s t) ≡ true → a ∷ s ≡ b ∷ t
    by_test f true e h = cc (eqb-true a b e, f h)
    by_test f false e h = clash h refl

-- not of lists that differ: in length, or in a byte
pub same_ne : (s t : List ℕ) → (s ≡ t → ⊥) → same s t ≡ false
same_ne s t h = by_test (same s t) refl
  where
    by_test : (x : Bool) → same s t ≡ x → x ≡ false
    by_test true e = absurd (h (same_eq s t e))
    by_test false e = refl

pub same_lengths : (s t : List ℕ) → (length s ≡ length t → ⊥) → same s t ≡ false
same_lengths s t h = same_ne s t (λ e. h (ap length e))

-- ---- a loop that stands at i has found the bytes before it equal

pub same_more : (s t : List ℕ) (i : ℕ) → i < length s → i < length t → get_or s i 0 ≡ get_or t i 0 → same (drop i s) (drop i t) ≡ same (drop (i + 1) s) (drop (i + 1) t)
same_more s t i h g e = rw (drop-cons s i 0, drop-cons t i 0, eq-eqb _ _ e, add-one)

pub same_stop : (s t : List ℕ) (i : ℕ) → i < length s → i < length t → (get_or s i 0 ≡ get_or t i 0 → ⊥) → same (drop i s) (drop i t) ≡ false
same_stop s t i h g e = rw (drop-cons s i 0, drop-cons t i 0, ne_eqb _ _ e)

pub same_end : (s t : List ℕ) (i : ℕ) → length s ≤ i → length t ≤ i → same (drop i s) (drop i t) ≡ true
same_end s t i h g = rw (drop_of_length-le s h, drop_of_length-le t g)
