-- What bytes tell that a text is no type's name.
-- Assumes nothing.
use mathlib.Core.Path.{◌≡◌, ap}
use mathlib.Core.Bool.{false}
use mathlib.Core.List.{List, [], ◌∷◌}
use Prim.Native.Nat.{ℕ}
use lib.ListN.{length, get_or}
use Rattle.std.specs.Prelude.{Option, None}
use Rattle.scan.specs.Same.{same}
use Rattle.scan.proofs.Sames.{same_ne}
use Rattle.types.specs.Types.{named_in, integer_named, float_named}
use Rattle.types.specs.declared.IntegerType.{IntegerType}
use Rattle.types.specs.declared.FloatType.{FloatType}

module _ (s : List ℕ) where
  -- a text of n bytes that begin with these
  abbrev pub Two : ℕ → ℕ → Type 0
  Two x y = (length s ≡ 2) → (get_or s 0 0 ≡ x) → (get_or s 1 0 ≡ y) → ⊥

  abbrev pub Three : ℕ → ℕ → ℕ → Type 0
  Three x y z = (length s ≡ 3) → (get_or s 0 0 ≡ x) → (get_or s 1 0 ≡ y) → (get_or s 2 0 ≡ z) → ⊥

  abbrev pub Four : ℕ → ℕ → ℕ → ℕ → Type 0
  Four x y z u = (length s ≡ 4) → (get_or s 0 0 ≡ x) → (get_or s 1 0 ≡ y) → (get_or s 2 0 ≡ z) → (get_or s 3 0 ≡ u) → ⊥

  abbrev pub Five : ℕ → ℕ → ℕ → ℕ → ℕ → Type 0
  Five x y z u v = (length s ≡ 5) → (get_or s 0 0 ≡ x) → (get_or s 1 0 ≡ y) → (get_or s 2 0 ≡ z) → (get_or s 3 0 ≡ u) → (get_or s 4 0 ≡ v) → ⊥

  two : (x y : ℕ) → Two x y → same s (x ∷ y ∷ []) ≡ false
  two x y h = same_ne s _ (λ e. h (ap length e) (ap (λ l. get_or l 0 0) e) (ap (λ l. get_or l 1 0) e))

  three : (x y z : ℕ) → Three x y z → same s (x ∷ y ∷ z ∷ []) ≡ false
  three x y z h = same_ne s _ (λ e. h (ap length e) (ap (λ l. get_or l 0 0) e) (ap (λ l. get_or l 1 0) e) (ap (λ l. get_or l 2 0) e))

  four : (x y z u : ℕ) → Four x y z u → same s (x ∷ y ∷ z ∷ u ∷ []) ≡ false
  four x y z u h = same_ne s _ (λ e. h (ap length e) (ap (λ l. get_or l 0 0) e) (ap (λ l. get_or l 1 0) e) (ap (λ l. get_or l 2 0) e) (ap (λ l. get_or l 3 0) e))

  five : (x y z u v : ℕ) → Five x y z u v → same s (x ∷ y ∷ z ∷ u ∷ v ∷ []) ≡ false
  five x y z u v h = same_ne s _ (λ e. h (ap length e) (ap (λ l. get_or l 0 0) e) (ap (λ l. get_or l 1 0) e) (ap (λ l. get_or l 2 0) e) (ap (λ l. get_or l 3 0) e) (ap (λ l. get_or l 4 0) e))

  pub no_integer : Two 117 56 → Three 117 49 54 → Three 117 51 50 → Three 117 54 52 → Four 117 49 50 56 → Five 117 115 105 122 101
      → Two 105 56 → Three 105 49 54 → Three 105 51 50 → Three 105 54 52 → Four 105 49 50 56 → Five 105 115 105 122 101 → ◌≡◌ {A = Option IntegerType} None (integer_named s)
  unfolding integer_named named_in
  no_integer a b c d e f g h i j k l =
      rw (two _ _ a, three _ _ _ b, three _ _ _ c, three _ _ _ d, four _ _ _ _ e, five _ _ _ _ _ f, two _ _ g, three _ _ _ h, three _ _ _ i, three _ _ _ j, four _ _ _ _ k, five _ _ _ _ _ l)

  pub no_float : Three 102 51 50 → Three 102 54 52 → ◌≡◌ {A = Option FloatType} None (float_named s)
  unfolding float_named
  no_float a b = rw (three _ _ _ a, three _ _ _ b)
