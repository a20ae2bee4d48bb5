-- The entry by the first byte, and where there is none.
-- Assumes nothing.
use mathlib.Core.Path.{◌≡◌, refl, sym, ap, ◌∙◌}
use mathlib.Core.Bool.{Bool, true, false}
use mathlib.Core.List.{List, [], ◌∷◌}
use Prim.Native.Nat.{ℕ, ◌≤◌, ◌<◌}
use native.Mathlib.Omega.{arith}
use borrow.Author.Tests.{ne_eqb}
use lib.ListN.{length, get_or}
use Rattle.parse.specs.Sets.{dec_digit}
use Rattle.parse.proofs.Classes.{dec_digit_ends, dec_digit_within}
use Rattle.dispatch.specs.Entries.{number_entry, entry_by, entry_for}

pub entry_none : (s : List ℕ) → length s ≡ 0 → 2 ≡ entry_for s
unfolding entry_for
entry_none [] h = refl
entry_none (b ∷ s) h = absurd (omega arith)

module _ (s : List ℕ) (b : ℕ) (l : 0 < length s) (e : b ≡ get_or s 0 0) where
  by_first : entry_by b s ≡ entry_for s
  unfolding entry_for
  by_first = go s l e
    where
      go : (s : List ℕ) → 0 < length s → b ≡ get_or s 0 0 → entry_by b s ≡ entry_for s
      go [] h q = absurd (omega arith)
      go (x ∷ s) h q = rw q

  -- of a first byte that is known
  pub entry_of : (k : ℕ) → b ≡ k → entry_by k s ≡ entry_for s
  entry_of k q = ap (λ (n : ℕ). entry_by n s) (sym q) ∙ by_first

  pub entry_digit : 48 ≤ b → b ≤ 57 → number_entry s ≡ entry_for s
  unfolding entry_by
  entry_digit h g = rw (← by_first, dec_digit_within b h g)

  pub entry_other : (48 ≤ b → b ≤ 57 → ⊥) → (b ≡ 102 → ⊥) → (b ≡ 116 → ⊥) → (b ≡ 39 → ⊥) → (b ≡ 34 → ⊥) → (b ≡ 114 → ⊥) → (b ≡ 98 → ⊥) → (b ≡ 99 → ⊥) → 9 ≡ entry_for s
  unfolding entry_by
  entry_other d f t q p r y z =
      rw (← by_first, none (dec_digit b) refl, ne_eqb b 102 f, ne_eqb b 116 t, ne_eqb b 39 q, ne_eqb b 34 p, ne_eqb b 114 r, ne_eqb b 98 y, ne_eqb b 99 z)
    where
      none : (x : Bool) → dec_digit b ≡ x → dec_digit b ≡ false
      none true w = let h = dec_digit_ends b w in absurd (d h.0 h.1)
      none false w = w
