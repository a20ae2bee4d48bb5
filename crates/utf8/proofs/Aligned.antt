-- In a UTF-8 text no byte 10xxxxxx stands after an ASCII byte.
-- Assumes nothing.
use mathlib.Core.Path.{◌≡◌, refl, subst}
use mathlib.Core.Bool.{false}
use mathlib.Core.List.{List, [], ◌∷◌, ◌++◌}
use Prim.Native.Nat.{ℕ, suc, ◌≤◌, ◌<◌}
use native.Mathlib.Omega.{arith}
use lib.ListN.{length, get_or}
use borrow.Author.Tests.{ne_eqb}
use Rattle.scan.proofs.Cases.{by_lt}
use Rattle.utf8.specs.Utf8.{Scalars, encode, encode_all, Utf8}
use Rattle.utf8.specs.Cut.{continuation, Aligned}
use Rattle.utf8.proofs.Laws.{is_row1, encode_high}
use Rattle.utf8.proofs.Text.{utf8_first}

-- a byte above 127 may stand before any byte, and an ASCII byte before one that is no continuation byte
high : (a : ℕ) (r : List ℕ) → 0x80 ≤ a → Aligned r → Aligned (a ∷ r)
high a [] h al = tt
high a (b ∷ r) h al = ((λ g. absurd (omega arith)), al)

low : (a : ℕ) (r : List ℕ) → continuation (get_or r 0 0) ≡ false → Aligned r → Aligned (a ∷ r)
low a [] h al = tt
low a (b ∷ r) h al = ((λ g. h), al)

highs : (l r : List ℕ) → ((i : ℕ) → i < length l → 0x80 ≤ get_or l i 0) → Aligned r → Aligned (l ++ r)
highs [] r f al = al
highs (a ∷ l) r f al = high a (l ++ r) (f 0 (omega arith)) (highs l r (λ i h. f (suc i) (omega arith)) al)

all : (ss : List ℕ) → Scalars ss → Aligned (encode_all ss)
unfolding continuation
all [] t = tt
all (s ∷ ss) t =
    let r : List ℕ = encode_all ss in
    let al = all ss t.1 in
    by_lt s 0x80
    (λ h. rw (is_row1 s h) (low s r (ne_eqb _ 2 (utf8_first r (ss, t.1, refl))) al))
    (λ h. highs (encode s) r (encode_high s h) al)

pub aligned : (t : List ℕ) → Utf8 t → Aligned t
aligned t (ss, sc, e) = subst Aligned e (all ss sc)

-- ---- of a part

pub aligned_rest : (p r : List ℕ) → Aligned (p ++ r) → Aligned r
aligned_rest [] r al = al
aligned_rest (a ∷ []) [] al = tt
aligned_rest (a ∷ []) (b ∷ r) al = al.1
aligned_rest (a ∷ b ∷ p) r al = aligned_rest (b ∷ p) r al.1

-- the byte after an ASCII byte
pub aligned_at : (p : List ℕ) (a b : ℕ) (r : List ℕ) → Aligned (p ++ (a ∷ b ∷ r)) → a < 0x80 → continuation b ≡ false
aligned_at p a b r al h = (aligned_rest p (a ∷ b ∷ r) al).0 h
