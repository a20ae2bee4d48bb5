-- Unique splits: opening, body, closing and rest of a text determine each other.
-- Assumes nothing.
use mathlib.Core.Path.{◌≡◌, refl, sym, ap, ◌∙◌}
use mathlib.Core.List.{List, ◌∷◌, ◌++◌, append_assoc, append_cancel_left, head-eq_of_cons-eq, tail-eq_of_cons-eq}
use Prim.Native.Nat.{ℕ, zero, suc, ◌≤◌}
use native.Mathlib.Nat.{le_antisymm}
use native.Mathlib.Omega.{arith}
use lib.ListN.{length}
use lib.Seq.{take-append_seam, drop-append_seam}
use Rattle.grammar.specs.Notation.{Class, Lang, Longest, times}
use Rattle.grammar.specs.Quoted.{Pieces, none, some, closing, Raw}

-- two splits of one text with first parts of one length are the same split
pub same_split : (p q x y : List ℕ) → length p ≡ length q → p ++ x ≡ q ++ y → (p ≡ q) × (x ≡ y)
same_split p q x y l e =
    let a = take-append_seam p x in
    let b = take-append_seam q y in
    let c = drop-append_seam p x in
    let d = drop-append_seam q y in
    ((cc), (cc))

-- two longest splits of one production are the same split
pub longest_unique : (A : Lang) (s p x q y : List ℕ) → Longest A s p x → Longest A s q y → (p ≡ q) × (x ≡ y)
longest_unique A s p x q y a b =
    same_split p q x y (le_antisymm (b.most p x a.split a.is) (a.most q y b.split b.is)) (sym a.split ∙ b.split)

-- ---- pieces up to the quote

-- What makes a body's end certain: with the closing quote after the rest r, no piece begins with the quote, and what stands at the front tells
-- the piece and its worth.
pub record Needs (Piece : List ℕ → List ℕ → List ℕ → Type 0) : Type 0 where
  pub inner : (t w r x y : List ℕ) → Piece t w r → 34 ∷ x ≡ t ++ (r ++ (34 ∷ y)) → ⊥
  pub alone : (t w r t' w' r' x y : List ℕ) → Piece t w r → Piece t' w' r' → t ++ (r ++ (34 ∷ x)) ≡ t' ++ (r' ++ (34 ∷ y)) → (t ≡ t') × (w ≡ w')

module _ (Piece : List ℕ → List ℕ → List ℕ → Type 0) (n : Needs Piece) where
  -- the body, its worth and what stands after its quote are determined
  pub pieces_unique : {c v d w : List ℕ} (x y : List ℕ) → Pieces Piece c v → Pieces Piece d w → c ++ (34 ∷ x) ≡ d ++ (34 ∷ y)
      → (c ≡ d) × (v ≡ w) × (x ≡ y)
  pieces_unique x y none none e = (refl, refl, tail-eq_of_cons-eq e)
  pieces_unique x y none (some t w r u p q i j) e =
      absurd (n.inner t w r x y p (e ∙ ap (λ (l : List ℕ). l ++ (34 ∷ y)) i ∙ append_assoc t r (34 ∷ y)))
  pieces_unique x y (some t w r u p q i j) none e =
      absurd (n.inner t w r y x p (sym e ∙ ap (λ (l : List ℕ). l ++ (34 ∷ x)) i ∙ append_assoc t r (34 ∷ x)))
  pieces_unique x y (some t w r u p q i j) (some t' w' r' u' p' q' i' j') e =
      let c : _ ≡ t ++ (r ++ (34 ∷ x)) = ap (λ (l : List ℕ). l ++ (34 ∷ x)) i ∙ append_assoc t r (34 ∷ x) in
      let d : _ ≡ t' ++ (r' ++ (34 ∷ y)) = ap (λ (l : List ℕ). l ++ (34 ∷ y)) i' ∙ append_assoc t' r' (34 ∷ y) in
      let g = sym c ∙ e ∙ d in
      let h = n.alone t w r t' w' r' x y p p' g in
      let k = same_split t t' _ _ (ap length h.0) g in
      let z = pieces_unique x y q q' k.1 in
      ((cc), (cc), z.2)

-- ---- raw strings

-- hashes end at the quote
pub hashes_unique : (n m : ℕ) (x y : List ℕ) → times n 35 ++ (34 ∷ x) ≡ times m 35 ++ (34 ∷ y) → (n ≡ m) × (x ≡ y)
hashes_unique zero zero x y e = (refl, tail-eq_of_cons-eq e)
hashes_unique zero (suc m) x y e = absurd (omega (arith, head-eq_of_cons-eq e))
hashes_unique (suc n) zero x y e = absurd (omega (arith, head-eq_of_cons-eq e))
hashes_unique (suc n) (suc m) x y e = let h = hashes_unique n m x y (tail-eq_of_cons-eq e) in (ap suc h.0, h.1)

-- two first closings of one text are the same
pub closing_unique : (n : ℕ) (v w x y : List ℕ) → v ++ closing n x ≡ w ++ closing n y → length v ≤ length w → length w ≤ length v → (v ≡ w) × (x ≡ y)
closing_unique n v w x y e a b =
    let h = same_split v w (closing n x) (closing n y) (le_antisymm a b) e in
    (h.0, append_cancel_left (times n 35) x y (tail-eq_of_cons-eq h.1))

-- after one opening the number of hashes, the body and the suffix of a raw string are determined
pub raw_unique : (f : Class) (opening s v w x y : List ℕ) → (a : Raw f opening s v x) → (b : Raw f opening s w y)
    → (a.hashes ≡ b.hashes) × (v ≡ w) × (x ≡ y)
raw_unique f opening s v w x y a b =
    let h = hashes_unique a.hashes b.hashes _ _ (append_cancel_left opening _ _ (sym a.is ∙ b.is)) in
    let e : v ++ closing a.hashes x ≡ w ++ closing a.hashes y = h.1 ∙ ap (λ (n : ℕ). w ++ closing n y) (sym h.0) in
    let e' : w ++ closing b.hashes y ≡ v ++ closing b.hashes x = sym h.1 ∙ ap (λ (n : ℕ). v ++ closing n x) h.0 in
    let k = closing_unique a.hashes v w x y e (a.first w y e) (b.first v x e') in
    (h.0, k.0, k.1)
