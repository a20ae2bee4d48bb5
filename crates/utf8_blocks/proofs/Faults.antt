-- Laws of the faults of a text: the tests that the code makes, how a loop that looks for the worst goes on, and what a part of a
-- text says of the rest.
-- Assumes nothing.
use mathlib.Core.Path.{◌≡◌, refl, sym, ap, ◌∙◌}
use mathlib.Core.Logic.{inl, inr}
use mathlib.Core.Bool.{Bool, true, false, cond, not, ◌||◌, beq, xor, or-true}
use mathlib.Core.List.{List, [], ◌∷◌}
use Prim.Native.Nat.{ℕ, zero, suc, ◌+◌, ◌-◌, ◌/◌, ◌≤◌, ◌<◌, max}
use native.Mathlib.Nat.{add-zero}
use native.Mathlib.Numerals.{add-one}
use native.Mathlib.Omega.{arith}
use lib.Dec.{ltb, leb, eqb}
use lib.ListN.{length, get_or, take, drop, length-drop, drop_of_length-le}
use lib.Seq.{drop-length, drop-cons, drop-drop, get_or-drop}
use borrow.Author.Tests.{le-leb, lt-leb, lt-ltb, le-ltb, eq-eqb, ne_eqb, eqb-true, eqb-false}
use Rattle.scan.proofs.Cases.{cond_eq, by_lt}
use Rattle.utf8.specs.Valid.{is_utf8}
use Rattle.utf8.specs.Cut.{continuation}
use Rattle.utf8_blocks.specs.Faults.{least_after, greatest_after, wants_continuation, never, outside, breaks, mask, fault_mask, worst_from, clean, worst_after_three, clean_after_three}
use Rattle.utf8.proofs.Valid.{is_utf8_front}
use Rattle.utf8_blocks.proofs.Clean.{by_test, never_low, never_high, never_not, clean_utf8}

-- ---- one byte: the code's tests

mask_or : (p q : Bool) → max (mask p) (mask q) ≡ mask (p || q)
unfolding mask
mask_or true true = refl
mask_or true false = refl
mask_or false true = refl
mask_or false false = refl

-- the larger of two is above where one of them is
above_or : (m n : ℕ) → ltb 127 (max m n) ≡ ltb 127 m || ltb 127 n
above_or m n = by_lt 127 m (λ h. rw (lt-ltb 127 m h) (lt-ltb 127 (max m n) (omega arith))) λ h.
    by_lt 127 n (λ g. rw (le-ltb 127 m h, lt-ltb 127 n g) (lt-ltb 127 (max m n) (omega arith))) λ g.
    rw (le-ltb 127 m h, le-ltb 127 n g) (le-ltb 127 (max m n) (omega arith))

over_is : (n x : ℕ) → ltb 127 (x - n) ≡ leb (n + 128) x
over_is n x = by_lt x (n + 128) (λ h. rw (lt-leb (n + 128) x h) (le-ltb 127 (x - n) (omega arith))) (λ h. rw (le-leb (n + 128) x h) (lt-ltb 127 (x - n) (omega arith)))

wanted_is : (c b a : ℕ) → ltb 127 (max (a - 0x40) (max (b - 0x60) (c - 0x70))) ≡ wants_continuation c b a
unfolding wants_continuation
wanted_is c b a = rw (above_or, above_or, over_is 0x40 a, over_is 0x60 b, over_is 0x70 c)

never_is : (x : ℕ) → eqb (x / 2) 0x60 || ltb 0xF4 x ≡ never x
never_is x =
    by_lt x 0xC0 (λ h. rw (never_not x (inl h) (omega arith)) (other (omega arith) (λ e. omega arith))) λ g.
    by_lt x 0xC2 (λ h. rw (never_low x g h) (simp (eq-eqb (x / 2) 0x60 (omega arith)))) λ h.
    by_lt 0xF4 x
    (λ k. rw (never_high x k) (simp (lt-ltb 0xF4 x k, or-true)))
    (λ k. rw (never_not x (inr h) k) (other k (λ e. omega arith)))
  where
    other : x ≤ 0xF4 → (x / 2 ≡ 0x60 → ⊥) → eqb (x / 2) 0x60 || ltb 0xF4 x ≡ false
    other k n = simp (le-ltb 0xF4 x k, ne_eqb (x / 2) 0x60 n)

-- a continuation byte is below n + 1 or above n
above_not : (n x : ℕ) → ltb n x ≡ not (ltb x (n + 1))
above_not n x = by_lt n x (λ h. rw (lt-ltb n x h, le-ltb x (n + 1) (omega arith))) (λ h. rw (le-ltb n x h, lt-ltb x (n + 1) (omega arith)))

-- each first byte that has a range, by what is below A0 and below 90
e0 : (t u : Bool) → eqb 0xE0 (cond t 0xE0 0xED) || eqb 0xE0 (cond u 0xF0 0xF4) ≡ t || false
e0 true u = refl
e0 false true = refl
e0 false false = refl

ed : (t u : Bool) → eqb 0xED (cond t 0xE0 0xED) || eqb 0xED (cond u 0xF0 0xF4) ≡ not t
ed false u = refl
ed true true = refl
ed true false = refl

f0 : (t u : Bool) → eqb 0xF0 (cond t 0xE0 0xED) || eqb 0xF0 (cond u 0xF0 0xF4) ≡ u || false
f0 true true = refl
f0 true false = refl
f0 false true = refl
f0 false false = refl

f4 : (t u : Bool) → eqb 0xF4 (cond t 0xE0 0xED) || eqb 0xF4 (cond u 0xF0 0xF4) ≡ not u
f4 true true = refl
f4 true false = refl
f4 false true = refl
f4 false false = refl

-- another has none
no_range : (a : ℕ) (t u : Bool) → (a ≡ 0xE0 → ⊥) → (a ≡ 0xED → ⊥) → (a ≡ 0xF0 → ⊥) → (a ≡ 0xF4 → ⊥)
    → eqb a (cond t 0xE0 0xED) || eqb a (cond u 0xF0 0xF4) ≡ false
no_range a true true p q r s = rw (ne_eqb a 0xE0 p, ne_eqb a 0xF0 r)
no_range a true false p q r s = rw (ne_eqb a 0xE0 p, ne_eqb a 0xF4 s)
no_range a false true p q r s = rw (ne_eqb a 0xED q, ne_eqb a 0xF0 r)
no_range a false false p q r s = rw (ne_eqb a 0xED q, ne_eqb a 0xF4 s)

-- a number is another or is not
by_eq {ℓ} : {P : Type ℓ} (a n : ℕ) → (a ≡ n → P) → ((a ≡ n → ⊥) → P) → P
by_eq a n f g = by_test (eqb a n) (λ e. f (eqb-true a n e)) (λ e. g (eqb-false a n e))

outside_is : (a x : ℕ) → x ≤ 0xFF → eqb a (cond (ltb x 0xA0) 0xE0 0xED) || eqb a (cond (ltb x 0x90) 0xF0 0xF4) ≡ outside a x
unfolding outside least_after greatest_after
outside_is a x h =
    by_eq a 0xE0 (λ e. rw (e, le-ltb 0xFF x h) (e0 (ltb x 0xA0) (ltb x 0x90))) λ p.
    by_eq a 0xED (λ e. rw (e, le-ltb x 0 (omega arith), above_not 0x9F x) (ed (ltb x 0xA0) (ltb x 0x90))) λ q.
    by_eq a 0xF0 (λ e. rw (e, le-ltb 0xFF x h) (f0 (ltb x 0xA0) (ltb x 0x90))) λ r.
    by_eq a 0xF4 (λ e. rw (e, le-ltb x 0 (omega arith), above_not 0x8F x) (f4 (ltb x 0xA0) (ltb x 0x90))) λ s.
    no_range a (ltb x 0xA0) (ltb x 0x90) p q r s
    ∙ sym (simp (ne_eqb a 0xE0 p, ne_eqb a 0xF0 r, ne_eqb a 0xED q, ne_eqb a 0xF4 s, le-ltb x 0 (omega arith), le-ltb 0xFF x h))

-- THE LAW: the tests together say whether a rule is broken.
pub fault_is : (c b a x : ℕ) → x ≤ 0xFF
    → max (mask (not (beq (ltb 127 (max (a - 0x40) (max (b - 0x60) (c - 0x70)))) (continuation x))))
    (max (max (mask (eqb (x / 2) 0x60)) (mask (ltb 0xF4 x)))
    (max (mask (eqb a (cond (ltb x 0xA0) 0xE0 0xED))) (mask (eqb a (cond (ltb x 0x90) 0xF0 0xF4))))) ≡ fault_mask c b a x
unfolding breaks xor
fault_is c b a x h = rw (wanted_is c b a, mask_or (eqb (x / 2) 0x60) (ltb 0xF4 x), mask_or (eqb a (cond (ltb x 0xA0) 0xE0 0xED)) (eqb a (cond (ltb x 0x90) 0xF0 0xF4)), never_is x, outside_is a x h, mask_or, mask_or)

-- ---- the worst fault, along a list

pub worst_more : (m : ℕ) (s : List ℕ) (i : ℕ) → 3 ≤ i → i < length s
    → worst_from m (get_or s (i - 3) 0) (get_or s (i - 2) 0) (get_or s (i - 1) 0) (drop i s)
    ≡ worst_from (max m (fault_mask (get_or s (i - 3) 0) (get_or s (i - 2) 0) (get_or s (i - 1) 0) (get_or s i 0)))
    (get_or s (i + 1 - 3) 0) (get_or s (i + 1 - 2) 0) (get_or s (i + 1 - 1) 0) (drop (i + 1) s)
worst_more m s i g h =
    let e3 : i + 1 - 3 ≡ i - 2 = omega arith in
    let e2 : i + 1 - 2 ≡ i - 1 = omega arith in
    let e1 : i + 1 - 1 ≡ i = omega arith in
    rw (e3, e2, e1, drop-cons s i 0, add-one)

pub worst_end : (m c b a : ℕ) (s : List ℕ) (i : ℕ) → length s ≤ i → worst_from m c b a (drop i s) ≡ m
worst_end m c b a s i h = rw (drop_of_length-le s h)

worst_start : (m c b a : ℕ) (s : List ℕ) → m ≤ worst_from m c b a s
worst_start m c b a [] = omega arith
worst_start m c b a (x ∷ s) = omega (arith, worst_start (max m (fault_mask c b a x)) b a x s)

worst_none : (c b a x : ℕ) (s : List ℕ) → fault_mask c b a x ≡ 0 → worst_from 0 c b a (x ∷ s) ≡ worst_from 0 b a x s
worst_none c b a x s = ap (λ (f : ℕ). worst_from (max 0 f) b a x s)

-- ---- a part of n bytes after c, b, a: without fault it is passed, with one the text is refused

pub part_passed : (n c b a : ℕ) (r : List ℕ) → n ≤ length r → worst_from 0 c b a (take n r) ≡ 0 → clean c b a r ≡ clean_after_three (drop n (c ∷ b ∷ a ∷ r))
part_passed zero c b a r l h = refl
part_passed (suc n) c b a [] l h = absurd (omega arith)
part_passed (suc n) c b a (x ∷ r) l h =
    let f = fault_mask c b a x in
    let z : f ≡ 0 = omega (arith, worst_start (max 0 f) b a x (take n r)) in
    rw z (part_passed n b a x r (omega arith) (sym (worst_none c b a x (take n r) z) ∙ h))

pub part_refused : (n c b a : ℕ) (r : List ℕ) → (worst_from 0 c b a (take n r) ≡ 0 → ⊥) → clean c b a r ≡ false
part_refused zero c b a r h = absurd (h refl)
part_refused (suc n) c b a [] h = absurd (h refl)
part_refused (suc n) c b a (x ∷ r) h =
    cond_eq (λ (t : Bool). t ≡ false) (fault_mask c b a x) 0 (λ e. part_refused n b a x r (λ z. h (worst_none c b a x (take n r) e ∙ z))) (λ e. refl)

pub first_three : (s : List ℕ) → 3 ≤ length s → s ≡ get_or s 0 0 ∷ get_or s 1 0 ∷ get_or s 2 0 ∷ drop 3 s
first_three [] h = absurd (omega arith)
first_three (c ∷ []) h = absurd (omega arith)
first_three (c ∷ b ∷ []) h = absurd (omega arith)
first_three (c ∷ b ∷ a ∷ r) h = refl

-- the part of a text from i to e, lent with the three bytes before it
module _ (t : List ℕ) (i e : ℕ) (g : 3 ≤ i) (k : i ≤ e) (l : e ≤ length t) where
  s : List ℕ
  s = drop (i - 3) t

  cut : s ≡ get_or s 0 0 ∷ get_or s 1 0 ∷ get_or s 2 0 ∷ drop 3 s
  unfolding s
  cut = first_three s (omega (arith, length-drop (i - 3) t))

  lent : worst_after_three (take (e - (i - 3)) s) ≡ worst_from 0 (get_or s 0 0) (get_or s 1 0) (get_or s 2 0) (take (e - i) (drop 3 s))
  lent =
      let n : e - (i - 3) ≡ suc (suc (suc (e - i))) = omega arith in
      rw n (ap (λ (p : List ℕ). worst_after_three (take (suc (suc (suc (e - i)))) p)) cut)

  pub block_passed : worst_after_three (take (e - (i - 3)) (drop (i - 3) t)) ≡ 0 → clean_after_three (drop (e - 3) t) ≡ clean_after_three (drop (i - 3) t)
  unfolding s
  block_passed h =
      let m : i - 3 + (e - i) ≡ e - 3 = omega arith in
      let q : length (drop 3 s) ≡ length t - (i - 3) - 3 = simp length-drop in
      sym (part_passed (e - i) _ _ _ (drop 3 s) (omega arith) (sym lent ∙ h) ∙
      ap (λ (p : List ℕ). clean_after_three (drop (e - i) p)) (sym cut) ∙
      rw (drop-drop (e - i) (i - 3) t, m))

  pub block_refused : (worst_after_three (take (e - (i - 3)) (drop (i - 3) t)) ≡ 0 → ⊥) → clean_after_three (drop (i - 3) t) ≡ false
  unfolding s
  block_refused h = part_refused (e - i) _ _ _ (drop 3 s) (λ z. h (lent ∙ z))

-- the three bytes before an offset
pub after_at : (t : List ℕ) (i : ℕ) → 3 ≤ i → clean_after_three (drop (i - 3) t) ≡ clean (get_or t (i - 3) 0) (get_or t (i - 2) 0) (get_or t (i - 1) 0) (drop i t)
after_at t i g =
    let e3 : i - 3 + 3 ≡ i = omega arith in
    let e2 : i - 3 + 1 ≡ i - 2 = omega arith in
    let e1 : i - 3 + 2 ≡ i - 1 = omega arith in
    simp (get_or-drop, drop-drop, add-zero, e3, e2, e1)

-- after ASCII bytes
pub after_ascii : (t : List ℕ) (i : ℕ) → 3 ≤ i → ((k : ℕ) → k < i → get_or t k 0 < 0x80) → clean_after_three (drop (i - 3) t) ≡ is_utf8 t
after_ascii t i g h =
    let a = h (i - 1) (omega arith) in
    let b = h (i - 2) (omega arith) in
    let c = h (i - 3) (omega arith) in
    after_at t i g ∙ clean_utf8 (drop i t) _ _ _ (omega arith) (omega arith) (omega arith) ∙ is_utf8_front t i h

-- at the end of a text only its last three bytes count
pub end_clean : (t : List ℕ) → 3 ≤ length t
    → clean_after_three (drop (length t - 3) t) ≡ not (wants_continuation (get_or t (length t - 3) 0) (get_or t (length t - 2) 0) (get_or t (length t - 1) 0))
end_clean t h = after_at t (length t) h ∙ rw (drop-length t)

pub below_same : (n x : ℕ) → not (leb n x) ≡ ltb x n
below_same n x = by_lt x n (λ h. simp (lt-leb n x h, lt-ltb x n h)) (λ h. simp (le-leb n x h, le-ltb x n h))
