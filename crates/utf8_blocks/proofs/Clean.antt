-- A text is UTF-8 exactly where no byte is at fault after the three before it and no continuation byte is wanted at the end.
-- Assumes nothing.
use mathlib.Core.Path.{◌≡◌, refl, sym, ap, ◌∙◌}
use mathlib.Core.Logic.{◌⊎◌, inl, inr, ⊎_elim}
use mathlib.Core.Bool.{Bool, true, false, not, xor, or-true}
use mathlib.Core.List.{List, [], ◌∷◌}
use Prim.Native.Nat.{ℕ, zero, suc, ◌/◌, ◌≤◌, ◌<◌}
use native.Mathlib.Omega.{arith}
use native.Mathlib.Nat.{zero-add, not-suc-le-zero}
use lib.ListN.{length, get_or, drop, length-drop}
use lib.Seq.{drop-drop, get_or-drop}
use borrow.Author.Tests.{eqb-true, le-leb, lt-leb, lt-ltb, le-ltb, eq-eqb, ne_eqb}
use Rattle.scan.proofs.Cases.{cond_eq, by_lt, clash}
use Rattle.utf8.specs.Decode.{decode3, decode4, decode, len_of}
use Rattle.utf8.specs.Valid.{is_utf8}
use Rattle.utf8.specs.Cut.{continuation}
use Rattle.utf8_blocks.specs.Faults.{least_after, greatest_after, wants_continuation, never, outside, breaks, mask, fault_mask, clean}
use Rattle.std.specs.Prelude.{None}
use Rattle.utf8.proofs.At.{decode_two, decode_three, decode_four, decode_alone}
use Rattle.utf8_blocks.proofs.Ranges.{
  length_two,
  length_three,
  length_four,
  len_one,
  len_no_first,
  none_above,
  range2,
  overlong3,
  surrogate3,
  range3,
  no_third3,
  overlong4,
  above4,
  range4,
  no_third4,
  no_fourth4,
}
use Rattle.utf8.proofs.Valid.{is_utf8_end, is_utf8_char, is_utf8_bad}

-- a test holds or does not
pub by_test {ℓ} : {P : Type ℓ} (t : Bool) → (t ≡ true → P) → (t ≡ false → P) → P
by_test true f g = f refl
by_test false f g = g refl

-- ---- the rules

tail_range : (x : ℕ) → continuation x ≡ true → (0x80 ≤ x) × (x < 0xC0)
unfolding continuation
tail_range x e = let q = eqb-true (x / 64) 2 e in (omega arith, omega arith)

no_tail : (x : ℕ) → (x < 0x80) ⊎ (0xC0 ≤ x) → continuation x ≡ false
unfolding continuation
no_tail x h = ne_eqb (x / 64) 2 (λ e. ⊎_elim (λ l. omega arith) (λ l. omega arith) h)

module _ (c b a : ℕ) where
  wants_none : a < 0xC0 → b < 0xE0 → c < 0xF0 → wants_continuation c b a ≡ false
  unfolding wants_continuation
  wants_none ha hb hc = simp (lt-leb 0xC0 a ha, lt-leb 0xE0 b hb, lt-leb 0xF0 c hc)

  wants_second : 0xC0 ≤ a → wants_continuation c b a ≡ true
  unfolding wants_continuation
  wants_second h = simp (le-leb 0xC0 a h)

  wants_third : a < 0xC0 → 0xE0 ≤ b → wants_continuation c b a ≡ true
  unfolding wants_continuation
  wants_third ha h = simp (lt-leb 0xC0 a ha, le-leb 0xE0 b h)

  wants_fourth : a < 0xC0 → b < 0xE0 → 0xF0 ≤ c → wants_continuation c b a ≡ true
  unfolding wants_continuation
  wants_fourth ha hb h = simp (lt-leb 0xC0 a ha, lt-leb 0xE0 b hb, le-leb 0xF0 c h)

-- after a byte below E0 there is no range
least_any : (a : ℕ) → a < 0xE0 → least_after a ≡ 0
unfolding least_after
least_any a h = simp (ne_eqb a 0xE0 (λ e. omega arith), ne_eqb a 0xF0 (λ e. omega arith))

most_any : (a : ℕ) → a < 0xE0 → greatest_after a ≡ 0xFF
unfolding greatest_after
most_any a h = simp (ne_eqb a 0xED (λ e. omega arith), ne_eqb a 0xF4 (λ e. omega arith))

below_least : (a x : ℕ) → x < least_after a → ((a ≡ 0xE0) × (x < 0xA0)) ⊎ ((a ≡ 0xF0) × (x < 0x90))
unfolding least_after
below_least a x =
    let P : ℕ → Type 0 = λ n. x < n → ((a ≡ 0xE0) × (x < 0xA0)) ⊎ ((a ≡ 0xF0) × (x < 0x90)) in
    cond_eq P a 0xE0 (λ e h. inl (e, h)) (λ n. cond_eq P a 0xF0 (λ e h. inr (e, h)) (λ m h. absurd (omega arith)))

above_most : (a x : ℕ) → x ≤ 0xFF → greatest_after a < x → ((a ≡ 0xED) × (0x9F < x)) ⊎ ((a ≡ 0xF4) × (0x8F < x))
unfolding greatest_after
above_most a x l =
    let P : ℕ → Type 0 = λ n. n < x → ((a ≡ 0xED) × (0x9F < x)) ⊎ ((a ≡ 0xF4) × (0x8F < x)) in
    cond_eq P a 0xED (λ e h. inl (e, h)) (λ n. cond_eq P a 0xF4 (λ e h. inr (e, h)) (λ m h. absurd (omega arith)))

from_least : (a x : ℕ) → least_after a ≤ x → (a ≡ 0xE0 → 0xA0 ≤ x) × (a ≡ 0xF0 → 0x90 ≤ x)
unfolding least_after
from_least a x h = (λ e. rw e at h, λ e. rw e at h)

to_most : (a x : ℕ) → x ≤ greatest_after a → (a ≡ 0xED → x ≤ 0x9F) × (a ≡ 0xF4 → x ≤ 0x8F)
unfolding greatest_after
to_most a x h = (λ e. rw e at h, λ e. rw e at h)

pub never_low : (x : ℕ) → 0xC0 ≤ x → x < 0xC2 → never x ≡ true
unfolding never
never_low x g h =
    by_lt x 0xC1
    (λ l. simp (eq-eqb x 0xC0 (omega arith)))
    (λ l. simp (ne_eqb x 0xC0 (λ e. omega arith), eq-eqb x 0xC1 (omega arith)))

pub never_high : (x : ℕ) → 0xF4 < x → never x ≡ true
unfolding never
never_high x g = simp (ne_eqb x 0xC0 (λ e. omega arith), ne_eqb x 0xC1 (λ e. omega arith), lt-ltb 0xF4 x g)

pub never_not : (x : ℕ) → (x < 0xC0) ⊎ (0xC2 ≤ x) → x ≤ 0xF4 → never x ≡ false
unfolding never
never_not x h l =
    let out : (n : ℕ) → 0xC0 ≤ n → n < 0xC2 → x ≡ n → ⊥ = λ n g k e. ⊎_elim (λ m. omega arith) (λ m. omega arith) h in
    simp (ne_eqb x 0xC0 (out 0xC0 (omega arith) (omega arith)), ne_eqb x 0xC1 (out 0xC1 (omega arith) (omega arith)), le-ltb 0xF4 x l)

-- a continuation byte is wanted exactly where one stands, or exactly where none does
kept : (w : Bool) → xor w w ≡ false
unfolding xor
kept true = refl
kept false = refl

broken : (w : Bool) → xor w (not w) ≡ true
unfolding xor
broken true = refl
broken false = refl

-- a byte that breaks no rule, and one that breaks each
module _ (c b a x : ℕ) where
  no_fault : continuation x ≡ wants_continuation c b a → never x ≡ false → least_after a ≤ x → x ≤ greatest_after a → fault_mask c b a x ≡ 0
  unfolding mask breaks outside
  no_fault t n l m = simp (t, kept, n, le-ltb x (least_after a) l, le-ltb (greatest_after a) x m)

  odd_fault : continuation x ≡ not (wants_continuation c b a) → fault_mask c b a x ≡ 0 → ⊥
  unfolding mask breaks
  odd_fault t z = omega (arith, simp (t, broken) at z)

  never_fault : never x ≡ true → fault_mask c b a x ≡ 0 → ⊥
  unfolding mask breaks
  never_fault n z = omega (arith, simp (n, or-true) at z)

  range_fault : (least_after a ≤ x → x ≤ greatest_after a → ⊥) → fault_mask c b a x ≡ 0 → ⊥
  unfolding mask breaks outside
  range_fault h z =
      by_lt x (least_after a) (λ l. omega (arith, simp (lt-ltb x (least_after a) l, or-true) at z)) λ l.
      by_lt (greatest_after a) x (λ m. omega (arith, simp (lt-ltb (greatest_after a) x m, or-true) at z)) (h l)

-- ---- a text byte by byte

module _ (c b a : ℕ) where
  clean_stop : (x : ℕ) (s : List ℕ) → (fault_mask c b a x ≡ 0 → ⊥) → clean c b a (x ∷ s) ≡ false
  clean_stop x s h = simp (ne_eqb (fault_mask c b a x) 0 h)

  -- a byte where no continuation byte is wanted
  clean_first : (x : ℕ) (s : List ℕ) → a < 0xC0 → b < 0xE0 → c < 0xF0 → continuation x ≡ false → never x ≡ false → x ≤ 0xF4 → clean c b a (x ∷ s) ≡ clean b a x s
  clean_first x s ha hb hc t n u =
      simp (eq-eqb (fault_mask c b a x) 0
      (no_fault c b a x (t ∙ sym (wants_none c b a ha hb hc)) n (omega (arith, least_any a (omega arith))) (omega (arith, most_any a (omega arith)))))

  -- where one is wanted: a continuation byte in range, a continuation byte out of range, no continuation byte
  clean_tail : (s : List ℕ) → wants_continuation c b a ≡ true → continuation (get_or s 0 0) ≡ true → least_after a ≤ get_or s 0 0 → get_or s 0 0 ≤ greatest_after a
      → clean c b a s ≡ clean b a (get_or s 0 0) (drop 1 s)
  unfolding continuation
  clean_tail [] w t l m = clash t refl
  clean_tail (x ∷ s) w t l m =
      let r = tail_range x t in
      simp (eq-eqb (fault_mask c b a x) 0 (no_fault c b a x (t ∙ sym w) (never_not x (inl r.1) (omega arith)) l m))

  clean_outside : (s : List ℕ) → continuation (get_or s 0 0) ≡ true → (least_after a ≤ get_or s 0 0 → get_or s 0 0 ≤ greatest_after a → ⊥) → clean c b a s ≡ false
  unfolding continuation
  clean_outside [] t h = clash t refl
  clean_outside (x ∷ s) t h = clean_stop x s (range_fault c b a x h)

  clean_missing : (s : List ℕ) → wants_continuation c b a ≡ true → continuation (get_or s 0 0) ≡ false → clean c b a s ≡ false
  clean_missing [] w t = simp w
  clean_missing (x ∷ s) w t = clean_stop x s (odd_fault c b a x (t ∙ ap not (sym w)))

-- ---- a text character by character

-- after c, b, a, where no continuation byte is wanted, from a byte x on; what stands after the character has the same answer by both
module _ (c b a x : ℕ) (r : List ℕ) (ha : a < 0xC0) (hb : b < 0xE0) (hc : c < 0xF0)
    (past : (m c b a : ℕ) → 0 < m → a < 0xC0 → b < 0xE0 → c < 0xF0 → clean c b a (drop m (x ∷ r)) ≡ is_utf8 (drop m (x ∷ r)))
  where
    refused : 0 ≡ len_of (decode (x ∷ r)) → false ≡ is_utf8 (x ∷ r)
    refused e = sym (is_utf8_bad (x ∷ r) 0 0 e (omega arith) refl)

    no_char : decode (x ∷ r) ≡ None → false ≡ is_utf8 (x ∷ r)
    no_char e = refused (ap len_of (sym e))

    passed : (n c b a : ℕ) → 0 < n → n ≡ len_of (decode (x ∷ r)) → a < 0xC0 → b < 0xE0 → c < 0xF0 → clean c b a (drop n (x ∷ r)) ≡ is_utf8 (x ∷ r)
    passed n c b a p e ka kb kc = past n c b a p ka kb kc ∙ (rw zero-add at (is_utf8_char (x ∷ r) 0 n e (λ z. omega arith)).2)

    first : x ≤ 0xF4 → 0xC2 ≤ x → clean c b a (x ∷ r) ≡ clean b a x r
    first h g = clean_first c b a x r ha hb hc (no_tail x (inr (omega arith))) (never_not x (inr g) h) h

    by_one : x < 0x80 → clean c b a (x ∷ r) ≡ is_utf8 (x ∷ r)
    by_one h =
        clean_first c b a x r ha hb hc (no_tail x (inl h)) (never_not x (inl (omega arith)) (omega arith)) (omega arith) ∙
        passed 1 b a x (omega arith) (len_one (x ∷ r) 0 (omega arith) h) (omega arith) (omega arith) (omega arith)

    by_none : 0x80 ≤ x → x < 0xC2 → clean c b a (x ∷ r) ≡ is_utf8 (x ∷ r)
    unfolding continuation
    by_none g h =
        clean_stop c b a x r
        (by_lt x 0xC0
        (λ k. odd_fault c b a x (eq-eqb (x / 64) 2 (omega arith) ∙ ap not (sym (wants_none c b a ha hb hc))))
        (λ k. never_fault c b a x (never_low x k h))) ∙
        refused (len_no_first (x ∷ r) 0 (omega arith) g h)

    by_above : 0xF4 < x → clean c b a (x ∷ r) ≡ is_utf8 (x ∷ r)
    by_above g = clean_stop c b a x r (never_fault c b a x (never_high x g)) ∙ no_char (none_above (x ∷ r) 0 (omega arith) g)

    -- the second byte
    y : ℕ
    y = get_or r 0 0

    by_second : 0xC2 ≤ x → x ≤ 0xF4
        → (continuation y ≡ true → clean b a x r ≡ is_utf8 (x ∷ r))
        → clean c b a (x ∷ r) ≡ is_utf8 (x ∷ r)
    unfolding y
    by_second g h f =
        first h g ∙
        by_test (continuation y) f (λ e.
        clean_missing b a x r (wants_second b a x (omega arith)) e ∙ no_char (decode_alone (x ∷ r) 0 (omega arith) (omega arith) e))

    by_two : 0xC2 ≤ x → x < 0xE0 → clean c b a (x ∷ r) ≡ is_utf8 (x ∷ r)
    unfolding y
    by_two g h =
        by_second g (omega arith) (λ e.
        let l = tail_range y e in
        clean_tail b a x r (wants_second b a x (omega arith)) e (omega (arith, least_any x h)) (omega (arith, most_any x h)) ∙
        passed 2 a x y (omega arith)
        (sym (ap len_of (decode_two (x ∷ r) 0 2 (omega arith) (length_two x (omega arith) h) refl) ∙ range2 x y g h e))
        (omega arith) h (omega arith))

    -- the third byte, where the second is in its range or not
    z : ℕ
    z = get_or (drop 1 r) 0 0

    by_third : 0xE0 ≤ x → x ≤ 0xF4
        → (((x ≡ 0xE0) × (y < 0xA0)) ⊎ ((x ≡ 0xF0) × (y < 0x90)) → decode (x ∷ r) ≡ None)
        → (((x ≡ 0xED) × (0x9F < y)) ⊎ ((x ≡ 0xF4) × (0x8F < y)) → decode (x ∷ r) ≡ None)
        → (continuation y ≡ true → continuation z ≡ false → decode (x ∷ r) ≡ None)
        → (least_after x ≤ y → y ≤ greatest_after x → continuation y ≡ true → continuation z ≡ true → clean x y z (drop 2 r) ≡ is_utf8 (x ∷ r))
        → clean c b a (x ∷ r) ≡ is_utf8 (x ∷ r)
    unfolding y z
    by_third g h low high none f =
        by_second (omega arith) h (λ e.
        let k = tail_range y e in
        by_lt y (least_after x) (λ l. clean_outside b a x r e (λ p q. omega arith) ∙ no_char (low (below_least x y l))) λ l.
        by_lt (greatest_after x) y (λ m. clean_outside b a x r e (λ p q. omega arith) ∙ no_char (high (above_most x y (omega arith) m))) λ m.
        clean_tail b a x r (wants_second b a x (omega arith)) e l m ∙
        by_test (continuation z)
        (λ n.
        clean_tail a x y (drop 1 r) (wants_third a x y (omega arith) g) n (omega (arith, least_any y (omega arith))) (omega (arith, tail_range z n, most_any y (omega arith))) ∙
        rw (drop-drop 1 1 r) (f l m e n))
        (λ n. clean_missing a x y (drop 1 r) (wants_third a x y (omega arith) g) n ∙ no_char (none e n)))

    by_three : 0xE0 ≤ x → x < 0xF0 → clean c b a (x ∷ r) ≡ is_utf8 (x ∷ r)
    unfolding y z
    by_three g h =
        let is : decode (x ∷ r) ≡ decode3 x y z = rw (get_or-drop 1 r 0 0) (decode_three (x ∷ r) 0 3 (omega arith) (length_three x g h) refl) in
        by_third g (omega arith)
        (⊎_elim (λ p. is ∙ overlong3 x y z p.0 p.1) (λ p. absurd (omega arith)))
        (⊎_elim (λ p. is ∙ surrogate3 x y z p.0 p.1) (λ p. absurd (omega arith)))
        (λ e n. is ∙ no_third3 x y z e n)
        (λ l m e n.
        passed 3 x y z (omega arith)
        (sym (ap len_of is ∙ range3 x y z g h (from_least x y l).0 (to_most x y m).0 e n))
        (tail_range z n).1 (omega (arith, tail_range y e)) h)

    -- the fourth byte
    w : ℕ
    w = get_or (drop 2 r) 0 0

    by_four : 0xF0 ≤ x → x ≤ 0xF4 → clean c b a (x ∷ r) ≡ is_utf8 (x ∷ r)
    unfolding y z w
    by_four g h =
        let is : decode (x ∷ r) ≡ decode4 x y z w =
        rw (get_or-drop 1 r 0 0, get_or-drop 2 r 0 0) (decode_four (x ∷ r) 0 4 (omega arith) (length_four x g (omega arith)) refl) in
        by_third (omega arith) h
        (⊎_elim (λ p. absurd (omega arith)) (λ p. is ∙ overlong4 x y z w p.0 p.1))
        (⊎_elim (λ p. absurd (omega arith)) (λ p. is ∙ above4 x y z w (omega arith) (omega arith) (λ e. p.1)))
        (λ e n. is ∙ no_third4 x y z w e n)
        (λ l m e n.
        let ky = tail_range y e in
        let kz = tail_range z n in
        let k : wants_continuation x y z ≡ true = wants_fourth x y z (omega arith) (omega arith) g in
        by_test (continuation w)
        (λ o.
        clean_tail x y z (drop 2 r) k o (omega (arith, least_any z (omega arith))) (omega (arith, tail_range w o, most_any z (omega arith))) ∙
        rw (drop-drop 1 2 r)
        (passed 4 y z w (omega arith)
        (sym (ap len_of is ∙ range4 x y z w g h (from_least x y l).1 (to_most x y m).1 e n o))
        (tail_range w o).1 (omega arith) (omega arith)))
        (λ o. clean_missing x y z (drop 2 r) k o ∙ no_char (is ∙ no_fourth4 x y z w e n o)))

    by_char : clean c b a (x ∷ r) ≡ is_utf8 (x ∷ r)
    by_char =
        by_lt x 0x80 by_one λ k.
        by_lt x 0xC2 (by_none k) λ k.
        by_lt x 0xE0 (by_two k) λ k.
        by_lt x 0xF0 (by_three k) λ k.
        by_lt 0xF4 x by_above (by_four k)

clean_nil : (c b a : ℕ) → a < 0xC0 → b < 0xE0 → c < 0xF0 → clean c b a [] ≡ is_utf8 []
clean_nil c b a ha hb hc = rw (wants_none c b a ha hb hc) (sym (is_utf8_end [] 0 (omega arith)))

clean_within : (k : ℕ) (s : List ℕ) → length s ≤ k → (c b a : ℕ) → a < 0xC0 → b < 0xE0 → c < 0xF0 → clean c b a s ≡ is_utf8 s
clean_within zero [] h = clean_nil
clean_within zero (x ∷ r) h = absurd (not-suc-le-zero h)
clean_within (suc k) [] h = clean_nil
clean_within (suc k) (x ∷ r) h =
    λ c b a ha hb hc.
    by_char c b a x r ha hb hc (λ m c b a p. clean_within k (drop m (x ∷ r)) (omega (arith, length-drop m (x ∷ r))) c b a)

-- after three bytes that want no continuation byte the two tests have one answer
pub clean_utf8 : (s : List ℕ) (c b a : ℕ) → a < 0xC0 → b < 0xE0 → c < 0xF0 → clean c b a s ≡ is_utf8 s
clean_utf8 s = clean_within (length s) s (omega arith)

-- so of a whole text, before which zeros stand for no bytes
pub clean_text : (s : List ℕ) → clean 0 0 0 s ≡ is_utf8 s
clean_text s = clean_utf8 s 0 0 0 (omega arith) (omega arith) (omega arith)
