-- The decoder at an offset of a text: what the code reads there, and what it may say of the text.
-- Assumes nothing.
use mathlib.Core.Path.{◌≡◌, refl, sym, ap, ◌∙◌, subst}
use mathlib.Core.Logic.{◌↔◌}
use mathlib.Core.Bool.{false}
use mathlib.Core.List.{List, [], ◌∷◌, ◌++◌}
use Prim.Native.Nat.{ℕ, ◌+◌, ◌-◌, ◌/◌, ◌≤◌, ◌<◌}
use native.Mathlib.Omega.{arith}
use native.Mathlib.Numerals.{add-one}
use lib.ListN.{length, get_or, drop, length-append, length-drop, drop_of_length-le}
use lib.Dec.{eqb}
use lib.Seq.{drop-cons, drop-drop, get_or-drop}
use borrow.Author.Tests.{eq-eqb, ne_eqb}
use Rattle.scan.proofs.Cases.{cond_in, cond_lt, cond_eq}
use Rattle.utf8.specs.Utf8.{Scalar, encode, Utf8}
use Rattle.utf8.specs.Decode.{length_from, decode2, decode3, decode4, rest2, rest3, rest4, decode_by, decode}
use Rattle.utf8.specs.Cut.{continuation}
use Rattle.std.specs.Prelude.{Option, Some, None}
use Rattle.utf8.proofs.Laws.{encode_length, Found, decode_found}
use Rattle.utf8.proofs.Text.{utf8_char, utf8_rest, utf8_bad}

-- a text that is too short for the length that its first byte says
short_rest : (n a : ℕ) (r : List ℕ) → (n ≡ 1 → ⊥) → length r + 1 < n → decode_by n a r ≡ None
unfolding decode_by rest2 rest3 rest4
short_rest n a r k h =
    let P : Option (ℕ × ℕ) → Type 0 = λ d. d ≡ None in
    cond_eq P n 1 (λ e. absurd (k e)) λ e1.
    cond_eq P n 2 (λ e. two r (omega arith)) λ e2.
    cond_eq P n 3 (λ e. three r (omega arith)) λ e3.
    cond_eq P n 4 (λ e. four r (omega arith)) λ e4. refl
  where
    two : (r : List ℕ) → length r < 1 → rest2 a r ≡ None
    two [] h = refl
    two (b ∷ r) h = absurd (omega arith)

    three : (r : List ℕ) → length r < 2 → rest3 a r ≡ None
    three [] h = refl
    three (b ∷ []) h = refl
    three (b ∷ c ∷ r) h = absurd (omega arith)

    four : (r : List ℕ) → length r < 3 → rest4 a r ≡ None
    four [] h = refl
    four (b ∷ []) h = refl
    four (b ∷ c ∷ []) h = refl
    four (b ∷ c ∷ d ∷ r) h = absurd (omega arith)

-- a byte after the end is read as 0, which continues no character
padded2 : (a : ℕ) (r : List ℕ) → rest2 a r ≡ decode2 a (get_or r 0 0)
unfolding rest2 decode2
padded2 a [] = refl
padded2 a (b ∷ r) = refl

padded3 : (a : ℕ) (r : List ℕ) → rest3 a r ≡ decode3 a (get_or r 0 0) (get_or r 1 0)
unfolding rest3 decode3
padded3 a [] = refl
padded3 a (b ∷ []) = cond_in (λ (d : Option (ℕ × ℕ)). None ≡ d) (eqb (b / 64) 2) (λ e. refl) (λ e. refl)
padded3 a (b ∷ c ∷ r) = refl

padded4 : (a : ℕ) (r : List ℕ) → rest4 a r ≡ decode4 a (get_or r 0 0) (get_or r 1 0) (get_or r 2 0)
unfolding rest4 decode4
padded4 a [] = refl
padded4 a (b ∷ []) = cond_in (λ (d : Option (ℕ × ℕ)). None ≡ d) (eqb (b / 64) 2) (λ e. refl) (λ e. refl)
padded4 a (b ∷ c ∷ []) =
    cond_in (λ (d : Option (ℕ × ℕ)). None ≡ d) (eqb (b / 64) 2) (λ e. cond_in (λ (d : Option (ℕ × ℕ)). None ≡ d) (eqb (c / 64) 2) (λ f. refl) (λ f. refl)) (λ e. refl)
padded4 a (b ∷ c ∷ d ∷ r) = refl

-- a byte of the rest, by its offset in the text
in_rest : (t : List ℕ) (at k m : ℕ) → at + 1 + k ≡ m → get_or (drop (at + 1) t) k 0 ≡ get_or t m 0
in_rest t at k m e = rw (get_or-drop, e)

module _ (t : List ℕ) (at n : ℕ) (within : at < length t) (is : n ≡ length_from (get_or t at 0)) where
  by_length : decode (drop at t) ≡ decode_by n (get_or t at 0) (drop (at + 1) t)
  unfolding decode
  by_length = rw (drop-cons t at 0, is, add-one) refl

  pub decode_one : n ≡ 1 → decode (drop at t) ≡ Some (get_or t at 0, 1)
  unfolding decode_by
  decode_one e = by_length ∙ simp (eq-eqb n 1 e)

  pub decode_short : (n ≡ 1 → ⊥) → length t - at < n → decode (drop at t) ≡ None
  decode_short k h = by_length ∙ short_rest n (get_or t at 0) (drop (at + 1) t) k (omega (arith, length-drop (at + 1) t))

  pub decode_two : n ≡ 2 → decode (drop at t) ≡ decode2 (get_or t at 0) (get_or t (at + 1) 0)
  unfolding decode_by
  decode_two e = by_length ∙ rw (e, padded2, in_rest t at 0 (at + 1) (omega arith))

  pub decode_three : n ≡ 3 → decode (drop at t) ≡ decode3 (get_or t at 0) (get_or t (at + 1) 0) (get_or t (at + 2) 0)
  unfolding decode_by
  decode_three e = by_length ∙ rw (e, padded3, in_rest t at 0 (at + 1) (omega arith), in_rest t at 1 (at + 2) (omega arith))

  pub decode_four : n ≡ 4 → decode (drop at t) ≡ decode4 (get_or t at 0) (get_or t (at + 1) 0) (get_or t (at + 2) 0) (get_or t (at + 3) 0)
  unfolding decode_by
  decode_four e =
      by_length ∙ rw (e, padded4, in_rest t at 0 (at + 1) (omega arith), in_rest t at 1 (at + 2) (omega arith), in_rest t at 2 (at + 3) (omega arith))

  pub decode_none : (n ≡ 1 → ⊥) → (n ≡ 2 → ⊥) → (n ≡ 3 → ⊥) → (n ≡ 4 → ⊥) → decode (drop at t) ≡ None
  unfolding decode_by
  decode_none e1 e2 e3 e4 = by_length ∙ simp (ne_eqb n 1 e1, ne_eqb n 2 e2, ne_eqb n 3 e3, ne_eqb n 4 e4)

-- a byte that needs another after it, and has no continuation byte there
pub decode_alone : (t : List ℕ) (at : ℕ) → at < length t → 0x80 ≤ get_or t at 0 → continuation (get_or t (at + 1) 0) ≡ false → decode (drop at t) ≡ None
unfolding decode_by length_from continuation decode2 decode3 decode4
decode_alone t at h g e =
    let a = get_or t at 0 in
    let r : List ℕ = drop (at + 1) t in
    let f : eqb (get_or r 0 0 / 64) 2 ≡ false = rw (in_rest t at 0 (at + 1) (omega arith)) e in
    let P : ℕ → Type 0 = λ n. decode_by n a r ≡ None in
    by_length t at (length_from a) h refl ∙
    cond_lt P a 0x80 (λ k. absurd (omega arith)) λ k.
    cond_lt P a 0xC0 (λ k. refl) λ k.
    cond_lt P a 0xE0 (λ k. padded2 a r ∙ rw f) λ k.
    cond_lt P a 0xF0 (λ k. padded3 a r ∙ rw f) λ k.
    cond_lt P a 0xF8 (λ k. padded4 a r ∙ rw f) λ k. refl

pub decode_past : (t : List ℕ) (at : ℕ) → length t ≤ at → decode (drop at t) ≡ None
unfolding decode
decode_past t at h = rw (drop_of_length-le t h) refl

-- ---- what a character that is found at an offset says of the text

module _ (t : List ℕ) (at s n : ℕ) (e : decode (drop at t) ≡ Some (s, n)) where
  pub found_at : Scalar s × (encode s ++ drop (at + n) t ≡ drop at t) × (length (encode s) ≡ n)
  found_at =
      let f : Found (drop at t) (Some (s, n)) = subst (λ (d : Option (ℕ × ℕ)). Found (drop at t) d) e (decode_found (drop at t)) in
      (f.0, ap (λ (l : List ℕ). encode s ++ l) (sym (drop-drop n at t)) ∙ f.1, f.2)

  pub found_bounds : (0 < n) × (at + n ≤ length t)
  found_bounds =
      let f = found_at in
      let p = encode_length s in
      omega (arith, simp length-append at (ap length f.1), length-drop at t, length-drop (at + n) t)

  pub found_utf8 : Utf8 (drop (at + n) t) ↔ Utf8 (drop at t)
  found_utf8 =
      let f = found_at in (
        (λ u. subst (λ (l : List ℕ). Utf8 l) f.1 (utf8_char s (drop (at + n) t) f.0 u)),
        (λ u. utf8_rest s (drop (at + n) t) f.0 (subst (λ (l : List ℕ). Utf8 l) (sym f.1) u)),
      )

-- no character at an offset inside the text: the text is not UTF-8 from there
pub bad_utf8 : (t : List ℕ) (at : ℕ) → at < length t → decode (drop at t) ≡ None → Utf8 (drop at t) → ⊥
bad_utf8 t at h e u = omega (arith, ap length (utf8_bad (drop at t) u e), length-drop at t)
