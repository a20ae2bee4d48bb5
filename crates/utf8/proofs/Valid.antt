-- The test `is_utf8` holds exactly of the texts that are UTF-8.
-- Assumes nothing.
use mathlib.Core.Path.{◌≡◌, refl, sym, ap, ◌∙◌, subst}
use mathlib.Core.Logic.{◌↔◌}
use mathlib.Core.Bool.{Bool, true, false}
use mathlib.Core.List.{List, [], ◌∷◌}
use Prim.Native.Nat.{ℕ, ◌<◌, zero, suc, ◌+◌, ◌≤◌}
use native.Mathlib.Omega.{arith}
use native.Mathlib.Nat.{not-suc-le-zero}
use lib.ListN.{drop_of_length-le, get_or, length, drop, length-drop}
use Rattle.scan.proofs.Cases.{clash}
use Rattle.utf8.specs.Utf8.{Utf8}
use Rattle.utf8.specs.Decode.{decode, len_of}
use Rattle.utf8.specs.Valid.{chars_within, is_utf8}
use Rattle.std.specs.Prelude.{Option, Some, None}
use Rattle.utf8.proofs.Laws.{encode_length, Found, decode_found}
use Rattle.utf8.proofs.At.{found_bounds, found_utf8, bad_utf8}
use Rattle.utf8.proofs.Text.{utf8_front, utf8_nil, utf8_char, utf8_rest, utf8_bad}

within_right : (k : ℕ) (t : List ℕ) → length t ≤ k → (chars_within k t ≡ true) ↔ Utf8 t
unfolding chars_within
within_right zero [] h = (λ e. utf8_nil, λ u. refl)
within_right zero (a ∷ r) h = absurd (not-suc-le-zero h)
within_right (suc k) [] h = (λ e. utf8_nil, λ u. refl)
within_right (suc k) (a ∷ r) h = go (decode (a ∷ r)) refl (λ n p. within_right k (drop n (a ∷ r)) (omega (arith, length-drop n (a ∷ r))))
  where
    go : (d : Option (ℕ × ℕ)) → decode (a ∷ r) ≡ d → ((n : ℕ) → 0 < n → (chars_within k (drop n (a ∷ r)) ≡ true) ↔ Utf8 (drop n (a ∷ r)))
        → (elim d [ Some found ↦ chars_within k (drop found.1 (a ∷ r)) | None ↦ false ] ≡ true) ↔ Utf8 (a ∷ r)
    go None e f = (λ x. clash x refl, λ u. absurd (let z = ap length (utf8_bad (a ∷ r) u e) in omega arith))
    go (Some (s, n)) e f =
        let g : Found (a ∷ r) (Some (s, n)) = subst (λ (d : Option (ℕ × ℕ)). Found (a ∷ r) d) e (decode_found (a ∷ r)) in
        let p = encode_length s in
        let step = f n (omega (arith, g.2)) in (
          (λ x. subst (λ (l : List ℕ). Utf8 l) g.1 (utf8_char s (drop n (a ∷ r)) g.0 (step.0 x))),
          (λ u. step.1 (utf8_rest s (drop n (a ∷ r)) g.0 (subst (λ (l : List ℕ). Utf8 l) (sym g.1) u))),
        )

pub is_utf8_right : (t : List ℕ) → (is_utf8 t ≡ true) ↔ Utf8 t
unfolding is_utf8
is_utf8_right t = within_right (length t) t (omega arith)

-- an answer that is right as `is_utf8` is right is `is_utf8`'s
pub same_answer : (b : Bool) (t : List ℕ) → (b ≡ true) ↔ Utf8 t → b ≡ is_utf8 t
same_answer b t r = go b (is_utf8 t) r (is_utf8_right t)
  where
    go : (b c : Bool) → (b ≡ true) ↔ Utf8 t → (c ≡ true) ↔ Utf8 t → b ≡ c
    go true true f g = refl
    go true false f g = sym (g.1 (f.0 refl))
    go false true f g = f.1 (g.0 refl)
    go false false f g = refl

-- so it is the same of texts that are UTF-8 together
same_test : (s t : List ℕ) → Utf8 s ↔ Utf8 t → is_utf8 s ≡ is_utf8 t
same_test s t f = let r = is_utf8_right s in same_answer _ t (λ x. f.0 (r.0 x), λ u. r.1 (f.1 u))

-- ---- the test along a text

pub is_utf8_end : (t : List ℕ) (at : ℕ) → length t ≤ at → is_utf8 (drop at t) ≡ true
is_utf8_end t at h = rw (drop_of_length-le t h) ((is_utf8_right []).1 utf8_nil)

pub is_utf8_front : (t : List ℕ) (n : ℕ) → ((k : ℕ) → k < n → get_or t k 0 < 0x80) → is_utf8 (drop n t) ≡ is_utf8 t
is_utf8_front t n h = same_test _ _ (utf8_front t n h)

pub is_utf8_ascii : (t : List ℕ) → ((k : ℕ) → k < length t → get_or t k 0 < 0x80) → true ≡ is_utf8 t
is_utf8_ascii t h = sym (is_utf8_end t (length t) (omega arith)) ∙ is_utf8_front t (length t) h

-- a character of n bytes is passed, and ends inside the text; where there is none, the text is not UTF-8 from there
module _ (t : List ℕ) (at n : ℕ) (is : n ≡ len_of (decode (drop at t))) where
  pub is_utf8_char : (n ≡ 0 → ⊥) → (0 < n) × (at + n ≤ length t) × (is_utf8 (drop (at + n) t) ≡ is_utf8 (drop at t))
  is_utf8_char some = go (decode (drop at t)) refl is
    where
      go : (d : Option (ℕ × ℕ)) → decode (drop at t) ≡ d → n ≡ len_of d → (0 < n) × (at + n ≤ length t) × (is_utf8 (drop (at + n) t) ≡ is_utf8 (drop at t))
      go None e l = absurd (some l)
      go (Some (s, m)) e l = let b = found_bounds t at s m e in rw l (b.0, b.1, same_test _ _ (found_utf8 t at s m e))

  pub is_utf8_bad : at < length t → n ≡ 0 → is_utf8 (drop at t) ≡ false
  is_utf8_bad h none = go (decode (drop at t)) refl is
    where
      go : (d : Option (ℕ × ℕ)) → decode (drop at t) ≡ d → n ≡ len_of d → is_utf8 (drop at t) ≡ false
      go None e l = sym (same_answer false _ (λ x. clash x refl, λ u. absurd (bad_utf8 t at h e u)))
      go (Some (s, m)) e l = absurd (omega (arith, found_bounds t at s m e))
