-- The characters of a UTF-8 string are written byte by byte, and how many bytes are written for one.
-- Assumes nothing.
use mathlib.Core.Path.{◌≡◌, refl, sym, ap, ◌∙◌, subst}
use mathlib.Core.Bool.{cond}
use mathlib.Core.List.{List, [], ◌∷◌, ◌++◌, append_assoc, append-nil}
use Prim.Native.Nat.{ℕ, zero, suc, ◌≤◌, ◌<◌}
use native.Mathlib.Omega.{arith}
use native.Mathlib.Nat.{not-suc-le-zero}
use lib.Dec.{ltb}
use lib.ListN.{length, drop, length-drop}
use borrow.Author.Tests.{lt-ltb, le-ltb}
use Rattle.utf8.specs.Utf8.{Utf8, encode}
use Rattle.utf8.specs.Decode.{decode}
use Rattle.std.specs.Prelude.{Option, Some, None}
use Rattle.utf8.proofs.Laws.{is_row1, by_row, encode_length, Found, decode_found}
use Rattle.utf8.proofs.Text.{utf8_bad, utf8_rest}
use Rattle.form.specs.Escapes.{ascii_form, char_form, char_forms_within, char_forms}
use Rattle.form.proofs.Fit.{Each}
use Rattle.form.proofs.Bytes.{cond_lt}

-- one byte of a string of kind 5: from 128 up it stands as itself
abbrev pub text_form : ℕ → ℕ → List ℕ
text_form q b = cond (ltb b 128) (ascii_form q b) (b ∷ [])

abbrev pub text_forms : ℕ → List ℕ → List ℕ
text_forms q [] = []
text_forms q (b ∷ v) = text_form q b ++ text_forms q v

-- ---- character by character is byte by byte

-- a character from 128 up has no byte below
pub high_bytes : (c : ℕ) → 128 ≤ c → Each (λ b. 128 ≤ b) (encode c)
high_bytes c g =
    by_row c (Each (λ b. 128 ≤ b)) (λ h. absurd (omega arith)) (λ _ h. (omega arith, (omega arith, tt)))
    (λ _ h. (omega arith, (omega arith, (omega arith, tt))))
    (λ _. (omega arith, (omega arith, (omega arith, (omega arith, tt)))))

module _ (q : ℕ) where
  text_append : (u v : List ℕ) → text_forms q (u ++ v) ≡ text_forms q u ++ text_forms q v
  text_append [] v = refl
  text_append (b ∷ u) v = ap (λ (t : List ℕ). text_form q b ++ t) (text_append u v) ∙ sym (append_assoc (text_form q b) (text_forms q u) (text_forms q v))

  text_high : (l : List ℕ) → Each (λ b. 128 ≤ b) l → text_forms q l ≡ l
  text_high [] h = refl
  text_high (b ∷ l) h = rw (le-ltb b 128 h.0) (ap (λ (t : List ℕ). b ∷ t) (text_high l h.1))

  char_text : (c : ℕ) → char_form q c ≡ text_forms q (encode c)
  unfolding char_form
  char_text c =
      cond_lt (λ (t : List ℕ). t ≡ text_forms q (encode c)) c 128
      (λ h. rw (is_row1 c h, lt-ltb c 128 h) (sym (append-nil (ascii_form q c))))
      (λ g. sym (text_high (encode c) (high_bytes c g)))

  within : (k : ℕ) (v : List ℕ) → length v ≤ k → Utf8 v → char_forms_within q k v ≡ text_forms q v
  unfolding char_forms_within
  within zero [] h u = refl
  within zero (a ∷ r) h u = absurd (not-suc-le-zero h)
  within (suc k) [] h u = refl
  within (suc k) (a ∷ r) h u = go (decode (a ∷ r)) refl (λ n p w. within k (drop n (a ∷ r)) (omega (arith, length-drop n (a ∷ r))) w)
    where
      go : (d : Option (ℕ × ℕ)) → decode (a ∷ r) ≡ d
          → ((n : ℕ) → 0 < n → Utf8 (drop n (a ∷ r)) → char_forms_within q k (drop n (a ∷ r)) ≡ text_forms q (drop n (a ∷ r)))
          → elim d [ Some found ↦ char_form q found.0 ++ char_forms_within q k (drop found.1 (a ∷ r)) | None ↦ [] ] ≡ text_forms q (a ∷ r)
      go None e f = absurd (let z = ap length (utf8_bad (a ∷ r) u e) in omega arith)
      go (Some (c, n)) e f =
          let g : Found (a ∷ r) (Some (c, n)) = subst (λ (d : Option (ℕ × ℕ)). Found (a ∷ r) d) e (decode_found (a ∷ r)) in
          let p = encode_length c in
          let w : Utf8 (drop n (a ∷ r)) = utf8_rest c (drop n (a ∷ r)) g.0 (subst (λ (l : List ℕ). Utf8 l) (sym g.1) u) in
          ap (λ (t : List ℕ). t ++ char_forms_within q k (drop n (a ∷ r))) (char_text c)
          ∙ ap (λ (t : List ℕ). text_forms q (encode c) ++ t) (f n (omega (arith, g.2)) w)
          ∙ sym (text_append (encode c) (drop n (a ∷ r))) ∙ ap (text_forms q) g.1

pub by_bytes : (v : List ℕ) → Utf8 v → char_forms 34 v ≡ text_forms 34 v
unfolding char_forms
by_bytes v u = within 34 (length v) v (omega arith) u
