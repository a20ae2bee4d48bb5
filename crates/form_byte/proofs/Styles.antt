-- The forms of a style: by the tests of the code, one after another, how long they are, and that they are those of crate form.
-- Assumes nothing.
use mathlib.Core.Path.{◌≡◌, refl, sym, ap, ◌∙◌}
use mathlib.Core.Bool.{Bool, true, false, ◌&&◌, and-false}
use mathlib.Core.Logic.{◌⊎◌, inl, inr}
use mathlib.Core.List.{List, [], ◌∷◌, ◌++◌, append_assoc, append-nil}
use Prim.Native.Nat.{ℕ, ◌+◌, ◌-◌, ◌*◌, ◌≤◌, ◌<◌}
use native.Mathlib.Omega.{arith}
use native.Mathlib.Numerals.{add-one}
use lib.Dec.{ltb, leb, eqb}
use lib.ListN.{length, take, drop, get_or, length-append, take-append-drop, drop_of_length-le}
use lib.Seq.{take-suc, take-add, drop-cons}
use borrow.Author.Tests.{lt-ltb, le-ltb, le-leb, lt-leb, ne_eqb}
use Rattle.buffer.specs.Digits.{hex_digits}
use Rattle.scan.specs.Run.{run, All}
use Rattle.scan.proofs.Cases.{cond_in, cond_lt, cond_eq, clash}
use Rattle.scan.proofs.Runs.{run_all}
use Rattle.utf8.specs.Utf8.{Utf8, Scalar, encode}
use Rattle.utf8.proofs.Laws.{is_row1}
use Rattle.form.specs.Escapes.{escape_letter, x_form, ascii_form, char_form, byte_form, char_forms, byte_forms}
use Rattle.form.proofs.Fit.{Each}
use Rattle.form.proofs.ByBytes.{text_forms, high_bytes, by_bytes}
use Rattle.form_byte.specs.Styled.{high_form, styled_form, styled_forms, extra_of, extras_of, letter_of, itself}
use Rattle.std.specs.Prelude.{Option, Some, None}

-- an `\x` escape has four bytes
pub x_length : (b : ℕ) → length (x_form b) ≡ 4
unfolding hex_digits
x_length b = refl

module _ (w : Bool) (q : ℕ) where
  -- ---- one byte, by the tests of the code

  pub is_high : (b : ℕ) → 127 < b → styled_form w q b ≡ high_form w b
  unfolding styled_form
  is_high b h = simp (le-ltb b 128 (omega arith))

  pub is_letter : (b l : ℕ) → b ≤ 127 → letter_of q b ≡ Some l → styled_form w q b ≡ 92 ∷ l ∷ []
  unfolding styled_form ascii_form letter_of
  is_letter b l h =
      cond_eq (λ (o : Option ℕ). o ≡ Some l → styled_form w q b ≡ 92 ∷ l ∷ []) (escape_letter q b) 0
      (λ z e. absurd cc)
      (λ n e. let is : escape_letter q b ≡ l = cc in simp (lt-ltb b 128 (omega arith), is, ne_eqb l 0 (λ z. n (is ∙ z))))

  no_letter : (b : ℕ) → letter_of q b ≡ None → escape_letter q b ≡ 0
  unfolding letter_of
  no_letter b = cond_eq (λ (o : Option ℕ). o ≡ None → escape_letter q b ≡ 0) (escape_letter q b) 0 (λ z e. z) (λ n e. absurd cc)

  pub is_plain : (b : ℕ) → 32 ≤ b → b < 127 → letter_of q b ≡ None → styled_form w q b ≡ b ∷ []
  unfolding styled_form ascii_form
  is_plain b lo hi e = simp (lt-ltb b 128 (omega arith), no_letter b e, le-leb 32 b lo, lt-ltb b 127 hi)

  pub is_x : (b : ℕ) → b ≤ 127 → ((b < 32) ⊎ (127 ≤ b)) → letter_of q b ≡ None → styled_form w q b ≡ x_form b
  unfolding styled_form ascii_form
  is_x b h (inl lo) e = simp (lt-ltb b 128 (omega arith), no_letter b e, lt-leb 32 b lo)
  is_x b h (inr hi) e = simp (lt-ltb b 128 (omega arith), no_letter b e, le-ltb b 127 hi, and-false)

  -- a byte that is its own form
  pub is_itself : (b : ℕ) → itself w q b ≡ true → styled_form w q b ≡ b ∷ []
  unfolding itself escape_letter letter_of
  is_itself b =
      let P : Bool → Type 0 = λ t. t ≡ true → styled_form w q b ≡ b ∷ [] in
      cond_lt P b 32 (λ h t. clash t refl)
      (λ h. cond_eq P b 92 (λ e t. clash t refl)
      (λ n. cond_eq P b q (λ e t. clash t refl)
      (λ m. cond_lt P b 127
      (λ l t. is_plain b h l
      (simp (ne_eqb b 92 n, ne_eqb b 10 (λ e. omega arith), ne_eqb b 13 (λ e. omega arith), ne_eqb b 9 (λ e. omega arith), ne_eqb b 0 (λ e. omega arith), ne_eqb b q m)))
      (λ l. cond_eq P b 127 (λ e t. clash t refl) (λ o t. is_high b (omega arith) ∙ rw t)))))

  -- ---- all of them, one after another

  pub forms_append : (u v : List ℕ) → styled_forms w q (u ++ v) ≡ styled_forms w q u ++ styled_forms w q v
  forms_append [] v = refl
  forms_append (b ∷ u) v = rw (forms_append u v) (sym (append_assoc (styled_form w q b) (styled_forms w q u) (styled_forms w q v)))

  pub forms_one : (b : ℕ) → styled_forms w q (b ∷ []) ≡ styled_form w q b
  forms_one b = append-nil (styled_form w q b)

  -- those that are their own forms
  themselves : (v : List ℕ) → All (itself w q) v → styled_forms w q v ≡ v
  themselves [] h = refl
  themselves (b ∷ v) h = rw (is_itself b h.0, themselves v h.1)

  -- an ASCII character is a byte
  pub forms_ascii : (c : ℕ) → c < 128 → styled_forms w q (encode c) ≡ styled_form w q c
  forms_ascii c h = rw (is_row1 c h) (forms_one c)

  -- one byte more of a value
  pub forms_more : (v : List ℕ) (i : ℕ) → i < length v
      → styled_forms w q (take (i + 1) v) ≡ styled_forms w q (take i v) ++ styled_form w q (get_or v i 0)
  forms_more v i h = rw (add-one, take-suc v i 0 h, forms_append) (simp append-nil)

  -- the run at i of bytes that are their own forms, up to e
  pub forms_run : (v : List ℕ) (i e : ℕ) → e ≡ i + run (itself w q) (drop i v)
      → styled_forms w q (take e v) ≡ styled_forms w q (take i v) ++ take (e - i) (drop i v)
  forms_run v i e h =
      let n = run (itself w q) (drop i v) in
      let size : e - i ≡ n = omega arith in
      rw (size, h, take-add i n v, forms_append, themselves (take n (drop i v)) (run_all (itself w q) (drop i v)))

  -- what is written so far and the next piece fit where the whole does
  pub forms_fit : (v : List ℕ) (e : ℕ) (p r : List ℕ) → styled_forms w q (take e v) ≡ p ++ r → length p + length r ≤ length (styled_forms w q v)
  forms_fit v e p r h =
      let whole : length (styled_forms w q v) ≡ (length p + length r) + length (styled_forms w q (drop e v)) =
      ap (λ (l : List ℕ). length (styled_forms w q l)) (sym (take-append-drop e v)) ∙ rw (forms_append, h) (simp length-append) in
      omega arith

  -- ---- how long they are

  pub form_short : (b : ℕ) → length (styled_form w q b) ≤ 4
  unfolding styled_form ascii_form
  form_short b =
      let P : List ℕ → Type 0 = λ l. length l ≤ 4 in
      let x : P (x_form b) = omega (arith, x_length b) in
      cond_in P (ltb b 128)
      (λ e. cond_in P (eqb (escape_letter q b) 0)
      (λ f. cond_in P (leb 32 b && ltb b 127) {x = b ∷ []} {y = x_form b} (λ g. omega arith) (λ g. x)) (λ f. omega arith))
      (λ e. cond_in P w (λ f. omega arith) (λ f. x))

  -- what a measurer returns
  pub measured : (b n : ℕ) → n ≡ length (styled_form w q b) → (n ≡ length (styled_form w q b)) × (n ≤ 4)
  measured b n e = (e, omega (arith, e, form_short b))

  pub forms_short : (v : List ℕ) → length (styled_forms w q v) ≤ 4 * length v
  forms_short [] = omega arith
  forms_short (b ∷ v) = rw length-append (omega (arith, form_short b, forms_short v))

  pub all_measured : (v : List ℕ) (n : ℕ) → n ≡ length (styled_forms w q v) → (n ≡ length (styled_forms w q v)) × (n ≤ 4 * length v)
  all_measured v n e = (e, omega (arith, e, forms_short v))

  -- ---- by what each byte has more than one

  form_some : (b : ℕ) → 1 ≤ length (styled_form w q b)
  unfolding styled_form ascii_form
  form_some b =
      let P : List ℕ → Type 0 = λ l. 1 ≤ length l in
      let x : P (x_form b) = omega (arith, x_length b) in
      cond_in P (ltb b 128)
      (λ e. cond_in P (eqb (escape_letter q b) 0)
      (λ f. cond_in P (leb 32 b && ltb b 127) {x = b ∷ []} {y = x_form b} (λ g. omega arith) (λ g. x)) (λ f. omega arith))
      (λ e. cond_in P w (λ f. omega arith) (λ f. x))

  -- a byte's length is one and what it has more
  pub extra_is : (b n : ℕ) → n ≡ length (styled_form w q b) → (1 ≤ n) × (n - 1 ≡ extra_of w q b) × (n - 1 ≤ 3)
  extra_is b n e = (omega (arith, form_some b), omega arith, omega (arith, form_short b))

  -- and so is that of all
  pub forms_extras : (v : List ℕ) → length (styled_forms w q v) ≡ length v + extras_of w q v
  forms_extras [] = refl
  forms_extras (b ∷ v) = rw length-append (omega (arith, form_some b, forms_extras v))

  -- a sum goes on by one byte, and of two parts is that of each
  pub extras_more : (v : List ℕ) (i n : ℕ) → i < length v → n + extra_of w q (get_or v i 0) + extras_of w q (drop (i + 1) v) ≡ n + extras_of w q (drop i v)
  extras_more v i n h = rw (drop-cons v i 0, add-one) (omega arith)

  pub extras_end : (v : List ℕ) (i n : ℕ) → length v ≤ i → n + extras_of w q (drop i v) ≡ n
  extras_end v i n h = rw (drop_of_length-le v h) (omega arith)

  pub extras_append : (u v : List ℕ) → extras_of w q (u ++ v) ≡ extras_of w q u + extras_of w q v
  extras_append [] v = omega arith
  extras_append (b ∷ u) v = omega (arith, extras_append u v)

  pub extras_short : (v : List ℕ) → extras_of w q v ≤ 3 * length v
  extras_short [] = omega arith
  extras_short (b ∷ v) = omega (arith, form_short b, extras_short v)

-- ---- a character above 127

high_wide : (q : ℕ) (l : List ℕ) → Each (λ b. 128 ≤ b) l → styled_forms true q l ≡ l
high_wide q [] h = refl
high_wide q (b ∷ l) h = rw (is_high true q b (omega (arith, h.0))) (ap (λ (t : List ℕ). b ∷ t) (high_wide q l h.1))

high_escaped : (q : ℕ) (l : List ℕ) → Each (λ b. 128 ≤ b) l → length (styled_forms false q l) ≡ 4 * length l
high_escaped q [] h = refl
high_escaped q (b ∷ l) h = rw (is_high false q b (omega (arith, h.0)), length-append) (omega (arith, x_length b, high_escaped q l h.1))

-- it stands as itself, or each of its bytes has four
pub char_wide : (q c : ℕ) → 128 ≤ c → styled_forms true q (encode c) ≡ encode c
char_wide q c g = high_wide q (encode c) (high_bytes c g)

pub char_escaped : (q c : ℕ) → 128 ≤ c → length (styled_forms false q (encode c)) ≡ 4 * length (encode c)
char_escaped q c g = high_escaped q (encode c) (high_bytes c g)

-- ---- THE LAWS: these are the forms that document 01 asks for

-- a byte of kinds 6, 7 and 8, and all of them
pub byte_style : (q b : ℕ) → styled_form false q b ≡ byte_form q b
unfolding styled_form byte_form
byte_style q b = refl

pub bytes_style : (q : ℕ) (v : List ℕ) → styled_forms false q v ≡ byte_forms q v
bytes_style q [] = refl
bytes_style q (b ∷ v) = rw (byte_style q b, bytes_style q v)

-- a character of kind 4
pub char_style : (q c : ℕ) → Scalar c → styled_forms true q (encode c) ≡ char_form q c
unfolding char_form styled_form
char_style q c _ =
    sym (cond_lt (λ (t : List ℕ). t ≡ styled_forms true q (encode c)) c 128
    (λ h. sym (forms_ascii true q c h ∙ rw (lt-ltb c 128 h)))
    (λ g. sym (char_wide q c g)))

-- a string of kind 5
pub text_style : (v : List ℕ) → Utf8 v → styled_forms true 34 v ≡ char_forms 34 v
unfolding styled_form
text_style v u = bytewise v ∙ sym (by_bytes v u)
  where
    bytewise : (v : List ℕ) → styled_forms true 34 v ≡ text_forms 34 v
    bytewise [] = refl
    bytewise (b ∷ v) = rw (bytewise v)
