-- A settled form is UTF-8.
-- Assumes nothing.
use Prim.Native.Nat.{ℕ, zero, suc, ◌/◌, ◌%◌, ◌<◌}
use mathlib.Core.Bool.{true, false, ◌&&◌}
use mathlib.Core.List.{List, [], ◌∷◌, ◌++◌}
use native.Mathlib.Omega.{arith}
use lib.Dec.{T, eqb}
use lib.ListN.{drop}
use Rattle.std.specs.Prelude.{Option, Some, None}
use Rattle.buffer.specs.Digits.{decimal, hex_digit, hex_digits}
use Rattle.scan.proofs.Cases.{cond_in, cond_lt}
use Rattle.utf8.specs.Utf8.{Scalar, Utf8}
use Rattle.utf8.specs.Decode.{decode}
use Rattle.utf8.proofs.Laws.{Found, decode_found}
use Rattle.utf8.proofs.Text.{utf8_nil, utf8_one, utf8_append, utf8_ascii}
use Rattle.grammar.specs.Notation.{all, begins, byte, ◌∪◌}
use Rattle.grammar.specs.Suffixes.{DEC_DIGIT}
use Rattle.grammar.specs.Escapes.{COMMON_ESCAPE, lf, cr, ht, reverse_solidus, nul}
use Rattle.grammar.specs.Decimal.{Decimal}
use Rattle.grammar.specs.Meaning.{Worth}
use Rattle.grammar.specs.Meaning as worth
use Rattle.grammar.proofs.Runs.{and_l, and_r}
use Rattle.form.specs.Escapes.{x_form, ascii_form, char_form, byte_form, char_forms_within, char_forms, byte_forms}
use Rattle.form.specs.Form.{integer_form, reduced_form, bare_form, form_of}
use Rattle.form.specs.Reduced.{reduce}
use Rattle.form.proofs.Fit.{Each, Byte, CByte, Fit}
use Rattle.form.proofs.Bytes.{by_ascii}
use Rattle.form.proofs.Decimals.{dec_is, decimal_all}

-- bytes below 128
low : (l : List ℕ) → Each (λ b. b < 128) l → Utf8 l
low [] h = utf8_nil
low (b ∷ l) h = utf8_ascii b l h.0 (low l h.1)

-- a text between two ASCII bytes
quoted : (q : ℕ) (t : List ℕ) → q < 128 → Utf8 t → Utf8 (q ∷ (t ++ (q ∷ [])))
quoted q t h u = utf8_ascii q (t ++ (q ∷ [])) h (utf8_append t (q ∷ []) u (utf8_ascii q [] h utf8_nil))

-- ---- numbers

digits_utf8 : (l : List ℕ) → T (all DEC_DIGIT l) → Utf8 l
digits_utf8 [] t = utf8_nil
digits_utf8 (c ∷ l) t =
    let d = dec_is c (and_l (DEC_DIGIT c) (all DEC_DIGIT l) t) in
    utf8_ascii c l (omega arith) (digits_utf8 l (and_r (DEC_DIGIT c) (all DEC_DIGIT l) t))

decimal_utf8 : (n : ℕ) → Utf8 (decimal n)
decimal_utf8 n = digits_utf8 (decimal n) (decimal_all n)

integer_utf8 : (n : ℕ) (x : List ℕ) → Utf8 (integer_form n x)
unfolding integer_form
integer_utf8 n x =
    cond_in Utf8 (eqb n 0 && begins (byte 98 ∪ byte 111 ∪ byte 120) x) (λ _. low (48 ∷ 48 ∷ []) (omega arith, (omega arith, tt)))
    (λ _. decimal_utf8 n)

reduced_utf8 : (r : Decimal) → Utf8 (reduced_form r)
unfolding reduced_form
reduced_utf8 r =
    utf8_append (decimal r.coef) _ (decimal_utf8 r.coef)
    (utf8_ascii 101 _ (omega arith)
    (cond_in Utf8 (eqb r.down 0) (λ _. decimal_utf8 r.up) (λ _. utf8_ascii 45 (decimal r.down) (omega arith) (decimal_utf8 r.down))))

-- ---- characters and bytes

hex_low : (d : ℕ) → d < 16 → hex_digit d < 128
unfolding hex_digit
hex_low d h = cond_lt (λ (c : ℕ). c < 128) d 10 (λ _. omega arith) (λ _. omega arith)

x_utf8 : (b : ℕ) → b < 256 → Utf8 (x_form b)
unfolding hex_digits
x_utf8 b h = low (x_form b) (omega arith, (omega arith, (hex_low (b / 16) (omega arith), (hex_low (b % 16) (omega arith), tt))))

simple_utf8 : (t : List ℕ) (b : ℕ) → COMMON_ESCAPE t b → Utf8 t
simple_utf8 _ _ lf = low (92 ∷ 110 ∷ []) (omega arith, (omega arith, tt))
simple_utf8 _ _ cr = low (92 ∷ 114 ∷ []) (omega arith, (omega arith, tt))
simple_utf8 _ _ ht = low (92 ∷ 116 ∷ []) (omega arith, (omega arith, tt))
simple_utf8 _ _ reverse_solidus = low (92 ∷ 92 ∷ []) (omega arith, (omega arith, tt))
simple_utf8 _ _ nul = low (92 ∷ 48 ∷ []) (omega arith, (omega arith, tt))

module _ (q : ℕ) (small : q < 128) where
  ascii_utf8 : (b : ℕ) → b < 256 → Utf8 (ascii_form q b)
  ascii_utf8 b h =
      by_ascii q b Utf8 (λ t s. simple_utf8 t b s) (λ _. low (92 ∷ q ∷ []) (omega arith, (small, tt)))
      (λ _ l _ _. low (b ∷ []) (omega arith, tt)) (x_utf8 b h)

  char_utf8 : (c : ℕ) → Scalar c → Utf8 (char_form q c)
  unfolding char_form
  char_utf8 c s = cond_lt Utf8 c 128 (λ l. ascii_utf8 c (omega arith)) (λ _. utf8_one c s)

  byte_utf8 : (b : ℕ) → b < 256 → Utf8 (byte_form q b)
  unfolding byte_form
  byte_utf8 b h = cond_lt Utf8 b 128 (λ _. ascii_utf8 b h) (λ _. x_utf8 b h)

  bytes_utf8 : (v : List ℕ) → Each Byte v → Utf8 (byte_forms q v)
  bytes_utf8 [] h = utf8_nil
  bytes_utf8 (b ∷ v) h = utf8_append (byte_form q b) (byte_forms q v) (byte_utf8 b h.0) (bytes_utf8 v h.1)

  -- whatever the value, what is decoded of it is characters
  within_utf8 : (k : ℕ) (v : List ℕ) → Utf8 (char_forms_within q k v)
  unfolding char_forms_within
  within_utf8 zero v = utf8_nil
  within_utf8 (suc k) [] = utf8_nil
  within_utf8 (suc k) (a ∷ v) = go (decode (a ∷ v)) (decode_found (a ∷ v)) (λ n. within_utf8 k (drop n (a ∷ v)))
    where
      go : (d : Option (ℕ × ℕ)) → Found (a ∷ v) d → ((n : ℕ) → Utf8 (char_forms_within q k (drop n (a ∷ v))))
          → Utf8 (elim d [ Some found ↦ char_form q found.0 ++ char_forms_within q k (drop found.1 (a ∷ v)) | None ↦ [] ])
      go None f r = utf8_nil
      go (Some (c, n)) f r = utf8_append (char_form q c) (char_forms_within q k (drop n (a ∷ v))) (char_utf8 c f.0) (r n)

  chars_utf8 : (v : List ℕ) → Utf8 (char_forms q v)
  unfolding char_forms
  chars_utf8 v = within_utf8 _ v

-- ---- the whole

c_bytes : (v : List ℕ) → Each CByte v → Each Byte v
c_bytes [] h = tt
c_bytes (b ∷ v) h = (h.0.1, c_bytes v h.1)

bare_utf8 : (w : Worth) (x : List ℕ) → Fit w → Utf8 (bare_form w x)
bare_utf8 (worth.bool true) x f = low _ (omega arith, (omega arith, (omega arith, (omega arith, tt))))
bare_utf8 (worth.bool false) x f = low _ (omega arith, (omega arith, (omega arith, (omega arith, (omega arith, tt)))))
bare_utf8 (worth.integer n) x f = integer_utf8 n x
bare_utf8 (worth.float d) x f = reduced_utf8 (reduce d)
bare_utf8 (worth.char c) x f = quoted 39 (char_form 39 c) (omega arith) (char_utf8 39 (omega arith) c f)
bare_utf8 (worth.string v) x f = quoted 34 (char_forms 34 v) (omega arith) (chars_utf8 34 (omega arith) v)
bare_utf8 (worth.byte b) x f = utf8_ascii 98 _ (omega arith) (quoted 39 (byte_form 39 b) (omega arith) (byte_utf8 39 (omega arith) b f))
bare_utf8 (worth.byte_string v) x f = utf8_ascii 98 _ (omega arith) (quoted 34 (byte_forms 34 v) (omega arith) (bytes_utf8 34 (omega arith) v f))
bare_utf8 (worth.c_string v) x f =
    utf8_ascii 99 _ (omega arith) (quoted 34 (byte_forms 34 v) (omega arith) (bytes_utf8 34 (omega arith) v (c_bytes v f)))

pub form_utf8 : (w : Worth) (x : List ℕ) → Fit w → Utf8 x → Utf8 (form_of w x)
unfolding form_of
form_utf8 w x f u = utf8_append (bare_form w x) x (bare_utf8 w x f) u
