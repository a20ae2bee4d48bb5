-- The form of a char, a byte or a string means it again.
-- Assumes nothing.
use mathlib.Core.Path.{◌≡◌, refl, sym, ap}
use mathlib.Core.Logic.{◌≢◌}
use mathlib.Core.List.{List, [], ◌∷◌, ◌++◌, append_assoc}
use Prim.Native.Nat.{ℕ, ◌≤◌}
use native.Mathlib.Omega.{arith}
use lib.Dec.{T}
use borrow.Author.Tests.{lt-ltb, ne_eqb}
use Rattle.utf8.specs.Utf8.{Scalar, Utf8}
use Rattle.utf8.proofs.Laws.{is_row1}
use Rattle.grammar.specs.Notation.{byte, ◌∪◌, opt}
use Rattle.grammar.specs.Suffixes.{SUFFIX}
use Rattle.grammar.specs.Escapes.{apostrophe, quotation_mark}
use Rattle.grammar.specs.Quoted.{except, Pieces, none, some, Quoted, CHAR_CONTENT, BYTE_CONTENT, STRING_PIECE, BYTE_STRING_PIECE, C_STRING_PIECE}
use Rattle.grammar.specs.Quoted as quoted
use Rattle.grammar.specs.Meaning.{Means, is_char, is_string, is_byte, is_byte_string, is_c_string}
use Rattle.grammar.specs.Meaning as worth
use Rattle.form.specs.Escapes.{char_form, byte_form, char_forms, byte_forms}
use Rattle.form.specs.Form.{form_of}
use Rattle.form.proofs.Fit.{Each, Byte, CByte}
use Rattle.form.proofs.Bytes.{cond_lt, by_char, by_byte}
use Rattle.form.proofs.ByBytes.{text_form, text_forms, by_bytes}

-- ---- bytes that stand as themselves

in_string : (b : ℕ) → b ≢ 34 → b ≢ 92 → b ≢ 13 → T (except (byte 34 ∪ byte 92 ∪ byte 13) b)
in_string b h g k = rw (ne_eqb b 34 h, ne_eqb b 92 g, ne_eqb b 13 k) tt

in_char : (b : ℕ) → 32 ≤ b → b ≢ 39 → b ≢ 92 → T (except (byte 39 ∪ byte 92 ∪ byte 10 ∪ byte 13 ∪ byte 9) b)
in_char b l h g =
    rw (ne_eqb b 39 h, ne_eqb b 92 g, ne_eqb b 10 (λ e. omega arith), ne_eqb b 13 (λ e. omega arith), ne_eqb b 9 (λ e. omega arith)) tt

-- ---- one character

char_content : (c : ℕ) → Scalar c → CHAR_CONTENT (char_form 39 c) c
unfolding char_form
char_content c s =
    cond_lt (λ (t : List ℕ). CHAR_CONTENT t c) c 128 (λ h.
    by_char 39 c (λ t. CHAR_CONTENT t c) apostrophe h (λ t e. quoted.CHAR_CONTENT.ascii e) (λ t e. quoted.CHAR_CONTENT.quote e)
    (λ l m n k. quoted.CHAR_CONTENT.char s (sym (is_row1 c h)) (in_char c l k n)))
    (λ h. quoted.CHAR_CONTENT.char s refl (in_char c (omega arith) (λ e. omega arith) (λ e. omega arith)))

byte_content : (b : ℕ) → Byte b → BYTE_CONTENT (byte_form 39 b) b
byte_content b h =
    by_byte 39 b (λ t. BYTE_CONTENT t b) apostrophe h (λ t e. quoted.BYTE_CONTENT.escape e)
    (λ l m n k. quoted.BYTE_CONTENT.ascii refl (rw (lt-ltb b 128 (omega arith)) (in_char b l k n)))

-- ---- one byte of a string

string_piece : (b : ℕ) (r : List ℕ) → STRING_PIECE (text_form 34 b) (b ∷ []) r
string_piece b r =
    cond_lt (λ (t : List ℕ). STRING_PIECE t (b ∷ []) r) b 128 (λ h.
    by_char 34 b (λ t. STRING_PIECE t (b ∷ []) r) quotation_mark h
    (λ t e. quoted.STRING_PIECE.ascii b e (sym (is_row1 b h))) (λ t e. quoted.STRING_PIECE.quote b e (sym (is_row1 b h)))
    (λ l m n k. quoted.STRING_PIECE.char b refl (in_string b k n (λ e. omega arith)) refl))
    (λ h. quoted.STRING_PIECE.char b refl (in_string b (λ e. omega arith) (λ e. omega arith) (λ e. omega arith)) refl)

byte_piece : (b : ℕ) (r : List ℕ) → Byte b → BYTE_STRING_PIECE (byte_form 34 b) (b ∷ []) r
byte_piece b r h =
    by_byte 34 b (λ t. BYTE_STRING_PIECE t (b ∷ []) r) quotation_mark h (λ t e. quoted.BYTE_STRING_PIECE.escape b e refl)
    (λ l m n k. quoted.BYTE_STRING_PIECE.ascii b refl (rw (lt-ltb b 128 (omega arith)) (in_string b k n (λ e. omega arith))) refl)

c_piece : (b : ℕ) (r : List ℕ) → CByte b → C_STRING_PIECE (byte_form 34 b) (b ∷ []) r
c_piece b r h =
    by_byte 34 b (λ t. C_STRING_PIECE t (b ∷ []) r) quotation_mark h.1 (λ t e. quoted.C_STRING_PIECE.escape b e h.0 refl)
    (λ l m n k. quoted.C_STRING_PIECE.char b refl
    (rw (ne_eqb b 34 k, ne_eqb b 92 n, ne_eqb b 13 (λ e. omega arith), ne_eqb b 0 (λ e. omega arith)) tt) refl)

-- ---- all bytes of a string, where F writes them one by one

module _ (Piece : List ℕ → List ℕ → List ℕ → Type 0) (P : ℕ → Type 0) (F : List ℕ → List ℕ) (form : ℕ → List ℕ)
    (start : F [] ≡ []) (next : (b : ℕ) (v : List ℕ) → F (b ∷ v) ≡ form b ++ F v)
    (piece : (b : ℕ) (r : List ℕ) → P b → Piece (form b) (b ∷ []) r) where
  pieces : (v : List ℕ) → Each P v → Pieces Piece (F v) v
  pieces [] h = rw start none
  pieces (b ∷ v) h = some (form b) (b ∷ []) (F v) v (piece b (F v) h.0) (pieces v h.1) (next b v) refl

no_need : (v : List ℕ) → Each (λ _. Unit {0}) v
no_need [] = tt
no_need (b ∷ v) = (tt, no_need v)

string_pieces : (v : List ℕ) → Utf8 v → Pieces STRING_PIECE (char_forms 34 v) v
string_pieces v u =
    rw (by_bytes v u) (pieces STRING_PIECE (λ _. Unit {0}) (text_forms 34) (text_form 34) refl (λ b v. refl) (λ b r _. string_piece b r) v (no_need v))

-- ---- the literals

-- a quote after the content, and the suffix after that
seam : (q : ℕ) (c x : List ℕ) → (c ++ (q ∷ [])) ++ x ≡ c ++ (q ∷ x)
seam q c x = append_assoc c (q ∷ []) x

module _ (x : List ℕ) (end : opt SUFFIX x) where
  pub char_again : (c : ℕ) → Scalar c → Means (form_of (worth.Worth.char c) x) (worth.Worth.char c) x
  unfolding form_of
  char_again c s =
      let e = ap (λ (u : List ℕ). 39 ∷ u) (seam 39 (char_form 39 c) x) in
      is_char c (record { content = char_form 39 c; is = e; inner = char_content c s; ending = end }) refl

  pub string_again : (v : List ℕ) → Utf8 v → Means (form_of (worth.Worth.string v) x) (worth.Worth.string v) x
  unfolding form_of
  string_again v u =
      let e = ap (λ (u : List ℕ). 34 ∷ u) (seam 34 (char_forms 34 v) x) in
      is_string v (record { content = char_forms 34 v; is = e; inner = string_pieces v u; ending = end }) refl

  pub byte_again : (b : ℕ) → Byte b → Means (form_of (worth.Worth.byte b) x) (worth.Worth.byte b) x
  unfolding form_of
  byte_again b h =
      let e = ap (λ (u : List ℕ). 98 ∷ 39 ∷ u) (seam 39 (byte_form 39 b) x) in
      is_byte b (record { content = byte_form 39 b; is = e; inner = byte_content b h; ending = end }) refl

  -- a byte string or a C string, by its opening letter k
  strings : (Piece : List ℕ → List ℕ → List ℕ → Type 0) (P : ℕ → Type 0) → ((b : ℕ) (r : List ℕ) → P b → Piece (byte_form 34 b) (b ∷ []) r)
      → (k : ℕ) (v : List ℕ) → Each P v → Quoted Piece (k ∷ 34 ∷ []) (k ∷ 34 ∷ ((byte_forms 34 v ++ (34 ∷ [])) ++ x)) v x
  strings Piece P piece k v h =
      record {
        content = byte_forms 34 v;
        is = ap (λ (u : List ℕ). k ∷ 34 ∷ u) (seam 34 (byte_forms 34 v) x);
        inner = pieces Piece P (byte_forms 34) (byte_form 34) refl (λ b v. refl) piece v h;
        ending = end;
      }

  pub byte_string_again : (v : List ℕ) → Each Byte v → Means (form_of (worth.Worth.byte_string v) x) (worth.Worth.byte_string v) x
  unfolding form_of
  byte_string_again v h = is_byte_string v (strings BYTE_STRING_PIECE Byte byte_piece 98 v h) refl

  pub c_string_again : (v : List ℕ) → Each CByte v → Means (form_of (worth.Worth.c_string v) x) (worth.Worth.c_string v) x
  unfolding form_of
  c_string_again v h = is_c_string v (strings C_STRING_PIECE CByte c_piece 99 v h) refl
