-- The worth of a UTF-8 text is fit: its char is a scalar, its bytes are below 256, a C string has no NUL.
-- Assumes nothing.
use mathlib.Core.Path.{◌≡◌, subst, subst⁻¹}
use mathlib.Core.Logic.{inl, ⊎_elim}
use mathlib.Core.Bool.{not}
use mathlib.Core.List.{List, [], ◌∷◌, ◌++◌}
use Prim.Native.Nat.{ℕ, zero, suc, ◌≤◌, ◌<◌}
use native.Mathlib.Omega.{arith}
use lib.Dec.{T, ltb}
use borrow.Author.Tests.{ltb-true, le-leb, lt-leb}
use Rattle.utf8.specs.Utf8.{Scalar, Scalars, encode, encode_all, Utf8}
use Rattle.utf8.proofs.Laws.{by_row, scalar_lt}
use Rattle.grammar.specs.Notation.{Class, range, byte, ◌∪◌, all, times}
use Rattle.grammar.specs.Numbers.{OCT_DIGIT, HEX_DIGIT}
use Rattle.grammar.specs.Escapes.{QUOTE_ESCAPE, COMMON_ESCAPE, ASCII_ESCAPE, BYTE_ESCAPE, apostrophe, quotation_mark, lf, cr, ht, reverse_solidus, nul}
use Rattle.grammar.specs.Escapes as escapes
use Rattle.grammar.specs.Quoted.{except, ascii_except, closing, Pieces, none, some, CHAR_CONTENT, BYTE_CONTENT, BYTE_STRING_PIECE, C_STRING_PIECE}
use Rattle.grammar.specs.Quoted as quoted
use Rattle.grammar.specs.Values.{digit_value}
use Rattle.grammar.specs.Meaning.{Worth, Means, is_true, is_false, is_integer, is_float, is_char, is_string, is_raw_string, is_byte, is_byte_string, is_raw_byte_string, is_c_string, is_raw_c_string}
use Rattle.grammar.specs.Meaning as worth
use Rattle.grammar.proofs.Runs.{T_true, not_t, and_l, and_r, or_e}
use Rattle.grammar.proofs.Integers.{range_is}
use Rattle.form.proofs.Fit.{Each, Byte, CByte, Fit}

-- ---- laws of `Each`

each_append : (P : ℕ → Type 0) (u v : List ℕ) → Each P u → Each P v → Each P (u ++ v)
each_append P [] v a b = b
each_append P (k ∷ u) v a b = (a.0, each_append P u v a.1 b)

each_parts : (P : ℕ → Type 0) (u v : List ℕ) → Each P (u ++ v) → Each P u × Each P v
each_parts P [] v a = (tt, a)
each_parts P (k ∷ u) v a = let h = each_parts P u v a.1 in ((a.0, h.0), h.1)

-- of bytes of a set
each_all : (P Q : ℕ → Type 0) (f : Class) → ((b : ℕ) → T (f b) → P b → Q b) → (v : List ℕ) → T (all f v) → Each P v → Each Q v
each_all P Q f h [] a p = tt
each_all P Q f h (b ∷ v) a p = (h b (and_l (f b) (all f v) a) p.0, each_all P Q f h v (and_r (f b) (all f v) a) p.1)

-- ---- bytes of a text

byte_encode : (c : ℕ) → Scalar c → Each Byte (encode c)
byte_encode c s =
    let l = scalar_lt c s in
    by_row c (Each Byte) (λ h. (omega arith, tt)) (λ g h. (omega arith, (omega arith, tt))) (λ g h. (omega arith, (omega arith, (omega arith, tt))))
    (λ g. (omega arith, (omega arith, (omega arith, (omega arith, tt)))))

c_encode : (c : ℕ) → Scalar c → 1 ≤ c → Each CByte (encode c)
c_encode c s p =
    let l = scalar_lt c s in
    by_row c (Each CByte) (λ h. (omega arith, tt)) (λ g h. (omega arith, (omega arith, tt))) (λ g h. (omega arith, (omega arith, (omega arith, tt))))
    (λ g. (omega arith, (omega arith, (omega arith, (omega arith, tt)))))

pub utf8_bytes : (s : List ℕ) → Utf8 s → Each Byte s
utf8_bytes s u = subst (Each Byte) u.2 (go u.0 u.1)
  where
    go : (ss : List ℕ) → Scalars ss → Each Byte (encode_all ss)
    go [] t = tt
    go (c ∷ ss) t = each_append Byte (encode c) (encode_all ss) (byte_encode c t.0) (go ss t.1)

-- ---- what an escape is worth

hex_below : (c : ℕ) → T (HEX_DIGIT c) → digit_value c < 16
unfolding HEX_DIGIT digit_value
hex_below c t =
    ⊎_elim (λ h. let r = range_is 48 57 c h in simp (le-leb c 57 r.1) (omega arith))
    (λ h.
    ⊎_elim (λ h. let r = range_is 97 102 c h in simp (lt-leb c 57 (omega arith), lt-leb c 70 (omega arith)) (omega arith))
    (λ h. let r = range_is 65 70 c h in simp (lt-leb c 57 (omega arith), le-leb c 70 r.1) (omega arith))
    (or_e (range 97 102 c) (range 65 70 c) h))
    (or_e (range 48 57 c) ((range 97 102 ∪ range 65 70) c) t)

oct_below : (c : ℕ) → T (OCT_DIGIT c) → digit_value c < 8
unfolding OCT_DIGIT digit_value
oct_below c t = let r = range_is 48 55 c t in simp (le-leb c 57 (omega arith)) (omega arith)

simple_below : (t : List ℕ) (v : ℕ) → COMMON_ESCAPE t v → v < 128
simple_below _ _ lf = omega arith
simple_below _ _ cr = omega arith
simple_below _ _ ht = omega arith
simple_below _ _ reverse_solidus = omega arith
simple_below _ _ nul = omega arith

quote_below : (t : List ℕ) (v : ℕ) → QUOTE_ESCAPE t v → v < 128
quote_below _ _ apostrophe = omega arith
quote_below _ _ quotation_mark = omega arith

ascii_below : (t : List ℕ) (v : ℕ) → ASCII_ESCAPE t v → v < 128
ascii_below _ _ (escapes.ASCII_ESCAPE.code a b h g) = omega (arith, oct_below a h, hex_below b g)
ascii_below t v (escapes.ASCII_ESCAPE.simple s) = simple_below t v s

byte_below : (t : List ℕ) (v : ℕ) → BYTE_ESCAPE t v → v < 256
byte_below _ _ (escapes.BYTE_ESCAPE.code a b h g) = omega (arith, hex_below a h, hex_below b g)
byte_below t v (escapes.BYTE_ESCAPE.simple s) = omega (arith, simple_below t v s)
byte_below t v (escapes.BYTE_ESCAPE.quote q) = omega (arith, quote_below t v q)

-- ---- characters and bytes

ascii_byte : (f : Class) (c : ℕ) → T (ascii_except f c) → c < 128
ascii_byte f c t = ltb-true c 128 (T_true (ltb c 128) (and_l (ltb c 128) (not (f c)) t))

not_nul : (f : Class) → T (f 0) → (c : ℕ) → T (except f c) → 0 < c
not_nul f z zero t = absurd (not_t (f 0) t z)
not_nul f z (suc c) t = omega arith

fit_char : (t : List ℕ) (v : ℕ) → CHAR_CONTENT t v → Scalar v
fit_char t v (quoted.CHAR_CONTENT.char s e n) = s
fit_char t v (quoted.CHAR_CONTENT.quote q) = inl (omega (arith, quote_below t v q))
fit_char t v (quoted.CHAR_CONTENT.ascii a) = inl (omega (arith, ascii_below t v a))
fit_char t v (quoted.CHAR_CONTENT.unicode u) = u.scalar

fit_byte : (t : List ℕ) (v : ℕ) → BYTE_CONTENT t v → Byte v
fit_byte t v (quoted.BYTE_CONTENT.ascii e a) = omega (arith, ascii_byte (byte 39 ∪ byte 92 ∪ byte 10 ∪ byte 13 ∪ byte 9) v a)
fit_byte t v (quoted.BYTE_CONTENT.escape e) = byte_below t v e

-- ---- strings

byte_piece : (t w r : List ℕ) → BYTE_STRING_PIECE t w r → Each Byte t → Each Byte w
byte_piece t w r (quoted.BYTE_STRING_PIECE.ascii c e a i) h = rw i (omega (arith, ascii_byte (byte 34 ∪ byte 92 ∪ byte 13) c a), tt)
byte_piece t w r (quoted.BYTE_STRING_PIECE.escape v e i) h = rw i (byte_below t v e, tt)
byte_piece t w r (quoted.BYTE_STRING_PIECE.continue c i) h = rw i tt

c_piece : (t w r : List ℕ) → C_STRING_PIECE t w r → Each Byte t → Each CByte w
c_piece t w r (quoted.C_STRING_PIECE.char c e n i) h =
    let g : Each Byte (c ∷ []) = rw e at h in
    rw i ((not_nul (byte 34 ∪ byte 92 ∪ byte 13 ∪ byte 0) tt c n, g.0), tt)
c_piece t w r (quoted.C_STRING_PIECE.escape v e p i) h = rw i ((p, byte_below t v e), tt)
c_piece t w r (quoted.C_STRING_PIECE.unicode v u p i) h = rw i (c_encode v u.scalar p)
c_piece t w r (quoted.C_STRING_PIECE.continue c i) h = rw i tt

each_piece : (Piece : List ℕ → List ℕ → List ℕ → Type 0) (Q : ℕ → Type 0) → ((t w r : List ℕ) → Piece t w r → Each Byte t → Each Q w)
    → (s v : List ℕ) → Pieces Piece s v → Each Byte s → Each Q v
each_piece Piece Q f _ _ none h = tt
each_piece Piece Q f s v (some t w r u p ps e i) h =
    let b = each_parts Byte t r (rw e at h) in
    rw i (each_append Q w u (f t w r p b.0) (each_piece Piece Q f r u ps b.1))

-- the bytes between an opening and what is after them
inner : (s o v x : List ℕ) → Each Byte s → s ≡ o ++ (v ++ x) → Each Byte v
inner s o v x h e = (each_parts Byte v x (each_parts Byte o (v ++ x) (rw e at h)).1).0

-- and between the quotes of a raw string
raw_inner : (f : Class) (o s v x : List ℕ) → Each Byte s → quoted.Raw f o s v x → Each Byte v
raw_inner f o s v x h r =
    let b = each_parts Byte o (times r.hashes 35 ++ (34 ∷ (v ++ closing r.hashes x))) (rw r.is at h) in
    let c = each_parts Byte (times r.hashes 35) (34 ∷ (v ++ closing r.hashes x)) b.1 in
    (each_parts Byte v (closing r.hashes x) c.1.1).0

-- THE LAW: the worth of a UTF-8 text is fit, where that is known of a string's
pub fit_bytes : (s : List ℕ) (w : Worth) (x : List ℕ) → Utf8 s → Means s w x → ((v : List ℕ) → w ≡ worth.Worth.string v → Utf8 v) → Fit w
fit_bytes s w x u (is_true e i z) str = subst⁻¹ Fit i tt
fit_bytes s w x u (is_false e i z) str = subst⁻¹ Fit i tt
fit_bytes s w x u (is_integer t i z) str = subst⁻¹ Fit i tt
fit_bytes s w x u (is_float t i z) str = subst⁻¹ Fit i tt
fit_bytes s w x u (is_char v t i) str = subst⁻¹ Fit i (fit_char t.content v t.inner)
fit_bytes s w x u (is_string v t i) str = subst⁻¹ Fit i (str v i)
fit_bytes s w x u (is_raw_string v t i) str = subst⁻¹ Fit i (str v i)
fit_bytes s w x u (is_byte v t i) str = subst⁻¹ Fit i (fit_byte t.content v t.inner)
fit_bytes s w x u (is_byte_string v t i) str =
    subst⁻¹ Fit i
    (each_piece BYTE_STRING_PIECE Byte byte_piece t.content v t.inner (inner s (98 ∷ 34 ∷ []) t.content (34 ∷ x) (utf8_bytes s u) t.is))
fit_bytes s w x u (is_raw_byte_string v t i) str = subst⁻¹ Fit i (raw_inner _ (98 ∷ 114 ∷ []) s v x (utf8_bytes s u) t)
fit_bytes s w x u (is_c_string v t i) str =
    subst⁻¹ Fit i
    (each_piece C_STRING_PIECE CByte c_piece t.content v t.inner (inner s (99 ∷ 34 ∷ []) t.content (34 ∷ x) (utf8_bytes s u) t.is))
fit_bytes s w x u (is_raw_c_string v t i) str =
    subst⁻¹ Fit i
    (each_all Byte CByte (except (byte 13 ∪ byte 0)) (λ b n p. (not_nul (byte 13 ∪ byte 0) tt b n, p)) v t.chars
    (raw_inner (except (byte 13 ∪ byte 0)) (99 ∷ 114 ∷ []) s v x (utf8_bytes s u) t))
