-- The laws of one character: the rows of its encoding, and that decoding finds exactly what encoding wrote.
-- Assumes nothing.
use mathlib.Core.Path.{◌≡◌, sym, ap, subst}
use mathlib.Core.Logic.{inl, inr}
use mathlib.Core.List.{List, [], ◌∷◌, ◌++◌}
use Prim.Native.Nat.{ℕ, zero, suc, ◌+◌, ◌*◌, ◌/◌, ◌%◌, ◌≤◌, ◌<◌}
use native.Mathlib.Omega.{arith}
use lib.ListN.{length, get_or, drop}
use borrow.Author.Tests.{lt-ltb, le-ltb, eq-eqb}
use Rattle.scan.proofs.Cases.{cond_lt, cond_eq, by_lt}
use Rattle.utf8.specs.Utf8.{Scalar, encode}
use Rattle.utf8.specs.Decode.{length_from, decode2, chosen3, decode3, chosen4, decode4, rest2, rest3, rest4, decode_by, decode}
use Rattle.std.specs.Prelude.{Option, Some, None}

-- ---- the rows of the table by their ranges

pub is_row1 : (s : ℕ) → s < 0x80 → encode s ≡ s ∷ []
unfolding encode
is_row1 s h = simp (lt-ltb s 0x80 h)

pub is_row2 : (s : ℕ) → 0x80 ≤ s → s < 0x800 → encode s ≡ (0xC0 + s / 64) ∷ (0x80 + s % 64) ∷ []
unfolding encode
is_row2 s g h = simp (le-ltb s 0x80 g, lt-ltb s 0x800 h)

pub is_row3 : (s : ℕ) → 0x800 ≤ s → s < 0x10000 → encode s ≡ (0xE0 + s / 4096) ∷ (0x80 + s / 64 % 64) ∷ (0x80 + s % 64) ∷ []
unfolding encode
is_row3 s g h = simp (le-ltb s 0x80 (omega arith), le-ltb s 0x800 g, lt-ltb s 0x10000 h)

pub is_row4 : (s : ℕ) → 0x10000 ≤ s
    → encode s ≡ (0xF0 + s / 262144) ∷ (0x80 + s / 4096 % 64) ∷ (0x80 + s / 64 % 64) ∷ (0x80 + s % 64) ∷ []
unfolding encode
is_row4 s g = simp (le-ltb s 0x80 (omega arith), le-ltb s 0x800 (omega arith), le-ltb s 0x10000 g)

-- what holds of each row holds of every encoding
pub by_row : (s : ℕ) (P : List ℕ → Type 0)
    → (s < 0x80 → P (s ∷ []))
    → (0x80 ≤ s → s < 0x800 → P ((0xC0 + s / 64) ∷ (0x80 + s % 64) ∷ []))
    → (0x800 ≤ s → s < 0x10000 → P ((0xE0 + s / 4096) ∷ (0x80 + s / 64 % 64) ∷ (0x80 + s % 64) ∷ []))
    → (0x10000 ≤ s → P ((0xF0 + s / 262144) ∷ (0x80 + s / 4096 % 64) ∷ (0x80 + s / 64 % 64) ∷ (0x80 + s % 64) ∷ []))
    → P (encode s)
by_row s P a b c d =
    by_lt s 0x80 (λ h. subst P (sym (is_row1 s h)) (a h)) λ g.
    by_lt s 0x800 (λ h. subst P (sym (is_row2 s g h)) (b g h)) λ g2.
    by_lt s 0x10000 (λ h. subst P (sym (is_row3 s g2 h)) (c g2 h)) λ g3. subst P (sym (is_row4 s g3)) (d g3)

-- a character has one to four bytes
pub encode_length : (s : ℕ) → (1 ≤ length (encode s)) × (length (encode s) ≤ 4)
encode_length s =
    by_row s (λ l. (1 ≤ length l) × (length l ≤ 4)) (λ h. omega arith) (λ g h. omega arith) (λ g h. omega arith) (λ g. omega arith)

pub scalar_lt : (s : ℕ) → Scalar s → s < 0x110000
scalar_lt s (inl h) = omega arith
scalar_lt s (inr h) = h.1

-- every byte is above 127
abbrev High : List ℕ → Type 0
High [] = Unit {0}
High (b ∷ l) = (0x80 ≤ b) × High l

-- a character above 127 has no ASCII byte
pub encode_high : (s : ℕ) → 0x80 ≤ s → (i : ℕ) → i < length (encode s) → 0x80 ≤ get_or (encode s) i 0
encode_high s g i h =
    each (encode s) i h
    (by_row s High (λ h. absurd (omega arith)) (λ g h. (omega arith, (omega arith, tt))) (λ g h. (omega arith, (omega arith, (omega arith, tt))))
    (λ g. (omega arith, (omega arith, (omega arith, (omega arith, tt))))))
  where
    each : (l : List ℕ) (i : ℕ) → i < length l → High l → 0x80 ≤ get_or l i 0
    each [] i h t = absurd (omega arith)
    each (b ∷ l) zero h t = t.0
    each (b ∷ l) (suc i) h t = each l i (omega arith) t.1

-- ---- the decoder is right

-- what is said of a character that was found at the start of a text
abbrev pub Found : List ℕ → Option (ℕ × ℕ) → Type 0
Found text None = Unit {0}
Found text (Some (s, n)) = Scalar s × (encode s ++ drop n text ≡ text) × (length (encode s) ≡ n)

found2 : (a b : ℕ) (r : List ℕ) → 0xC0 ≤ a → a < 0xE0 → Found (a ∷ b ∷ r) (decode2 a b)
unfolding decode2 encode
found2 a b r lo hi =
    let s = a % 32 * 64 + b % 64 in
    let P : Option (ℕ × ℕ) → Type 0 = Found (a ∷ b ∷ r) in
    cond_eq P (b / 64) 2 (λ e. cond_lt P s 0x80 (λ g. tt) (λ g.
    let e1 : 0xC0 + s / 64 ≡ a = omega arith in
    let e2 : 0x80 + s % 64 ≡ b = omega arith in
    let is : encode s ≡ a ∷ b ∷ [] =
    simp (le-ltb s 0x80 g, lt-ltb s 0x800 (omega arith), e1, e2) in
    (inl (omega arith), ap (λ (l : List ℕ). l ++ r) is, ap length is)))
    (λ e. tt)

found3 : (a b c : ℕ) (r : List ℕ) → 0xE0 ≤ a → a < 0xF0 → Found (a ∷ b ∷ c ∷ r) (decode3 a b c)
unfolding decode3 chosen3 encode
found3 a b c r lo hi =
    let s = a % 16 * 4096 + b % 64 * 64 + c % 64 in
    let P : Option (ℕ × ℕ) → Type 0 = Found (a ∷ b ∷ c ∷ r) in
    cond_eq P (b / 64) 2 (λ eb. cond_eq P (c / 64) 2 (λ ec. cond_lt P s 0x800 (λ g. tt) (λ g.
    let e1 : 0xE0 + s / 4096 ≡ a = omega arith in
    let e2 : 0x80 + s / 64 % 64 ≡ b = omega arith in
    let e3 : 0x80 + s % 64 ≡ c = omega arith in
    let is : encode s ≡ a ∷ b ∷ c ∷ [] =
    simp (le-ltb s 0x80 (omega arith), le-ltb s 0x800 g, lt-ltb s 0x10000 (omega arith), e1, e2, e3) in
    let here : Scalar s → P (Some (s, 3)) = λ y. (y, ap (λ (l : List ℕ). l ++ r) is, ap length is) in
    cond_lt P s 0xD800 (λ h. here (inl (omega arith))) (λ h. cond_lt P s 0xE000 (λ k. tt) (λ k. here (inr (k, omega arith))))))
    (λ ec. tt)) (λ eb. tt)

found4 : (a b c d : ℕ) (r : List ℕ) → 0xF0 ≤ a → a < 0xF8 → Found (a ∷ b ∷ c ∷ d ∷ r) (decode4 a b c d)
unfolding decode4 chosen4 encode
found4 a b c d r lo hi =
    let s = a % 8 * 262144 + b % 64 * 4096 + c % 64 * 64 + d % 64 in
    let P : Option (ℕ × ℕ) → Type 0 = Found (a ∷ b ∷ c ∷ d ∷ r) in
    cond_eq P (b / 64) 2 (λ eb. cond_eq P (c / 64) 2 (λ ec. cond_eq P (d / 64) 2 (λ ed. cond_lt P s 0x10000 (λ g. tt) (λ g.
    let e1 : 0xF0 + s / 262144 ≡ a = omega arith in
    let e2 : 0x80 + s / 4096 % 64 ≡ b = omega arith in
    let e3 : 0x80 + s / 64 % 64 ≡ c = omega arith in
    let e4 : 0x80 + s % 64 ≡ d = omega arith in
    let is : encode s ≡ a ∷ b ∷ c ∷ d ∷ [] =
    simp (le-ltb s 0x80 (omega arith), le-ltb s 0x800 (omega arith), le-ltb s 0x10000 g, e1, e2, e3, e4) in
    cond_lt P s 0x110000 (λ h. (inr (omega arith, h), ap (λ (l : List ℕ). l ++ r) is, ap length is)) (λ h. tt)))
    (λ ed. tt)) (λ ec. tt)) (λ eb. tt)

found_rest2 : (a : ℕ) (r : List ℕ) → 0xC0 ≤ a → a < 0xE0 → Found (a ∷ r) (rest2 a r)
unfolding rest2
found_rest2 a [] lo hi = tt
found_rest2 a (b ∷ r) lo hi = found2 a b r lo hi

found_rest3 : (a : ℕ) (r : List ℕ) → 0xE0 ≤ a → a < 0xF0 → Found (a ∷ r) (rest3 a r)
unfolding rest3
found_rest3 a [] lo hi = tt
found_rest3 a (b ∷ []) lo hi = tt
found_rest3 a (b ∷ c ∷ r) lo hi = found3 a b c r lo hi

found_rest4 : (a : ℕ) (r : List ℕ) → 0xF0 ≤ a → a < 0xF8 → Found (a ∷ r) (rest4 a r)
unfolding rest4
found_rest4 a [] lo hi = tt
found_rest4 a (b ∷ []) lo hi = tt
found_rest4 a (b ∷ c ∷ []) lo hi = tt
found_rest4 a (b ∷ c ∷ d ∷ r) lo hi = found4 a b c d r lo hi

found1 : (a : ℕ) (r : List ℕ) → a < 0x80 → Found (a ∷ r) (Some (a, 1))
unfolding encode
found1 a r h =
    let is : encode a ≡ a ∷ [] = simp (lt-ltb a 0x80 h) in
    (inl (omega arith), ap (λ (l : List ℕ). l ++ r) is, ap length is)

-- a character that the decoder finds is there
pub decode_found : (text : List ℕ) → Found text (decode text)
unfolding decode decode_by length_from
decode_found [] = tt
decode_found (a ∷ r) =
    let P : ℕ → Type 0 = λ n. Found (a ∷ r) (decode_by n a r) in
    cond_lt P a 0x80 (λ h. found1 a r h) λ g.
    cond_lt P a 0xC0 (λ h. tt) λ g1.
    cond_lt P a 0xE0 (λ h. found_rest2 a r g1 h) λ g2.
    cond_lt P a 0xF0 (λ h. found_rest3 a r g2 h) λ g3.
    cond_lt P a 0xF8 (λ h. found_rest4 a r g3 h) λ g4. tt

-- the decoder finds a character that is there
meet2 : (a b s : ℕ) (r : List ℕ) → 0xC0 ≤ a → a < 0xE0 → b / 64 ≡ 2 → a % 32 * 64 + b % 64 ≡ s → 0x80 ≤ s
    → decode (a ∷ b ∷ r) ≡ Some (s, 2)
unfolding decode decode_by length_from rest2 decode2
meet2 a b s r lo hi eb e g =
    simp (le-ltb a 0x80 (omega arith), le-ltb a 0xC0 lo, lt-ltb a 0xE0 hi, eq-eqb (b / 64) 2 eb, e, le-ltb s 0x80 g)

meet3 : (a b c s : ℕ) (r : List ℕ) → 0xE0 ≤ a → a < 0xF0 → b / 64 ≡ 2 → c / 64 ≡ 2 → a % 16 * 4096 + b % 64 * 64 + c % 64 ≡ s
    → 0x800 ≤ s → Scalar s → decode (a ∷ b ∷ c ∷ r) ≡ Some (s, 3)
unfolding decode decode_by length_from rest3 decode3 chosen3
meet3 a b c s r lo hi eb ec e g (inl h) =
    simp (
      le-ltb a 0x80 (omega arith),
      le-ltb a 0xC0 (omega arith),
      le-ltb a 0xE0 lo,
      lt-ltb a 0xF0 hi,
      eq-eqb (b / 64) 2 eb,
      eq-eqb (c / 64) 2 ec,
      e,
      le-ltb s 0x800 g,
      lt-ltb s 0xD800 h,
    )
meet3 a b c s r lo hi eb ec e g (inr (h, k)) =
    simp (
      le-ltb a 0x80 (omega arith),
      le-ltb a 0xC0 (omega arith),
      le-ltb a 0xE0 lo,
      lt-ltb a 0xF0 hi,
      eq-eqb (b / 64) 2 eb,
      eq-eqb (c / 64) 2 ec,
      e,
      le-ltb s 0x800 g,
      le-ltb s 0xD800 (omega arith),
      le-ltb s 0xE000 h,
    )

meet4 : (a b c d s : ℕ) (r : List ℕ) → 0xF0 ≤ a → a < 0xF8 → b / 64 ≡ 2 → c / 64 ≡ 2 → d / 64 ≡ 2
    → a % 8 * 262144 + b % 64 * 4096 + c % 64 * 64 + d % 64 ≡ s → 0x10000 ≤ s → s < 0x110000 → decode (a ∷ b ∷ c ∷ d ∷ r) ≡ Some (s, 4)
unfolding decode decode_by length_from rest4 decode4 chosen4
meet4 a b c d s r lo hi eb ec ed e g h =
    simp (
      le-ltb a 0x80 (omega arith),
      le-ltb a 0xC0 (omega arith),
      le-ltb a 0xE0 (omega arith),
      le-ltb a 0xF0 lo,
      lt-ltb a 0xF8 hi,
      eq-eqb (b / 64) 2 eb,
      eq-eqb (c / 64) 2 ec,
      eq-eqb (d / 64) 2 ed,
      e,
      le-ltb s 0x10000 g,
      lt-ltb s 0x110000 h,
    )

-- the bits of a character of four bytes, put together again
low_six : (x : ℕ) → x < 64 → (0x80 + x) % 64 ≡ x
low_six x h = omega arith

whole4 : (s : ℕ) → s < 0x110000
    → (0xF0 + s / 262144) % 8 * 262144 + (0x80 + s / 4096 % 64) % 64 * 4096 + (0x80 + s / 64 % 64) % 64 * 64 + (0x80 + s % 64) % 64 ≡ s
whole4 s h =
    let e0 : (0xF0 + s / 262144) % 8 ≡ s / 262144 = omega arith in
    let e1 : s / 64 * 64 + s % 64 ≡ s = omega arith in
    let e2 : s / 4096 * 64 + s / 64 % 64 ≡ s / 64 = omega arith in
    let e3 : s / 262144 * 64 + s / 4096 % 64 ≡ s / 4096 = omega arith in
    rw (e0, low_six (s / 4096 % 64) (omega arith), low_six (s / 64 % 64) (omega arith), low_six (s % 64) (omega arith))
    (sum (s / 262144) (s / 4096) (s / 64) s (s / 4096 % 64) (s / 64 % 64) (s % 64) e1 e2 e3)
  where
    sum : (a b c s x y z : ℕ) → c * 64 + z ≡ s → b * 64 + y ≡ c → a * 64 + x ≡ b → a * 262144 + x * 4096 + y * 64 + z ≡ s
    sum a b c s x y z e1 e2 e3 = omega arith

-- decoding after an encoding gives the character number back, whatever follows
pub decode_encode : (s : ℕ) (r : List ℕ) → Scalar s → decode (encode s ++ r) ≡ Some (s, length (encode s))
unfolding decode decode_by length_from
decode_encode s r y =
    by_row s (λ l. decode (l ++ r) ≡ Some (s, length l))
    (λ h. simp (lt-ltb s 0x80 h))
    (λ g h. meet2 (0xC0 + s / 64) (0x80 + s % 64) s r (omega arith) (omega arith) (omega arith) (omega arith) g)
    (λ g h. meet3 (0xE0 + s / 4096) (0x80 + s / 64 % 64) (0x80 + s % 64) s r (omega arith) (omega arith) (omega arith) (omega arith) (omega arith) g y)
    (λ g.
    let h = scalar_lt s y in
    meet4 (0xF0 + s / 262144) (0x80 + s / 4096 % 64) (0x80 + s / 64 % 64) (0x80 + s % 64) s r (omega arith) (omega arith)
    (omega arith) (omega arith) (omega arith) (whole4 s h) g h)
