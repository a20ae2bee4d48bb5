-- The laws of texts that are UTF-8: their parts, their boundaries, their last character.
-- Assumes nothing.
use mathlib.Core.Path.{◌≡◌, refl, sym, ap, ◌∙◌, subst}
use mathlib.Core.Logic.{inl, ◌↔◌}
use mathlib.Core.List.{List, [], ◌∷◌, ◌++◌, append_assoc, append-nil}
use Prim.Native.Nat.{ℕ, zero, suc, ◌+◌, ◌-◌, ◌/◌, ◌%◌, ◌≤◌, ◌<◌}
use native.Mathlib.Omega.{arith}
use native.Mathlib.Nat.{not-suc-le-zero, le_of_suc-le-suc, add-zero}
use lib.ListN.{get_or-append, length, get_or, take, drop, length-append}
use lib.Seq.{drop-append_seam, get_or-append-add, take_at, drop_at, drop-cons, get_or-drop}
use Rattle.scan.proofs.Cases.{by_lt}
use Rattle.utf8.specs.Utf8.{Scalar, Scalars, encode, encode_all, Utf8, Boundary, LastChar}
use Rattle.utf8.specs.Decode.{decode}
use Rattle.std.specs.Prelude.{Option, Some, None}
use Rattle.utf8.proofs.Laws.{is_row1, by_row, encode_length, decode_encode, scalar_lt}

-- ---- the bytes of one character

-- the bytes that continue a character: 10xxxxxx
abbrev pub Tails : List ℕ → Type 0
Tails [] = Unit {0}
Tails (b ∷ l) = (b / 64 ≡ 2) × Tails l

-- an encoding is a first byte, which is no tail byte, and tail bytes
pub shape : (s : ℕ) → Scalar s → (f : ℕ) × (l : List ℕ) × (encode s ≡ f ∷ l) × (f / 64 ≡ 2 → ⊥) × Tails l
shape s y =
    by_row s (λ e. (f : ℕ) × (l : List ℕ) × (e ≡ f ∷ l) × (f / 64 ≡ 2 → ⊥) × Tails l)
    (λ h. (s, [], refl, (λ t. omega arith), tt))
    (λ g h. (0xC0 + s / 64, (0x80 + s % 64) ∷ [], refl, (λ t. omega arith), (omega arith, tt)))
    (λ g h. (0xE0 + s / 4096, (0x80 + s / 64 % 64) ∷ (0x80 + s % 64) ∷ [], refl, (λ t. omega arith), (omega arith, (omega arith, tt))))
    (λ g.
    let h = scalar_lt s y in (
      0xF0 + s / 262144,
      (0x80 + s / 4096 % 64) ∷ (0x80 + s / 64 % 64) ∷ (0x80 + s % 64) ∷ [],
      refl,
      (λ t. omega arith),
      (omega arith, (omega arith, (omega arith, tt))),
    ))

tails_at : (l : List ℕ) → Tails l → (k : ℕ) → k < length l → get_or l k 0 / 64 ≡ 2
tails_at [] t k h = absurd (not-suc-le-zero h)
tails_at (b ∷ l) t zero h = t.0
tails_at (b ∷ l) t (suc k) h = tails_at l t.1 k (le_of_suc-le-suc h)

pub first_byte : (s : ℕ) (r : List ℕ) → Scalar s → get_or (encode s ++ r) 0 0 / 64 ≡ 2 → ⊥
first_byte s r y e = let h = shape s y in h.3 (rw h.2 at e)

pub tail_byte : (s : ℕ) (r : List ℕ) → Scalar s → (k : ℕ) → 0 < k → k < length (encode s) → get_or (encode s ++ r) k 0 / 64 ≡ 2
tail_byte s r y k p h = let z = shape s y in rw z.2 (go z.0 z.1 z.4 k p (rw z.2 at h))
  where
    go : (f : ℕ) (l : List ℕ) → Tails l → (k : ℕ) → 0 < k → k < suc (length l) → get_or ((f ∷ l) ++ r) k 0 / 64 ≡ 2
    go f l t zero p h = absurd (omega arith)
    go f l t (suc k) p h = rw (get_or-append l r 0 k (le_of_suc-le-suc h)) (tails_at l t k (le_of_suc-le-suc h))

-- ---- texts

pub utf8_nil : Utf8 []
utf8_nil = ([], tt, refl)

pub utf8_char : (s : ℕ) (r : List ℕ) → Scalar s → Utf8 r → Utf8 (encode s ++ r)
utf8_char s r y u = (s ∷ u.0, (y, u.1), ap (λ (l : List ℕ). encode s ++ l) u.2)

pub utf8_one : (s : ℕ) → Scalar s → Utf8 (encode s)
utf8_one s y = (s ∷ [], (y, tt), append-nil (encode s))

-- the character's number, where one was found
abbrev scalar_in : Option (ℕ × ℕ) → ℕ
scalar_in (Some (s, n)) = s
scalar_in None = 0

-- two texts that start with a character and are equal have the same character there, and the same rest
pub encode_unique : (s s' : ℕ) (r r' : List ℕ) → Scalar s → Scalar s' → encode s ++ r ≡ encode s' ++ r' → (s ≡ s') × (r ≡ r')
encode_unique s s' r r' y y' e =
    let d : decode (encode s ++ r) ≡ Some (s, length (encode s)) = decode_encode s r y in
    let d' : decode (encode s' ++ r') ≡ Some (s', length (encode s')) = decode_encode s' r' y' in
    let same : s ≡ s' = sym (ap scalar_in d) ∙ ap (λ (l : List ℕ). scalar_in (decode l)) e ∙ ap scalar_in d' in
    let left : drop (length (encode s)) (encode s ++ r) ≡ r = drop-append_seam (encode s) r in
    let right : drop (length (encode s')) (encode s' ++ r') ≡ r' = drop-append_seam (encode s') r' in
    (same, (cc))

-- a text that starts with a character is UTF-8 only where the rest is
pub utf8_rest : (s : ℕ) (r : List ℕ) → Scalar s → Utf8 (encode s ++ r) → Utf8 r
utf8_rest s r y u = go u.0 u.1 u.2
  where
    go : (ss : List ℕ) → Scalars ss → encode_all ss ≡ encode s ++ r → Utf8 r
    go [] t e =
        let z = ap length e in
        let p = encode_length s in
        absurd (let q : length (encode s ++ r) ≡ length (encode s) + length r = length-append (encode s) r in omega arith)
    go (s' ∷ ss) t e = (ss, t.1, (encode_unique s' s (encode_all ss) r t.0 y e).1)

-- a UTF-8 text with no character at its start is empty
pub utf8_bad : (text : List ℕ) → Utf8 text → decode text ≡ None → text ≡ []
utf8_bad text u d = go u.0 u.1 u.2
  where
    go : (ss : List ℕ) → Scalars ss → encode_all ss ≡ text → text ≡ []
    go [] t e = sym e
    go (s ∷ ss) t e =
        let f : decode (encode s ++ encode_all ss) ≡ Some (s, length (encode s)) = decode_encode s (encode_all ss) t.0 in
        absurd (let z : ◌≡◌ {A = ℕ} 0 1 = cc in omega arith)

pub utf8_append : (p q : List ℕ) → Utf8 p → Utf8 q → Utf8 (p ++ q)
utf8_append p q u v = subst (λ (l : List ℕ). Utf8 (l ++ q)) u.2 (go u.0 u.1)
  where
    go : (ss : List ℕ) → Scalars ss → Utf8 (encode_all ss ++ q)
    go [] t = v
    go (s ∷ ss) t = rw append_assoc (utf8_char s (encode_all ss ++ q) t.0 (go ss t.1))

-- what stands after a UTF-8 text in a UTF-8 text is one too
pub utf8_suffix : (p q : List ℕ) → Utf8 p → Utf8 (p ++ q) → Utf8 q
utf8_suffix p q u v = go u.0 u.1 (subst (λ (l : List ℕ). Utf8 (l ++ q)) (sym u.2) v)
  where
    go : (ss : List ℕ) → Scalars ss → Utf8 (encode_all ss ++ q) → Utf8 q
    go [] t w = w
    go (s ∷ ss) t w = go ss t.1 (utf8_rest s (encode_all ss ++ q) t.0 (rw append_assoc at w))

-- ---- ASCII: a byte below 128 is a character by itself

pub utf8_ascii : (b : ℕ) (r : List ℕ) → b < 0x80 → Utf8 r → Utf8 (b ∷ r)
utf8_ascii b r h u =
    subst (λ (l : List ℕ). Utf8 (l ++ r)) (is_row1 b h) (utf8_char b r (inl (omega arith)) u)

pub utf8_after_ascii : (b : ℕ) (r : List ℕ) → b < 0x80 → Utf8 (b ∷ r) → Utf8 r
utf8_after_ascii b r h u =
    utf8_rest b r (inl (omega arith)) (subst (λ (l : List ℕ). Utf8 (l ++ r)) (sym (is_row1 b h)) u)

-- such bytes at the front change nothing
pub utf8_front : (t : List ℕ) (n : ℕ) → ((k : ℕ) → k < n → get_or t k 0 < 0x80) → Utf8 (drop n t) ↔ Utf8 t
utf8_front t zero h = (λ u. u, λ u. u)
utf8_front [] (suc n) h = (λ u. u, λ u. u)
utf8_front (b ∷ t) (suc n) h =
    let r = utf8_front t n (λ k l. h (suc k) (omega arith)) in
    let a = h 0 (omega arith) in
    (λ u. utf8_ascii b t a (r.0 u), λ u. r.1 (utf8_after_ascii b t a u))

-- ---- boundaries

-- at a boundary both parts are UTF-8
pub boundary_drop : (text : List ℕ) (n : ℕ) → Boundary text n → Utf8 (drop n text)
boundary_drop text n (p, q, u, v, e, l) = subst (λ (x : List ℕ). Utf8 x) (sym (drop_at p q n l) ∙ ap (drop n) e) v

pub boundary_take : (text : List ℕ) (n : ℕ) → Boundary text n → Utf8 (take n text)
boundary_take text n (p, q, u, v, e, l) = subst (λ (x : List ℕ). Utf8 x) (sym (take_at p q n l) ∙ ap (take n) e) u

pub boundary_le : (text : List ℕ) (n : ℕ) → Boundary text n → n ≤ length text
boundary_le text n (p, q, u, v, e, l) = omega (arith, simp length-append at (ap length e))

pub boundary_zero : (text : List ℕ) → Utf8 text → Boundary text 0
boundary_zero text u = ([], text, utf8_nil, u, refl, refl)

pub boundary_end : (text : List ℕ) → Utf8 text → Boundary text (length text)
boundary_end text u = (text, [], u, utf8_nil, append-nil text, refl)

-- no UTF-8 text starts with a tail byte
pub utf8_first : (text : List ℕ) → Utf8 text → get_or text 0 0 / 64 ≡ 2 → ⊥
utf8_first text u = subst (λ (x : List ℕ). get_or x 0 0 / 64 ≡ 2 → ⊥) u.2 (go u.0 u.1)
  where
    go : (ss : List ℕ) → Scalars ss → get_or (encode_all ss) 0 0 / 64 ≡ 2 → ⊥
    go [] t e = let z : ◌≡◌ {A = ℕ} 0 2 = e in omega arith
    go (s ∷ ss) t e = first_byte s (encode_all ss) t.0 e

-- so no tail byte stands at a boundary
rest_first : (text : List ℕ) (n : ℕ) → Utf8 (drop n text) → get_or text n 0 / 64 ≡ 2 → ⊥
rest_first text n v e = utf8_first (drop n text) v (rw (get_or-drop, add-zero) e)

pub boundary_byte : (text : List ℕ) (n : ℕ) → Boundary text n → get_or text n 0 / 64 ≡ 2 → ⊥
boundary_byte text n b = rest_first text n (boundary_drop text n b)

-- and a boundary is wherever no tail byte stands
boundary_in : (ss : List ℕ) → Scalars ss → (n : ℕ) → n ≤ length (encode_all ss) → (get_or (encode_all ss) n 0 / 64 ≡ 2 → ⊥) → Boundary (encode_all ss) n
boundary_in [] t n h e = ([], [], utf8_nil, utf8_nil, refl, omega arith)
boundary_in (s ∷ ss) t n h e =
    by_lt n (length (encode s))
    (λ k. by_lt 0 n
    (λ p. absurd (e (tail_byte s (encode_all ss) t.0 n p k)))
    (λ p. let z : 0 ≡ n = omega arith in
    subst (λ (m : ℕ). Boundary (encode_all (s ∷ ss)) m) z (boundary_zero _ (s ∷ ss, t, refl))))
    (λ k.
    let m = n - length (encode s) in
    let is : length (encode s) + m ≡ n = omega arith in
    let here : get_or (encode s ++ encode_all ss) n 0 ≡ get_or (encode_all ss) m 0 =
    ap (λ (x : ℕ). get_or (encode s ++ encode_all ss) x 0) (sym is) ∙ get_or-append-add (encode s) (encode_all ss) m 0 in
    let within : m ≤ length (encode_all ss) = omega (arith, length-append (encode s) (encode_all ss)) in
    widen s (encode_all ss) m n t.0 is
    (boundary_in ss t.1 m within (λ y. e (subst (λ (x : ℕ). x / 64 ≡ 2) (sym here) y))))
  where
    widen : (s : ℕ) (r : List ℕ) (m n : ℕ) → Scalar s → length (encode s) + m ≡ n → Boundary r m → Boundary (encode s ++ r) n
    widen s r m n y is (p, q, u, v, e, l) = (
      encode s ++ p,
      q,
      utf8_char s p y u,
      v,
      append_assoc (encode s) p q ∙ ap (λ (x : List ℕ). encode s ++ x) e,
      length-append (encode s) p ∙ ap (λ (x : ℕ). length (encode s) + x) l ∙ is,
    )

pub boundary_at : (text : List ℕ) → Utf8 text → (n : ℕ) → n ≤ length text → (get_or text n 0 / 64 ≡ 2 → ⊥) → Boundary text n
boundary_at text u =
    subst (λ (x : List ℕ). (n : ℕ) → n ≤ length x → (get_or x n 0 / 64 ≡ 2 → ⊥) → Boundary x n) u.2 (boundary_in u.0 u.1)

-- a byte below 128 is never inside a character: it stands at a boundary, and the next offset is one too
pub ascii_boundary : (text : List ℕ) → Utf8 text → (n : ℕ) → n < length text → get_or text n 0 < 0x80 → Boundary text n × Utf8 (drop (suc n) text)
ascii_boundary text u n h a =
    let b : Boundary text n = boundary_at text u n (omega arith) (λ e. omega arith) in
    (b, utf8_after_ascii (get_or text n 0) (drop (suc n) text) a (rw (drop-cons text n 0 h) at (boundary_drop text n b)))

-- in a UTF-8 text an offset from which the rest is UTF-8 is a boundary
pub boundary_of_rest : (text : List ℕ) → Utf8 text → (n : ℕ) → n ≤ length text → Utf8 (drop n text) → Boundary text n
boundary_of_rest text u n h v = boundary_at text u n h (rest_first text n v)

-- so the offset after a byte below 128 is one
pub ascii_next : (text : List ℕ) → Utf8 text → (n : ℕ) → n < length text → get_or text n 0 < 0x80 → Boundary text (suc n)
ascii_next text u n h a = boundary_of_rest text u (suc n) (omega arith) (ascii_boundary text u n h a).1

-- ---- the last character

last_in : (s : ℕ) (ss : List ℕ) → Scalar s → Scalars ss → (n : ℕ) × LastChar (encode s ++ encode_all ss) n
last_in s [] y t = (length (encode s), ([], s, utf8_nil, y, sym (append-nil (encode s)), refl))
last_in s (s' ∷ ss) y t = go (last_in s' ss t.0 t.1)
  where
    go : (n : ℕ) × LastChar (encode s' ++ encode_all ss) n → (n : ℕ) × LastChar (encode s ++ (encode s' ++ encode_all ss)) n
    go (n, (p, c, u, z, e, l)) =
        (n, (encode s ++ p, c, utf8_char s p y u, z, append_assoc (encode s) p (encode c) ∙ ap (λ (x : List ℕ). encode s ++ x) e, l))

-- a text that is UTF-8 and not empty has a last character
pub last_char : (text : List ℕ) → Utf8 text → 0 < length text → (n : ℕ) × LastChar text n
last_char text u = subst (λ (x : List ℕ). 0 < length x → (n : ℕ) × LastChar x n) u.2 (go u.0 u.1)
  where
    go : (ss : List ℕ) → Scalars ss → 0 < length (encode_all ss) → (n : ℕ) × LastChar (encode_all ss) n
    go [] t h = absurd (not-suc-le-zero h)
    go (s ∷ ss) t h = last_in s ss t.0 t.1
