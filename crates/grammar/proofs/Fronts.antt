-- What stands at the front of a quoted body is determined: a byte, an escape, a character.
-- Assumes nothing.
use mathlib.Core.Path.{◌≡◌, refl, sym, ap, ◌∙◌, subst, subst⁻¹}
use mathlib.Core.Bool.{cond}
use mathlib.Core.List.{List, [], ◌∷◌, ◌++◌, append_assoc, tail-eq_of_cons-eq}
use Prim.Native.Nat.{ℕ, zero, suc, ◌+◌, ◌*◌, ◌/◌}
use native.Mathlib.Omega.{arith}
use lib.Dec.{T, eqb, eqb→eq, ltb}
use lib.ListN.{length, drop, get_or, length-append}
use borrow.Author.Tests.{ne_eqb}
use Rattle.utf8.specs.Utf8.{encode}
use Rattle.utf8.specs.Decode.{decode}
use Rattle.std.specs.Prelude.{Option, Some, None}
use Rattle.utf8.proofs.Laws.{by_row, decode_encode}
use Rattle.grammar.specs.Notation.{Class, byte, ◌∪◌, all, begins}
use Rattle.grammar.specs.Suffixes.{LOW}
use Rattle.grammar.specs.Numbers.{HEX_DIGIT}
use Rattle.grammar.specs.Values.{digit_value, number_in, before}
use Rattle.grammar.specs.Escapes.{QUOTE_ESCAPE, apostrophe, quotation_mark, COMMON_ESCAPE, lf, cr, ht, reverse_solidus, nul, ASCII_ESCAPE, BYTE_ESCAPE, HEX_GROUPS, UNICODE_ESCAPE, WHITESPACE, STRING_CONTINUE}
use Rattle.grammar.specs.Quoted.{except, CHAR_CONTENT, BYTE_CONTENT, STRING_PIECE, BYTE_STRING_PIECE, C_STRING_PIECE}
use Rattle.grammar.proofs.Scan.{take_while}
use Rattle.grammar.proofs.Runs.{not_t, and_l, and_r, and_i, or_l, or_r, span_only, all_append, before_stop}
use Rattle.grammar.proofs.Splits.{same_split, Needs}

-- ---- what the first bytes say

-- a byte by itself; an escape of so many bytes with a number; the same in braces; a string continuation of so many bytes
pub data Found : Type 0 where
  plain : ℕ → Found
  code : ℕ → ℕ → Found
  scalar : ℕ → ℕ → Found
  blank : ℕ → Found

abbrev pub size_of : Found → ℕ
size_of (plain c) = 1
size_of (code n v) = n
size_of (scalar n v) = n
size_of (blank n) = n

-- the letter after the backslash, where it says all
abbrev letter : ℕ → ℕ
letter c = cond (eqb c 110) 10 (cond (eqb c 114) 13 (cond (eqb c 116) 9 (cond (eqb c 48) 0 c)))

-- after the backslash
abbrev escaped : List ℕ → Found
escaped [] = plain 92
escaped (c ∷ s) =
    cond (eqb c 120) (code 4 (digit_value (get_or s 0 0) * 16 + digit_value (get_or s 1 0)))
    (cond (eqb c 117) (scalar (4 + length (before (byte 125) (drop 1 s))) (number_in 16 (before (byte 125) (drop 1 s))))
    (cond (eqb c 10) (blank (2 + length (take_while WHITESPACE s)))
    (code 2 (letter c))))

abbrev pub found : List ℕ → Found
found [] = plain 34
found (c ∷ s) = cond (eqb c 92) (escaped s) (plain c)

-- ---- each production's front

plain_found : (c : ℕ) (x : List ℕ) → (c ≡ 92 → ⊥) → found (c ∷ x) ≡ plain c
plain_found c x n = rw (ne_eqb c 92 n)

quote_found : {t : List ℕ} {v : ℕ} (x : List ℕ) → QUOTE_ESCAPE t v → found (t ++ x) ≡ code (length t) v
quote_found x apostrophe = refl
quote_found x quotation_mark = refl

simple_found : {t : List ℕ} {v : ℕ} (x : List ℕ) → COMMON_ESCAPE t v → found (t ++ x) ≡ code (length t) v
simple_found x lf = refl
simple_found x cr = refl
simple_found x ht = refl
simple_found x reverse_solidus = refl
simple_found x nul = refl

ascii_found : {t : List ℕ} {v : ℕ} (x : List ℕ) → ASCII_ESCAPE t v → found (t ++ x) ≡ code (length t) v
ascii_found x (ASCII_ESCAPE.code a b i j) = refl
ascii_found x (ASCII_ESCAPE.simple m) = simple_found x m

byte_found : {t : List ℕ} {v : ℕ} (x : List ℕ) → BYTE_ESCAPE t v → found (t ++ x) ≡ code (length t) v
byte_found x (BYTE_ESCAPE.code a b i j) = refl
byte_found x (BYTE_ESCAPE.simple m) = simple_found x m
byte_found x (BYTE_ESCAPE.quote m) = quote_found x m

-- the digits of a unicode escape, and so no brace among them
groups_all : (n : ℕ) (d : List ℕ) → HEX_GROUPS n d → T (all (HEX_DIGIT ∪ LOW) d)
groups_all zero d e = rw e tt
groups_all (suc n) d m =
    let k = m.3 in
    let g = m.4 in
    rw (m.2, k.1, g.2)
    (and_i ((HEX_DIGIT ∪ LOW) k.0) _ (or_l (HEX_DIGIT k.0) (LOW k.0) k.2)
    (all_append (HEX_DIGIT ∪ LOW) g.0 g.1 (lows g.0 g.3) (groups_all n g.1 g.4)))
  where
    lows : (l : List ℕ) → T (all LOW l) → T (all (HEX_DIGIT ∪ LOW) l)
    lows [] a = tt
    lows (c ∷ l) a = and_i ((HEX_DIGIT ∪ LOW) c) _ (or_r (HEX_DIGIT c) (LOW c) (and_l (LOW c) _ a)) (lows l (and_r (LOW c) _ a))

no_brace : (k : ℕ) → T ((HEX_DIGIT ∪ LOW) k) → T (byte 125 k) → ⊥
unfolding HEX_DIGIT LOW
no_brace k h e = subst (λ (c : ℕ). T ((HEX_DIGIT ∪ LOW) c)) (eqb→eq k 125 e) h

unicode_found : {t : List ℕ} {v : ℕ} (x : List ℕ) → UNICODE_ESCAPE t v → found (t ++ x) ≡ scalar (length t) v
unicode_found {t} {v} x m =
    let b = (before_stop (byte 125) (HEX_DIGIT ∪ LOW) no_brace m.digits 125 x (groups_all m.count m.digits m.groups) tt).0 in
    rw (m.is, m.value, append_assoc, b) (ap (λ (n : ℕ). scalar n (number_in 16 m.digits)) (omega (arith, length-append m.digits (125 ∷ []))))

-- all whitespace after the line break, up to the quote
blanks_end : (r x : List ℕ) → (T (begins WHITESPACE r) → ⊥) → T (begins WHITESPACE (r ++ (34 ∷ x))) → ⊥
unfolding WHITESPACE
blanks_end [] x n t = t
blanks_end (c ∷ r) x n t = n t

continue_found : {t r : List ℕ} (x : List ℕ) → STRING_CONTINUE t r → found (t ++ (r ++ (34 ∷ x))) ≡ blank (length t)
continue_found {t} {r} x m =
    rw (m.is, (span_only WHITESPACE m.blanks (r ++ (34 ∷ x)) m.white (blanks_end r x m.next)).0) (ap blank (omega arith))

-- ---- pieces of the three strings with escapes

-- no quote
abbrev Inside : Found → Type 0
Inside (plain c) = c ≡ 34 → ⊥
Inside (code n v) = Unit {0}
Inside (scalar n v) = Unit {0}
Inside (blank n) = Unit {0}

-- the front of s is the piece t with the worth w
record Reads (worth : Found → List ℕ) (t w s : List ℕ) : Type 0 where
  front : Found
  is : found s ≡ front
  size : size_of front ≡ length t
  value : w ≡ worth front
  inside : Inside front

module _ (Piece : List ℕ → List ℕ → List ℕ → Type 0) (worth : Found → List ℕ)
    (reads : (t w r x : List ℕ) → Piece t w r → Reads worth t w (t ++ (r ++ (34 ∷ x)))) where
  reads_inner : (t w r x y : List ℕ) → Piece t w r → 34 ∷ x ≡ t ++ (r ++ (34 ∷ y)) → ⊥
  reads_inner t w r x y p e =
      let a = reads t w r y p in
      let h : plain 34 ≡ a.front = ap found e ∙ a.is in
      subst⁻¹ Inside h a.inside refl

  reads_alone : (t w r t' w' r' x y : List ℕ) → Piece t w r → Piece t' w' r' → t ++ (r ++ (34 ∷ x)) ≡ t' ++ (r' ++ (34 ∷ y))
      → (t ≡ t') × (w ≡ w')
  reads_alone t w r t' w' r' x y p q e =
      let a = reads t w r x p in
      let b = reads t' w' r' y q in
      let h : a.front ≡ b.front = sym a.is ∙ ap found e ∙ b.is in
      ((same_split t t' _ _ (sym a.size ∙ ap size_of h ∙ b.size) e).0, a.value ∙ ap worth h ∙ sym b.value)

  reads_needs : Needs Piece
  reads_needs = record { inner = reads_inner; alone = reads_alone }

-- one byte that is no quote and no backslash
one_reads : (worth : Found → List ℕ) {t : List ℕ} (z : List ℕ) (c : ℕ) → t ≡ c ∷ [] → (c ≡ 34 → ⊥) → (c ≡ 92 → ⊥)
    → Reads worth t (worth (plain c)) (t ++ z)
one_reads worth z c e n m = record { front = plain c; is = rw e (plain_found c z m); size = sym (ap length e); value = refl; inside = n }

-- an escape
escape_reads : (worth : Found → List ℕ) {t w s : List ℕ} (f : Found) → found s ≡ f → size_of f ≡ length t → w ≡ worth f → Inside f → Reads worth t w s
escape_reads worth f e n h i = record { front = f; is = e; size = n; value = h; inside = i }

not_in : (f : Class) (k c : ℕ) → T (except f c) → T (f k) → c ≡ k → ⊥
not_in f k c n t e = not_t (f c) n (subst⁻¹ (λ (j : ℕ). T (f j)) e t)

abbrev string_worth : Found → List ℕ
string_worth (plain c) = c ∷ []
string_worth (code n v) = encode v
string_worth (scalar n v) = encode v
string_worth (blank n) = []

string_reads : (t w r x : List ℕ) → STRING_PIECE t w r → Reads string_worth t w (t ++ (r ++ (34 ∷ x)))
string_reads t w r x (STRING_PIECE.char c e n h) =
    rw h (one_reads string_worth _ c e (not_in (byte 34 ∪ byte 92 ∪ byte 13) 34 c n tt) (not_in (byte 34 ∪ byte 92 ∪ byte 13) 92 c n tt))
string_reads t w r x (STRING_PIECE.quote v m h) = escape_reads string_worth (code (length t) v) (quote_found _ m) refl h tt
string_reads t w r x (STRING_PIECE.ascii v m h) = escape_reads string_worth (code (length t) v) (ascii_found _ m) refl h tt
string_reads t w r x (STRING_PIECE.unicode v m h) = escape_reads string_worth (scalar (length t) v) (unicode_found _ m) refl h tt
string_reads t w r x (STRING_PIECE.continue m h) = escape_reads string_worth (blank (length t)) (continue_found x m) refl h tt

abbrev byte_worth : Found → List ℕ
byte_worth (plain c) = c ∷ []
byte_worth (code n v) = v ∷ []
byte_worth (scalar n v) = encode v
byte_worth (blank n) = []

byte_string_reads : (t w r x : List ℕ) → BYTE_STRING_PIECE t w r → Reads byte_worth t w (t ++ (r ++ (34 ∷ x)))
byte_string_reads t w r x (BYTE_STRING_PIECE.ascii c e n h) =
    let m = and_r (ltb c 128) (except (byte 34 ∪ byte 92 ∪ byte 13) c) n in
    rw h (one_reads byte_worth _ c e (not_in (byte 34 ∪ byte 92 ∪ byte 13) 34 c m tt) (not_in (byte 34 ∪ byte 92 ∪ byte 13) 92 c m tt))
byte_string_reads t w r x (BYTE_STRING_PIECE.escape v m h) = escape_reads byte_worth (code (length t) v) (byte_found _ m) refl h tt
byte_string_reads t w r x (BYTE_STRING_PIECE.continue m h) = escape_reads byte_worth (blank (length t)) (continue_found x m) refl h tt

c_string_reads : (t w r x : List ℕ) → C_STRING_PIECE t w r → Reads byte_worth t w (t ++ (r ++ (34 ∷ x)))
c_string_reads t w r x (C_STRING_PIECE.char c e n h) =
    let f = byte 34 ∪ byte 92 ∪ byte 13 ∪ byte 0 in
    rw h (one_reads byte_worth _ c e (not_in f 34 c n tt) (not_in f 92 c n tt))
c_string_reads t w r x (C_STRING_PIECE.escape v m l h) = escape_reads byte_worth (code (length t) v) (byte_found _ m) refl h tt
c_string_reads t w r x (C_STRING_PIECE.unicode v m l h) = escape_reads byte_worth (scalar (length t) v) (unicode_found _ m) refl h tt
c_string_reads t w r x (C_STRING_PIECE.continue m h) = escape_reads byte_worth (blank (length t)) (continue_found x m) refl h tt

pub string_needs : Needs STRING_PIECE
string_needs = reads_needs STRING_PIECE string_worth string_reads

pub byte_string_needs : Needs BYTE_STRING_PIECE
byte_string_needs = reads_needs BYTE_STRING_PIECE byte_worth byte_string_reads

pub c_string_needs : Needs C_STRING_PIECE
c_string_needs = reads_needs C_STRING_PIECE byte_worth c_string_reads

-- ---- one character

-- how many bytes and which character
abbrev char_pair : Option (ℕ × ℕ) → ℕ × ℕ
char_pair (Some (v, n)) = (n, v)
char_pair None = (0, 0)

abbrev char_of : Found → List ℕ → ℕ × ℕ
char_of (plain c) s = char_pair (decode s)
char_of (code n v) s = (n, v)
char_of (scalar n v) s = (n, v)
char_of (blank n) s = (n, 0)

abbrev byte_of : Found → List ℕ → ℕ × ℕ
byte_of (plain c) s = (1, c)
byte_of (code n v) s = (n, v)
byte_of (scalar n v) s = (n, v)
byte_of (blank n) s = (n, 0)

-- a character that is no backslash does not begin with one
char_first : (v : ℕ) → (v ≡ 92 → ⊥) → (c : ℕ) × (l : List ℕ) × (encode v ≡ c ∷ l) × (c ≡ 92 → ⊥)
char_first v n =
    by_row v (λ e. (c : ℕ) × (l : List ℕ) × (e ≡ c ∷ l) × (c ≡ 92 → ⊥)) (λ h. (v, [], refl, n)) (λ g h. (0xC0 + v / 64, _, refl, λ e. omega arith))
    (λ g h. (0xE0 + v / 4096, _, refl, λ e. omega arith)) (λ g. (0xF0 + v / 262144, _, refl, λ e. omega arith))

char_plain : (v : ℕ) (x : List ℕ) → (v ≡ 92 → ⊥) → (c : ℕ) × (found (encode v ++ x) ≡ plain c)
char_plain v x n = let h = char_first v n in (h.0, rw h.2 (plain_found h.0 (h.1 ++ x) h.3))

char_reads : (t : List ℕ) (v : ℕ) (x : List ℕ) → CHAR_CONTENT t v → char_of (found (t ++ x)) (t ++ x) ≡ (length t, v)
char_reads t v x (CHAR_CONTENT.char y e n) =
    rw (e, (char_plain v x (not_in (byte 39 ∪ byte 92 ∪ byte 10 ∪ byte 13 ∪ byte 9) 92 v n tt)).1, decode_encode v x y)
char_reads t v x (CHAR_CONTENT.quote m) = rw (quote_found x m)
char_reads t v x (CHAR_CONTENT.ascii m) = rw (ascii_found x m)
char_reads t v x (CHAR_CONTENT.unicode m) = rw (unicode_found x m)

byte_reads : (t : List ℕ) (v : ℕ) (x : List ℕ) → BYTE_CONTENT t v → byte_of (found (t ++ x)) (t ++ x) ≡ (length t, v)
byte_reads t v x (BYTE_CONTENT.ascii e n) =
    let m = and_r (ltb v 128) (except (byte 39 ∪ byte 92 ∪ byte 10 ∪ byte 13 ∪ byte 9) v) n in
    rw (e, plain_found v x (not_in (byte 39 ∪ byte 92 ∪ byte 10 ∪ byte 13 ∪ byte 9) 92 v m tt))
byte_reads t v x (BYTE_CONTENT.escape m) = rw (byte_found x m)

-- a content that its front tells is determined, and so is what stands after its apostrophe
module _ (Content : List ℕ → ℕ → Type 0) (of : Found → List ℕ → ℕ × ℕ)
    (reads : (t : List ℕ) (v : ℕ) (x : List ℕ) → Content t v → of (found (t ++ x)) (t ++ x) ≡ (length t, v)) where
  content_unique : (t t' : List ℕ) (v v' : ℕ) (x y : List ℕ) → Content t v → Content t' v' → t ++ (39 ∷ x) ≡ t' ++ (39 ∷ y)
      → (t ≡ t') × (v ≡ v') × (x ≡ y)
  content_unique t t' v v' x y a b e =
      let h : ◌≡◌ {A = ℕ × ℕ} (length t, v) (length t', v') =
      sym (reads t v (39 ∷ x) a) ∙ ap (λ (s : List ℕ). of (found s) s) e ∙ reads t' v' (39 ∷ y) b in
      let k = same_split t t' _ _ (ap (λ (p : ℕ × ℕ). p.0) h) e in
      (k.0, ap (λ (p : ℕ × ℕ). p.1) h, tail-eq_of_cons-eq k.1)

pub char_unique : (t t' : List ℕ) (v v' : ℕ) (x y : List ℕ) → CHAR_CONTENT t v → CHAR_CONTENT t' v' → t ++ (39 ∷ x) ≡ t' ++ (39 ∷ y)
    → (t ≡ t') × (v ≡ v') × (x ≡ y)
char_unique = content_unique CHAR_CONTENT char_of char_reads

pub byte_unique : (t t' : List ℕ) (v v' : ℕ) (x y : List ℕ) → BYTE_CONTENT t v → BYTE_CONTENT t' v' → t ++ (39 ∷ x) ≡ t' ++ (39 ∷ y)
    → (t ≡ t') × (v ≡ v') × (x ≡ y)
byte_unique = content_unique BYTE_CONTENT byte_of byte_reads
