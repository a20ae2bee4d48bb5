-- Each text has at most one meaning: kind, exact value and suffix.
-- Assumes nothing.
use mathlib.Core.Path.{◌≡◌, sym, ap, ◌∙◌, subst, subst⁻¹}
use mathlib.Core.Logic.{◌⊎◌, inl, inr}
use mathlib.Core.Bool.{true, false, cond}
use mathlib.Core.List.{List, [], ◌∷◌, append_cancel_left, tail-eq_of_cons-eq}
use Prim.Native.Nat.{ℕ}
use native.Mathlib.Omega.{arith}
use lib.Dec.{T, eqb}
use lib.ListN.{get_or}
use borrow.Author.Tests.{ne_eqb}
use Rattle.grammar.specs.Notation.{begins, byte}
use Rattle.grammar.specs.Suffixes.{DEC_DIGIT}
use Rattle.grammar.specs.Numbers.{INTEGER_LITERAL, FLOAT_LITERAL}
use Rattle.grammar.specs.Quoted.{CHAR_LITERAL, BYTE_LITERAL, Quoted, STRING_PIECE, BYTE_STRING_PIECE, C_STRING_PIECE, STRING_LITERAL, RAW_STRING_LITERAL, BYTE_STRING_LITERAL, RAW_BYTE_STRING_LITERAL, C_STRING_LITERAL, RAW_C_STRING_LITERAL}
use Rattle.grammar.specs.Values.{integer_value, float_value}
use Rattle.grammar.specs.Meaning.{Worth, Means, is_true, is_false, is_integer, is_float, is_char, is_string, is_raw_string, is_byte, is_byte_string, is_raw_byte_string, is_c_string, is_raw_c_string}
use Rattle.grammar.proofs.Scan.{integer_ok, float_ok}
use Rattle.grammar.proofs.Integers.{range_is, integer_iff}
use Rattle.grammar.proofs.Floats.{float_iff}
use Rattle.grammar.proofs.Splits.{Needs, pieces_unique, raw_unique}
use Rattle.grammar.proofs.Fronts.{char_unique, byte_unique, string_needs, byte_string_needs, c_string_needs}
use Rattle.grammar.proofs.NumberSplits.{integer_unique, float_unique, integer_first, float_first, integer_no_float}

-- ---- which production: the first two bytes tell

pub data Kind : Type 0 where
  true_k : Kind
  false_k : Kind
  number_k : Kind
  char_k : Kind
  string_k : Kind
  raw_string_k : Kind
  byte_k : Kind
  byte_string_k : Kind
  raw_byte_string_k : Kind
  c_string_k : Kind
  raw_c_string_k : Kind

-- after `b`, and after `c`
abbrev after_b : ℕ → Kind
after_b c = cond (eqb c 39) byte_k (cond (eqb c 34) byte_string_k raw_byte_string_k)

abbrev after_c : ℕ → Kind
after_c c = cond (eqb c 34) c_string_k raw_c_string_k

abbrev kind_by : ℕ → ℕ → Kind
kind_by a b =
    cond (eqb a 39) char_k
    (cond (eqb a 34) string_k
    (cond (eqb a 114) raw_string_k
    (cond (eqb a 98) (after_b b)
    (cond (eqb a 99) (after_c b)
    (cond (eqb a 116) true_k
    (cond (eqb a 102) false_k
    number_k))))))

abbrev pub kind_at : List ℕ → Kind
kind_at s = kind_by (get_or s 0 0) (get_or s 1 0)

-- what a text of each kind is
abbrev pub Form : Kind → List ℕ → Worth → List ℕ → Type 0
Form true_k s w x = (w ≡ Worth.bool true) × (x ≡ [])
Form false_k s w x = (w ≡ Worth.bool false) × (x ≡ [])
Form number_k s w x =
    ((t : INTEGER_LITERAL s) × (w ≡ Worth.integer (integer_value t.part)) × (x ≡ t.suffix))
    ⊎ ((t : FLOAT_LITERAL s) × (w ≡ Worth.float (float_value t.part)) × (x ≡ t.suffix))
Form char_k s w x = (v : ℕ) × CHAR_LITERAL s v x × (w ≡ Worth.char v)
Form string_k s w x = (v : List ℕ) × STRING_LITERAL s v x × (w ≡ Worth.string v)
Form raw_string_k s w x = (v : List ℕ) × RAW_STRING_LITERAL s v x × (w ≡ Worth.string v)
Form byte_k s w x = (v : ℕ) × BYTE_LITERAL s v x × (w ≡ Worth.byte v)
Form byte_string_k s w x = (v : List ℕ) × BYTE_STRING_LITERAL s v x × (w ≡ Worth.byte_string v)
Form raw_byte_string_k s w x = (v : List ℕ) × RAW_BYTE_STRING_LITERAL s v x × (w ≡ Worth.byte_string v)
Form c_string_k s w x = (v : List ℕ) × C_STRING_LITERAL s v x × (w ≡ Worth.c_string v)
Form raw_c_string_k s w x = (v : List ℕ) × RAW_C_STRING_LITERAL s v x × (w ≡ Worth.c_string v)

number_kind : (s : List ℕ) → T (begins DEC_DIGIT s) → kind_at s ≡ number_k
unfolding DEC_DIGIT
number_kind [] t = absurd t
number_kind (c ∷ s) t =
    let h = range_is 48 57 c t in
    rw (
      ne_eqb c 39 (λ e. omega (arith, e)),
      ne_eqb c 34 (λ e. omega (arith, e)),
      ne_eqb c 114 (λ e. omega (arith, e)),
      ne_eqb c 98 (λ e. omega (arith, e)),
      ne_eqb c 99 (λ e. omega (arith, e)),
      ne_eqb c 116 (λ e. omega (arith, e)),
      ne_eqb c 102 (λ e. omega (arith, e)),
    )

-- a meaning is of the kind that the first bytes tell
pub means_form : (s : List ℕ) (w : Worth) (x : List ℕ) → Means s w x → Form (kind_at s) s w x
means_form s w x m = go m
  where
    to : (k : Kind) → kind_at s ≡ k → Form k s w x → Form (kind_at s) s w x
    to k e f = subst⁻¹ (λ (j : Kind). Form j s w x) e f

    go : Means s w x → Form (kind_at s) s w x
    go (is_true e a b) = to true_k (ap kind_at e) (a, b)
    go (is_false e a b) = to false_k (ap kind_at e) (a, b)
    go (is_integer t a b) = to number_k (number_kind s (integer_first s t)) (inl (t, a, b))
    go (is_float t a b) = to number_k (number_kind s (float_first s t)) (inr (t, a, b))
    go (is_char v t a) = to char_k (ap kind_at t.is) (v, t, a)
    go (is_string v t a) = to string_k (ap kind_at t.is) (v, t, a)
    go (is_raw_string v t a) = to raw_string_k (ap kind_at t.is) (v, t, a)
    go (is_byte v t a) = to byte_k (ap kind_at t.is) (v, t, a)
    go (is_byte_string v t a) = to byte_string_k (ap kind_at t.is) (v, t, a)
    go (is_raw_byte_string v t a) = to raw_byte_string_k (ap kind_at t.is) (v, t, a)
    go (is_c_string v t a) = to c_string_k (ap kind_at t.is) (v, t, a)
    go (is_raw_c_string v t a) = to raw_c_string_k (ap kind_at t.is) (v, t, a)

-- ---- within a production

-- a string with escapes: body, worth and suffix are determined
pub quoted_unique : (Piece : List ℕ → List ℕ → List ℕ → Type 0) → Needs Piece → (opening s v w x y : List ℕ)
    → (a : Quoted Piece opening s v x) → (b : Quoted Piece opening s w y) → (a.content ≡ b.content) × (v ≡ w) × (x ≡ y)
quoted_unique Piece n opening s v w x y a b =
    pieces_unique Piece n x y a.inner b.inner (append_cancel_left opening _ _ (sym a.is ∙ b.is))

pub char_literal_unique : (s : List ℕ) (v w : ℕ) (x y : List ℕ) → (a : CHAR_LITERAL s v x) → (b : CHAR_LITERAL s w y)
    → (a.content ≡ b.content) × (v ≡ w) × (x ≡ y)
char_literal_unique s v w x y a b =
    char_unique a.content b.content v w x y a.inner b.inner (tail-eq_of_cons-eq (sym a.is ∙ b.is))

pub byte_literal_unique : (s : List ℕ) (v w : ℕ) (x y : List ℕ) → (a : BYTE_LITERAL s v x) → (b : BYTE_LITERAL s w y)
    → (a.content ≡ b.content) × (v ≡ w) × (x ≡ y)
byte_literal_unique s v w x y a b =
    byte_unique a.content b.content v w x y a.inner b.inner (tail-eq_of_cons-eq (tail-eq_of_cons-eq (sym a.is ∙ b.is)))

-- the worth follows from the value; K is what else a split says
worth_unique : {A K : Type 0} (f : A → Worth) (a b : A) (v w : Worth) (x y : List ℕ) → v ≡ f a → w ≡ f b → K × (a ≡ b) × (x ≡ y) → (v ≡ w) × (x ≡ y)
worth_unique f a b v w x y p q h = (p ∙ ap f h.1 ∙ sym q, h.2)

form_unique : (k : Kind) (s : List ℕ) (v w : Worth) (x y : List ℕ) → Form k s v x → Form k s w y → (v ≡ w) × (x ≡ y)
form_unique true_k s v w x y a b = ((cc), (cc))
form_unique false_k s v w x y a b = ((cc), (cc))
form_unique number_k s v w x y (inl (i, p, q)) (inl (j, p', q')) =
    let h = integer_unique s i j in
    worth_unique Worth.integer (integer_value i.part) (integer_value j.part) v w x y p p' (h.0, ap integer_value h.0, q ∙ h.1 ∙ sym q')
form_unique number_k s v w x y (inl a) (inr b) = absurd (integer_no_float s a.0 b.0)
form_unique number_k s v w x y (inr a) (inl b) = absurd (integer_no_float s b.0 a.0)
form_unique number_k s v w x y (inr (i, p, q)) (inr (j, p', q')) =
    let h = float_unique s i j in
    worth_unique Worth.float (float_value i.part) (float_value j.part) v w x y p p' (h.0, ap float_value h.0, q ∙ h.1 ∙ sym q')
form_unique char_k s v w x y (a, l, p) (b, m, q) = worth_unique Worth.char a b v w x y p q (char_literal_unique s a b x y l m)
form_unique string_k s v w x y (a, l, p) (b, m, q) =
    worth_unique Worth.string a b v w x y p q (quoted_unique STRING_PIECE string_needs (34 ∷ []) s a b x y l m)
form_unique raw_string_k s v w x y (a, l, p) (b, m, q) =
    worth_unique Worth.string a b v w x y p q (raw_unique _ (114 ∷ []) s a b x y l m)
form_unique byte_k s v w x y (a, l, p) (b, m, q) = worth_unique Worth.byte a b v w x y p q (byte_literal_unique s a b x y l m)
form_unique byte_string_k s v w x y (a, l, p) (b, m, q) =
    worth_unique Worth.byte_string a b v w x y p q (quoted_unique BYTE_STRING_PIECE byte_string_needs (98 ∷ 34 ∷ []) s a b x y l m)
form_unique raw_byte_string_k s v w x y (a, l, p) (b, m, q) =
    worth_unique Worth.byte_string a b v w x y p q (raw_unique _ (98 ∷ 114 ∷ []) s a b x y l m)
form_unique c_string_k s v w x y (a, l, p) (b, m, q) =
    worth_unique Worth.c_string a b v w x y p q (quoted_unique C_STRING_PIECE c_string_needs (99 ∷ 34 ∷ []) s a b x y l m)
form_unique raw_c_string_k s v w x y (a, l, p) (b, m, q) =
    worth_unique Worth.c_string a b v w x y p q (raw_unique _ (99 ∷ 114 ∷ []) s a b x y l m)

-- The grammar is unambiguous: kind, exact value and suffix of a text are determined.
pub unambiguous : (s x y : List ℕ) (v w : Worth) → Means s v x → Means s w y → (v ≡ w) × (x ≡ y)
unambiguous s x y v w a b = form_unique (kind_at s) s v w x y (means_form s v x a) (means_form s w y b)

-- a text that begins like a number and is none has no meaning
pub no_number : (s : List ℕ) → kind_at s ≡ number_k → (T (integer_ok s) → ⊥) → (T (float_ok s) → ⊥) → (w : Worth) (x : List ℕ) → Means s w x → ⊥
no_number s k i f w x m = go (subst (λ (j : Kind). Form j s w x) k (means_form s w x m))
  where
    go : Form number_k s w x → ⊥
    go (inl t) = i ((integer_iff s).1 t.0)
    go (inr t) = f ((float_iff s).1 t.0)
