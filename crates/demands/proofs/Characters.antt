-- Char and byte literals: what is read is a CHAR_LITERAL or a BYTE_LITERAL of the Reference, and each of these is read.
-- Assumes nothing.
use Prim.Native.Nat.{ℕ, ◌+◌, ◌-◌}
use mathlib.Core.Path.{◌≡◌, refl, sym, ap, ◌∙◌, subst}
use mathlib.Core.Bool.{true}
use mathlib.Core.List.{List, [], ◌∷◌, ◌++◌, append_assoc}
use native.Mathlib.Omega.{arith}
use lib.Dec.{T, ltb}
use lib.ListN.{length, drop, length-append}
use lib.Seq.{drop_at}
use borrow.Author.Tests.{ltb-true, lt-ltb, ne_eqb}
use Rattle.err.specs.Outcome.{Values, accepted, value}
use Rattle.scan.proofs.Cases.{clash}
use Rattle.escape.specs.declared.Unescaped.{Unescaped}
use Rattle.escape.specs.declared.Unescaped.TheVariants as unescaped
use Rattle.character_quote.specs.Quote.{allowed_in}
use Rattle.character_quote.specs.Content.{special}
use Rattle.character_quote.specs.declared.Quote.{Quote}
use Rattle.character_quote.specs.declared.Quote.TheVariants.{Char, Byte}
use Rattle.character.specs.Single.{scalar_of, char_read, byte_read}
use Rattle.character.specs.Parts.{opening_of, Plain, Content, Tiled}
use Rattle.character.specs.Parts as parts
use Rattle.character.proofs.Exact.{no_kind, char_sound, byte_sound, char_complete, byte_complete}
use Rattle.grammar.specs.Notation.{Class, byte, ◌∪◌, opt}
use Rattle.grammar.specs.Suffixes.{SUFFIX}
use Rattle.grammar.specs.Quoted.{except, CHAR_CONTENT, CHAR_LITERAL, BYTE_CONTENT, BYTE_LITERAL}
use Rattle.grammar.specs.Quoted as quoted
use Rattle.grammar.specs.Meaning.{is_char, is_byte}
use Rattle.grammar.specs.Meaning as worth
use Rattle.grammar.proofs.Runs.{T_true, true_T, and_l, and_r, and_i}
use Rattle.demands.specs.Demand1.{Readable}
use Rattle.demands.proofs.Found.{Found}
use Rattle.demands.proofs.Suffixes.{suffix_is}
use Rattle.demands.proofs.Escapes.{Seven, Eight, esc_seven, seven_esc, esc_eight, eight_esc}
use Rattle.demands.proofs.Escapes as escapes

-- ---- the suffix

-- a text ends with x
abbrev pub Ends : List ℕ → List ℕ → Type 0
Ends x s = (p : List ℕ) × (s ≡ p ++ x)

-- with more bytes before it
pub past : (q : List ℕ) {x r : List ℕ} → Ends x r → Ends x (q ++ r)
past q {x} (p, e) = (q ++ p, ap (λ (l : List ℕ). q ++ l) e ∙ sym (append_assoc q p x))

pub rest_is : {x s : List ℕ} (e : ℕ) → Ends x s → e + length x ≡ length s → drop e s ≡ x
rest_is {x} e (p, is) h = ap (drop e) is ∙ drop_at p x e (omega (arith, ap length is, length-append p x))

-- where it starts
pub start_is : {x s : List ℕ} → Ends x s → length s - length x + length x ≡ length s
start_is {x} (p, is) = omega (arith, ap length is, length-append p x)

-- ---- a character that stands for itself

abbrev Special : Class
Special = byte 39 ∪ byte 92 ∪ byte 10 ∪ byte 13 ∪ byte 9

plain_to : (v : ℕ) → Plain v → T (except Special v)
unfolding special
plain_to v p =
    let no : (x : ℕ) → special x ≡ true → v ≡ x → ⊥ = λ x t e. clash (ap special e ∙ t) p.blank in
    rw (ne_eqb v 39 p.quote, ne_eqb v 92 p.backslash, ne_eqb v 10 (no 10 refl), ne_eqb v 13 (no 13 refl), ne_eqb v 9 (no 9 refl)) tt

plain_from : (v : ℕ) → T (except Special v) → Plain v
unfolding special
plain_from v t =
    let no : (x : ℕ) → v ≡ x → T (except Special x) = λ x e. subst (λ (c : ℕ). T (except Special c)) e t in
    record {
      quote = no 39;
      backslash = no 92;
      blank = rw (ne_eqb v 10 (no 10), ne_eqb v 9 (no 9), ne_eqb v 13 (no 13));
    }

-- ---- what stands between the quotes

char_to : {c : List ℕ} {v : ℕ} → Content Char c v → CHAR_CONTENT c v
char_to {v = v} (parts.char q sc p is) = quoted.char sc is (plain_to v p)
char_to (parts.byte q h p is) = absurd (no_kind q)
char_to {c} (parts.escape u x is) = rw is (go (esc_seven refl x))
  where
    go : {u : Unescaped} → Seven (allowed_in Char) c u → CHAR_CONTENT c (scalar_of u)
    go (escapes.quote w q) = quoted.quote q
    go (escapes.ascii w q z) = quoted.ascii q
    go (escapes.unicode w u q z) = quoted.unicode q

char_from : {c : List ℕ} {v : ℕ} → CHAR_CONTENT c v → Content Char c v
char_from {v = v} (quoted.char sc is t) = parts.char refl sc (plain_from v t) is
char_from {v = v} (quoted.quote q) = parts.escape (unescaped.Byte v) (seven_esc refl (escapes.quote v q)) refl
char_from {v = v} (quoted.ascii q) = parts.escape (unescaped.Byte v) (seven_esc refl (escapes.ascii v q refl)) refl
char_from {v = v} (quoted.unicode q) = parts.escape (unescaped.Unicode v) (seven_esc refl (escapes.unicode v refl q refl)) refl

byte_to : {c : List ℕ} {v : ℕ} → Content Byte c v → BYTE_CONTENT c v
byte_to (parts.char q sc p is) = absurd (no_kind (sym q))
byte_to {v = v} (parts.byte q h p is) = quoted.ascii is (and_i (ltb v 128) _ (true_T (ltb v 128) (lt-ltb v 128 h)) (plain_to v p))
byte_to {c} (parts.escape u x is) = rw is (go (esc_eight refl x))
  where
    go : {u : Unescaped} → Eight (allowed_in Byte) c u → BYTE_CONTENT c (scalar_of u)
    go (escapes.byte w q z) = quoted.escape q
    go (escapes.unicode w u q z) = clash u refl

byte_from : {c : List ℕ} {v : ℕ} → BYTE_CONTENT c v → Content Byte c v
byte_from {v = v} (quoted.ascii is t) =
    parts.byte refl (ltb-true v 128 (T_true (ltb v 128) (and_l (ltb v 128) _ t))) (plain_from v (and_r (ltb v 128) (except Special v) t)) is
byte_from {v = v} (quoted.escape q) = parts.escape (unescaped.Byte v) (eight_esc refl (escapes.byte v q refl)) refl

-- ---- the literals

tiled_ends : (q : Quote) (c x : List ℕ) {s : List ℕ} → s ≡ opening_of q ++ (c ++ (39 ∷ x)) → Ends x s
tiled_ends q c x is = let t = past (opening_of q) (past c {x = x} {r = 39 ∷ x} (39 ∷ [], refl)) in (t.0, is ∙ t.1)

-- a text of the parts has its suffix after them
tiled : (q : Quote) {s x : List ℕ} (c : List ℕ) {v : ℕ} → s ≡ opening_of q ++ (c ++ (39 ∷ x)) → Content q c v → opt SUFFIX x
    → Tiled q s (length s - length x) v
tiled q {s} {x} c is inner ending =
    record { content = c; suf = x; text = is; is = inner; suffix = (suffix_is x).1 ending; end = start_is (tiled_ends q c x is) }

pub char_found : (s : List ℕ) {k e : ℕ} {vs : Values} → Readable s → char_read s ≡ accepted k e vs → Found s k e vs
char_found s {e = e} f h =
    let (v, kind, values, t) = char_sound s h in
    record {
      worth = worth.char v;
      suffix = t.suf;
      means = is_char v (record { content = t.content; is = t.text; inner = char_to t.is; ending = (suffix_is t.suf).0 t.suffix }) refl;
      kind = kind;
      rest = rest_is e (tiled_ends Char t.content t.suf t.text) t.end;
      gives = values;
    }

pub byte_found : (s : List ℕ) {k e : ℕ} {vs : Values} → Readable s → byte_read s ≡ accepted k e vs → Found s k e vs
byte_found s {e = e} f h =
    let (v, kind, values, t) = byte_sound s h in
    record {
      worth = worth.byte v;
      suffix = t.suf;
      means = is_byte v (record { content = t.content; is = t.text; inner = byte_to t.is; ending = (suffix_is t.suf).0 t.suffix }) refl;
      kind = kind;
      rest = rest_is e (tiled_ends Byte t.content t.suf t.text) t.end;
      gives = values;
    }

pub char_read_lem : (s : List ℕ) {v : ℕ} {x : List ℕ} → CHAR_LITERAL s v x → (e : ℕ) × (vs : Values) × (char_read s ≡ accepted 4 e vs)
char_read_lem s {v} {x} l =
    (length s - length x, value v, char_complete s (tiled Char l.content l.is (char_from l.inner) l.ending))

pub byte_read_lem : (s : List ℕ) {v : ℕ} {x : List ℕ} → BYTE_LITERAL s v x → (e : ℕ) × (vs : Values) × (byte_read s ≡ accepted 6 e vs)
byte_read_lem s {v} {x} l =
    (length s - length x, value v, byte_complete s (tiled Byte l.content l.is (byte_from l.inner) l.ending))
