-- A char or byte literal is read exactly where its parts stand: opening, content, closing quote and a good suffix. A refusal is in the text.
-- Assumes nothing.
use mathlib.Core.Path.{◌≡◌, refl, ap, sym, ◌∙◌, subst}
use mathlib.Core.Bool.{true, ◌&&◌}
use mathlib.Core.Logic.{◌⊎◌, inl, inr}
use mathlib.Core.List.{List, [], ◌∷◌, ◌++◌, append_assoc}
use Prim.Native.Nat.{ℕ, suc, ◌+◌, ◌-◌, ◌≤◌, ◌<◌}
use native.Mathlib.Nat.{add-zero}
use native.Mathlib.Numerals.{add-one}
use native.Mathlib.Omega.{arith}
use lib.Dec.{eqb}
use lib.ListN.{length, get_or, take, drop, length-append, length-drop, take-append-drop}
use lib.Seq.{drop-cons, drop-drop, drop-append-add, drop_at, get_or_at, get_or-drop}
use borrow.Author.Tests.{ne_eqb, lt-ltb, eqb-true}
use Rattle.err.specs.Outcome.{Outcome, Place, Values, none, refused, accepted, value, RefusedIn}
use Rattle.scan.specs.Run.{run}
use Rattle.scan.specs.Sets.{except}
use Rattle.scan.proofs.Cases.{cond_in, cond_eq, cond_lt, clash}
use Rattle.suffix.specs.Suffix.{suffix_fault}
use Rattle.parse.proofs.Classes.{both}
use Rattle.utf8.specs.Utf8.{Scalar, encode}
use Rattle.utf8.specs.Decode.{decode}
use Rattle.utf8.specs.Cut.{continuation}
use Rattle.std.specs.Prelude.{Option, Some, None}
use Rattle.utf8.proofs.At.{found_at}
use Rattle.utf8.proofs.Laws.{by_row, decode_encode}
use Rattle.escape.specs.Escape.{Escaped, escape_of}
use Rattle.escape.specs.Escape as escape
use Rattle.escape.specs.Pieces.{Esc}
use Rattle.escape.specs.declared.Unescaped.{Unescaped}
use Rattle.escape.proofs.Exact.{Escapes, escape_sound, escaped, first_two}
use Rattle.character_quote.specs.Quote.{quote_kind, offset_of, allowed_in, unterminated, overlong, empty}
use Rattle.character_quote.specs.Content.{Quoted, decoded_by, plain_at, special, quote_at}
use Rattle.character_quote.specs.declared.Quote.{Quote}
use Rattle.character_quote.specs.declared.Quote.TheVariants.{Char, Byte}
use Rattle.character.specs.Single.{suffixed_at, closed_at, scalar_of, escaped_by, escaped_at, first_at, closed_by, single_at, char_read, byte_read}
use Rattle.character.specs.Parts.{opening_of, Plain, Content, char, byte, escape, Tiled}
use Rattle.character.proofs.Within.{quote_there, escape_refused, suffix_refused}

-- ---- a character that stands for itself, by its first byte

plain_high : (v : ℕ) → 0x80 ≤ v → Plain v
unfolding special
plain_high v h = record {
  quote = λ e. omega arith;
  backslash = λ e. omega arith;
  blank = rw (ne_eqb v 10 (λ e. omega arith), ne_eqb v 9 (λ e. omega arith), ne_eqb v 13 (λ e. omega arith));
}

-- the first byte is the character, or both are above 127
pub first_byte : (v : ℕ) (r : List ℕ) → (get_or (encode v ++ r) 0 0 ≡ v) ⊎ ((0x80 ≤ v) × (0x80 ≤ get_or (encode v ++ r) 0 0))
first_byte v r =
    by_row v (λ l. (get_or (l ++ r) 0 0 ≡ v) ⊎ ((0x80 ≤ v) × (0x80 ≤ get_or (l ++ r) 0 0)))
    (λ h. inl refl) (λ g h. inr (g, omega arith)) (λ g h. inr (omega arith, omega arith)) (λ g. inr (omega arith, omega arith))

-- so both are plain or none is
pub plain_char : (v b : ℕ) → (b ≡ v) ⊎ ((0x80 ≤ v) × (0x80 ≤ b)) → Plain b → Plain v
plain_char v b (inl e) p = subst Plain e p
plain_char v b (inr h) p = plain_high v h.0

plain_byte : (v b : ℕ) → (b ≡ v) ⊎ ((0x80 ≤ v) × (0x80 ≤ b)) → Plain v → Plain b
plain_byte v b (inl e) p = rw e p
plain_byte v b (inr h) p = plain_high b h.1

-- ---- what is read stands there

abbrev Sound : Quote → List ℕ → Outcome → Type 0
Sound q s (refused n p) = RefusedIn (length s) n p
Sound q s (accepted k e vs) = (v : ℕ) × (k ≡ quote_kind q) × (vs ≡ value v) × Tiled q s e v

-- the refusals of either kind
kinds_in : (q : Quote) (m : ℕ) → RefusedIn m (unterminated q) none × RefusedIn m (overlong q) none × RefusedIn m (empty q) none
kinds_in Char m = ((omega arith, omega arith, tt), (omega arith, omega arith, tt), (omega arith, omega arith, tt))
kinds_in Byte m = ((omega arith, omega arith, tt), (omega arith, omega arith, tt), (omega arith, omega arith, tt))

module _ (q : Quote) (s : List ℕ) (opens : s ≡ opening_of q ++ drop (offset_of q) s) where
  closed_sound : (at v : ℕ) (c : List ℕ) → Content q c v → c ++ drop at s ≡ drop (offset_of q) s → Sound q s (closed_at q s at v)
  unfolding closed_at suffixed_at
  closed_sound at v c is e =
      let P : Outcome → Type 0 = Sound q s in
      cond_eq P (get_or s at 0) 39 (λ quote.
      cond_eq P (suffix_fault (drop (at + 1) s)) 0 (λ good.
      let l = quote_there s at quote in
      let past : drop at s ≡ 39 ∷ drop (at + 1) s = rw (drop-cons s at 0 l, quote, add-one) in (
        v,
        refl,
        refl,
        record {
          content = c;
          suf = drop (at + 1) s;
          text = opens ∙ ap (λ (r : List ℕ). opening_of q ++ r) (sym e ∙ ap (λ (r : List ℕ). c ++ r) past);
          is = is;
          suffix = good;
          end = omega (arith, length-drop (at + 1) s);
        },
      )) λ bad. suffix_refused s (at + 1) bad) λ other.
      cond_in P (eqb (run (except 39) (drop at s)) (length (drop at s))) (λ f. (kinds_in q (length s)).0) λ f. (kinds_in q (length s)).1

  escaped_sound : offset_of q < length s → get_or s (offset_of q) 0 ≡ 92 → Sound q s (closed_by q s (offset_of q) (escaped_at q s (offset_of q)))
  unfolding escaped_at
  escaped_sound h e =
      let k = allowed_in q in
      let there : drop (offset_of q) s ≡ 92 ∷ drop (suc (offset_of q)) s = rw (drop-cons s (offset_of q) 0 h, e) in
      go (escape_of k (drop (offset_of q) s)) refl
      (subst (λ (r : List ℕ). Escapes k r (escape_of k r)) (sym there) (escape_sound k (drop (suc (offset_of q)) s)))
    where
      go : (o : Escaped) → o ≡ escape_of (allowed_in q) (drop (offset_of q) s) → Escapes (allowed_in q) (drop (offset_of q) s) o
          → Sound q s (closed_by q s (offset_of q) (escaped_by (offset_of q) o))
      go (escape.value u n) is x =
          closed_sound (offset_of q + n) (scalar_of u) (take n (drop (offset_of q) s)) (escape u x refl)
          (rw (← drop-drop n (offset_of q) s) (take-append-drop n (drop (offset_of q) s)))
      go (escape.bad num p) is x = escape_refused (allowed_in q) s (offset_of q) h num p is

plain_sound : (q : Quote) (s : List ℕ) → s ≡ opening_of q ++ drop (offset_of q) s → offset_of q < length s → Plain (get_or s (offset_of q) 0)
    → Sound q s (closed_by q s (offset_of q) (plain_at q s (offset_of q)))
plain_sound Char s opens l p = go (decode (drop 1 s)) refl
  where
    go : (d : Option (ℕ × ℕ)) → decode (drop 1 s) ≡ d → Sound Char s (closed_by Char s 1 (decoded_by d))
    go (Some (c, n)) e =
        let f = found_at s 1 c n e in
        let first : get_or (encode c ++ drop (1 + n) s) 0 0 ≡ get_or s 1 0 = ap (λ (r : List ℕ). get_or r 0 0) f.1 ∙ get_or-drop 1 s 0 0 in
        closed_sound Char s opens (1 + n) c (encode c) (char refl f.0 (plain_char c _ (first_byte c (drop (1 + n) s)) (rw first p)) refl) f.1
    go None e = (kinds_in Char (length s)).0
plain_sound Byte s opens l p =
    cond_lt (λ (o : Quoted). Sound Byte s (closed_by Byte s 2 o)) (get_or s 2 0) 128
    (λ h. closed_sound Byte s opens 3 (get_or s 2 0) (get_or s 2 0 ∷ []) (byte refl h p refl) (sym (drop-cons s 2 0 l)))
    (λ h. omega arith)

single_sound : (q : Quote) (s : List ℕ) → s ≡ opening_of q ++ drop (offset_of q) s → Sound q s (single_at q s)
unfolding single_at first_at quote_at
single_sound q s opens =
    let at : ℕ = offset_of q in
    let P : Quoted → Type 0 = λ o. Sound q s (closed_by q s at o) in
    cond_lt (Sound q s) at (length s) (λ h.
    cond_eq P (get_or s at 0) 39 (λ e. cond_in P (eqb (get_or s (at + 1) 0) 39) (λ f. omega arith) λ f. (kinds_in q (length s)).2) λ quote.
    cond_in P (special (get_or s at 0)) (λ f. omega arith) λ blank.
    cond_eq P (get_or s at 0) 92 (escaped_sound q s opens h)
    λ backslash. plain_sound q s opens h (record { quote = quote; backslash = backslash; blank = blank })) λ h. (kinds_in q (length s)).0

read_char : (s : List ℕ) → Sound Char s (char_read s)
unfolding char_read
read_char [] = (omega arith, omega arith, tt)
read_char (b ∷ s) = cond_eq (Sound Char (b ∷ s)) b 39 (λ e. single_sound Char (b ∷ s) (rw e)) (λ e. omega arith)

read_byte : (s : List ℕ) → Sound Byte s (byte_read s)
unfolding byte_read
read_byte [] = (omega arith, omega arith, tt)
read_byte (b ∷ s) =
    cond_in (Sound Byte (b ∷ s)) (eqb b 98 && eqb (get_or s 0 0) 39)
    (λ e. single_sound Byte (b ∷ s) (opens b s (both (eqb b 98) (eqb (get_or s 0 0) 39) e))) (λ e. (omega arith, omega arith, tt))
  where
    opens : (b : ℕ) (s : List ℕ) → (eqb b 98 ≡ true) × (eqb (get_or s 0 0) 39 ≡ true) → b ∷ s ≡ opening_of Byte ++ drop 2 (b ∷ s)
    opens b [] p = clash p.1 refl
    opens b (x ∷ s) p = rw (eqb-true b 98 p.0, eqb-true x 39 p.1)

pub char_sound : (s : List ℕ) {k e : ℕ} {vs : Values} → char_read s ≡ accepted k e vs → (v : ℕ) × (k ≡ 4) × (vs ≡ value v) × Tiled Char s e v
char_sound s h = subst (Sound Char s) h (read_char s)

pub byte_sound : (s : List ℕ) {k e : ℕ} {vs : Values} → byte_read s ≡ accepted k e vs → (v : ℕ) × (k ≡ 6) × (vs ≡ value v) × Tiled Byte s e v
byte_sound s h = subst (Sound Byte s) h (read_byte s)

pub char_refused : (s : List ℕ) {n : ℕ} {p : Place} → char_read s ≡ refused n p → RefusedIn (length s) n p
char_refused s h = subst (Sound Char s) h (read_char s)

pub byte_refused : (s : List ℕ) {n : ℕ} {p : Place} → byte_read s ≡ refused n p → RefusedIn (length s) n p
byte_refused s h = subst (Sound Byte s) h (read_byte s)

-- ---- what stands there is read

opening_length : (q : Quote) → length (opening_of q) ≡ offset_of q
opening_length Char = refl
opening_length Byte = refl

module _ (q : Quote) (s : List ℕ) {e v : ℕ} (t : Tiled q s e v) where
  before : List ℕ
  before = opening_of q ++ t.content

  parts : s ≡ before ++ (39 ∷ t.suf)
  unfolding before
  parts = t.text ∙ sym (append_assoc (opening_of q) t.content (39 ∷ t.suf))

  -- where the closing quote stands
  closing : (1 ≤ e) × (length before ≡ e - 1)
  closing = omega (arith, t.end, ap length parts, length-append before (39 ∷ t.suf))

  -- the byte before the suffix is the quote
  pub tiled_ascii : (1 ≤ e) × (e ≤ length s) × (get_or s (e - 1) 0 ≡ 39)
  tiled_ascii = (closing.0, omega (arith, t.end), rw parts (get_or_at before 39 t.suf 0 (e - 1) closing.1))

  -- a reading that has passed the content ends well
  closed_complete : (n w : ℕ) → n ≡ length t.content → w ≡ v → closed_at q s (offset_of q + n) w ≡ accepted (quote_kind q) e (value v)
  unfolding closed_at suffixed_at before
  closed_complete n w is same =
      let at : offset_of q + n ≡ e - 1 =
      omega (arith, closing.1, length-append (opening_of q) t.content, opening_length q) in
      let next : e - 1 + 1 ≡ e = omega (arith, closing.0) in
      let last : e ≡ length before + 1 = omega (arith, closing.0, closing.1) in
      let rest : drop e s ≡ t.suf =
      ap (drop e) parts ∙ ap (λ (n : ℕ). drop n (before ++ (39 ∷ t.suf))) last ∙ drop-append-add before (39 ∷ t.suf) 1 in
      rw (at, tiled_ascii.2, next, rest, t.suffix, same)

  past : drop (offset_of q) s ≡ t.content ++ (39 ∷ t.suf)
  past = ap (drop (offset_of q)) t.text ∙ drop_at (opening_of q) (t.content ++ (39 ∷ t.suf)) (offset_of q) (opening_length q)

  first_is : get_or s (offset_of q) 0 ≡ get_or (t.content ++ (39 ∷ t.suf)) 0 0
  first_is =
      ap (λ (n : ℕ). get_or s n 0) (sym (add-zero (offset_of q))) ∙ sym (get_or-drop (offset_of q) s 0 0) ∙ ap (λ (r : List ℕ). get_or r 0 0) past

  single_first : single_at q s ≡ closed_by q s (offset_of q) (first_at q s (offset_of q))
  unfolding single_at
  single_first =
      rw (lt-ltb (offset_of q) (length s) (omega (arith, length-drop (offset_of q) s, ap length past, length-append t.content (39 ∷ t.suf))))

  of_plain : Plain (get_or s (offset_of q) 0) → single_at q s ≡ closed_by q s (offset_of q) (plain_at q s (offset_of q))
  unfolding first_at
  of_plain p = single_first ∙ rw (ne_eqb _ 39 p.quote, p.blank, ne_eqb _ 92 p.backslash)

  of_escape_lem : get_or s (offset_of q) 0 ≡ 92 → single_at q s ≡ closed_by q s (offset_of q) (escaped_at q s (offset_of q))
  unfolding first_at special
  of_escape_lem h = single_first ∙ rw h

  escape_complete : (u : Unescaped) → Esc (allowed_in q) t.content u → v ≡ scalar_of u → single_at q s ≡ accepted (quote_kind q) e (value v)
  unfolding escaped_at continuation
  escape_complete u x is =
      of_escape_lem (first_is ∙ (first_two (39 ∷ t.suf) x).2)
      ∙ ap (λ (o : Escaped). closed_by q s (offset_of q) (escaped_by (offset_of q) o))
      (ap (escape_of (allowed_in q)) past ∙ escaped (allowed_in q) (39 ∷ t.suf) x refl)
      ∙ closed_complete (length t.content) (scalar_of u) refl (sym is)

plain_complete : (s : List ℕ) {e v : ℕ} (t : Tiled Char s e v) → Scalar v → Plain v → t.content ≡ encode v → single_at Char s ≡ accepted 4 e (value v)
plain_complete s {v = v} t sc p is =
    let r : List ℕ = 39 ∷ t.suf in
    let there : t.content ++ r ≡ encode v ++ r = rw is in
    let first : get_or s 1 0 ≡ get_or (encode v ++ r) 0 0 = first_is Char s t ∙ ap (λ (l : List ℕ). get_or l 0 0) there in
    of_plain Char s t (rw first (plain_byte v _ (first_byte v r) p))
    ∙ ap (λ (d : Option (ℕ × ℕ)). closed_by Char s 1 (decoded_by d)) (ap decode (past Char s t ∙ there) ∙ decode_encode v r sc)
    ∙ closed_complete Char s t (length (encode v)) v (ap length (sym is)) refl

ascii_complete : (s : List ℕ) {e v : ℕ} (t : Tiled Byte s e v) → v < 128 → Plain v → t.content ≡ v ∷ [] → single_at Byte s ≡ accepted 6 e (value v)
ascii_complete s {v = v} t h p is =
    let first : get_or s 2 0 ≡ v = first_is Byte s t ∙ rw is in
    of_plain Byte s t (rw first p)
    ∙ rw (first, lt-ltb v 128 h) (closed_complete Byte s t 1 v (rw is) refl)

-- the two kinds differ
pub no_kind : Char ≡ Byte → ⊥
no_kind e = let z : ◌≡◌ {A = ℕ} 4 6 = ap quote_kind e in omega arith

pub char_complete : (s : List ℕ) {e v : ℕ} → Tiled Char s e v → char_read s ≡ accepted 4 e (value v)
unfolding char_read
char_complete s {e} {v} t = opens s t.text ∙ by t.is
  where
    by : Content Char t.content v → single_at Char s ≡ accepted 4 e (value v)
    by (char q sc p is) = plain_complete s t sc p is
    by (byte q h p is) = absurd (no_kind q)
    by (escape u x is) = escape_complete Char s t u x is

    opens : (s : List ℕ) {r : List ℕ} → s ≡ 39 ∷ r → char_read s ≡ single_at Char s
    opens s h = rw h

pub byte_complete : (s : List ℕ) {e v : ℕ} → Tiled Byte s e v → byte_read s ≡ accepted 6 e (value v)
unfolding byte_read
byte_complete s {e} {v} t = opens s t.text ∙ by t.is
  where
    by : Content Byte t.content v → single_at Byte s ≡ accepted 6 e (value v)
    by (char q sc p is) = absurd (no_kind (sym q))
    by (byte q h p is) = ascii_complete s t h p is
    by (escape u x is) = escape_complete Byte s t u x is

    opens : (s : List ℕ) {r : List ℕ} → s ≡ 98 ∷ 39 ∷ r → byte_read s ≡ single_at Byte s
    opens s h = rw h
