-- What stands between the quotes of a string: litrs's pieces are the Reference's, for each of the three kinds, and so are its raw bodies.
-- Assumes nothing.
use Prim.Native.Nat.{ℕ, zero, suc, ◌≤◌, ◌<◌, suc-le-suc}
use mathlib.Core.Path.{◌≡◌, refl, sym, ap, ◌∙◌, subst}
use mathlib.Core.Bool.{Bool, true, false, ◌&&◌, ◌||◌, or_comm}
use mathlib.Core.List.{List, [], ◌∷◌, ◌++◌}
use native.Mathlib.Numerals.{add-one}
use native.Mathlib.Omega.{arith}
use lib.Dec.{T, eqb, ltb}
use lib.ListN.{length, get_or, take, drop, length-append}
use lib.Seq.{get_or-append_seam, drop-append-add, split_at, length-take-le}
use borrow.Author.Tests.{ltb-true, ltb-false, lt-ltb, le-ltb, eqb-false, ne_eqb}
use Rattle.scan.specs.Run.{run, All, Stops}
use Rattle.scan.specs.Sets.{only}
use Rattle.scan.proofs.Cases.{by_lt, cond_eq, clash}
use Rattle.parse.specs.Sets.{blank}
use Rattle.parse.proofs.Classes.{blank_is}
use Rattle.escape.specs.Escape.{bytes_of}
use Rattle.escape.specs.Pieces.{Esc}
use Rattle.escape.specs.declared.Unescaped.{Unescaped}
use Rattle.escape.specs.declared.Unescaped.TheVariants as unescaped
use Rattle.escape.specs.declared.Allowed.{Allowed}
use Rattle.escape.specs.declared.Allowed.TheVariants.{Text, Bytes, C}
use Rattle.body.specs.Pieces.{Char, Content}
use Rattle.body.specs.Pieces as pieces
use Rattle.raw.specs.Content.{RawChar, ClosesAt, RawContent}
use Rattle.string.specs.Parts.{hashes}
use Rattle.grammar.specs.Notation.{Class, byte, ◌∪◌, all, times}
use Rattle.grammar.specs.Escapes.{WHITESPACE, STRING_CONTINUE}
use Rattle.grammar.specs.Quoted.{except, ascii_except, Pieces, STRING_PIECE, BYTE_STRING_PIECE, C_STRING_PIECE, closing}
use Rattle.grammar.specs.Quoted as quoted
use Rattle.grammar.proofs.Runs.{T_true, true_T, and_l, and_r, and_i}
use Rattle.demands.proofs.Classes.{all_to, all_from, stops_to, stops_from}
use Rattle.demands.proofs.Escapes.{Seven, Eight, esc_seven, seven_esc, esc_eight, eight_esc, ascii_bytes, quote_bytes}
use Rattle.demands.proofs.Escapes as escapes

-- the pieces of a kind, by the Reference
abbrev pub PIECE : Allowed → List ℕ → List ℕ → List ℕ → Type 0
PIECE Text = STRING_PIECE
PIECE Bytes = BYTE_STRING_PIECE
PIECE C = C_STRING_PIECE

-- a piece as litrs has it
data View (k : Allowed) (t w r : List ℕ) : Type 0 where
  char : (b : ℕ) → Char k b → t ≡ b ∷ [] → w ≡ b ∷ [] → View k t w r
  escape : (u : Unescaped) → Esc k t u → w ≡ bytes_of u → View k t w r
  continue : (ws : List ℕ) → All blank ws → Stops blank r → t ≡ 92 ∷ 10 ∷ ws → w ≡ [] → View k t w r

-- ---- dropped line breaks

or_turn : (a b c : Bool) → (a || (b || c)) ≡ (c || (a || b))
or_turn true b true = refl
or_turn true b false = refl
or_turn false b c = or_comm b c

white_is : (c : ℕ) → WHITESPACE c ≡ blank c
unfolding WHITESPACE
white_is c = rw (blank_is c) (or_turn (eqb c 9) (eqb c 10) (eqb c 32))

continue_to : {k : Allowed} {t w r : List ℕ} → STRING_CONTINUE t r → w ≡ [] → View k t w r
continue_to {r = r} c e = continue c.blanks (all_to white_is c.blanks c.white) (stops_to white_is r c.next) c.is e

continue_from : {t r : List ℕ} (ws : List ℕ) → All blank ws → Stops blank r → t ≡ 92 ∷ 10 ∷ ws → STRING_CONTINUE t r
continue_from {r = r} ws a st is = record { blanks = ws; is = is; white = all_from white_is ws a; next = stops_from white_is r st }

-- ---- bytes that stand for themselves

-- bytes of a set are not those that the set leaves out
none_of : (f : Class) (b x : ℕ) → T (f b) → b ≡ x → T (f x)
none_of f b x t e = subst (λ (c : ℕ). T (f c)) e t

below : (f : Class) (b : ℕ) → T (ltb b 128 && f b) → (ltb 127 b ≡ false) × T (f b)
below f b t = (le-ltb 127 b (omega (arith, ltb-true b 128 (T_true (ltb b 128) (and_l (ltb b 128) (f b) t)))), and_r (ltb b 128) (f b) t)

is_below : (f : Class) (b : ℕ) → ltb 127 b ≡ false → T (f b) → T (ltb b 128 && f b)
is_below f b e t = and_i (ltb b 128) (f b) (true_T (ltb b 128) (lt-ltb b 128 (omega (arith, ltb-false 127 b e)))) t

abbrev Marks : Class
Marks = byte 34 ∪ byte 92 ∪ byte 13

marks_not : (b : ℕ) → (b ≡ 34 → ⊥) → (b ≡ 92 → ⊥) → (b ≡ 13 → ⊥) → T (except Marks b)
marks_not b q s r = rw (ne_eqb b 34 q, ne_eqb b 92 s, ne_eqb b 13 r) tt

-- ---- one piece

view_to : (k : Allowed) {t w r : List ℕ} → PIECE k t w r → View k t w r
view_to Text (quoted.char c e t f) =
    let no = none_of (except Marks) c in
    char c (record { backslash = no 92 t; quote = no 34 t; cr = no 13 t; nul = refl; ascii = refl }) e f
view_to Text (quoted.quote v q e) = escape (unescaped.Byte v) (seven_esc refl (escapes.quote v q)) (e ∙ quote_bytes q)
view_to Text (quoted.ascii v q e) = escape (unescaped.Byte v) (seven_esc refl (escapes.ascii v q refl)) (e ∙ ascii_bytes q)
view_to Text (quoted.unicode v q e) = escape (unescaped.Unicode v) (seven_esc refl (escapes.unicode v refl q refl)) e
view_to Text (quoted.continue c e) = continue_to c e
view_to Bytes (quoted.ascii c e t f) =
    let (low, rest) = below (except Marks) c t in
    let no = none_of (except Marks) c in
    char c (record { backslash = no 92 rest; quote = no 34 rest; cr = no 13 rest; nul = refl; ascii = low }) e f
view_to Bytes (quoted.escape v q e) = escape (unescaped.Byte v) (eight_esc refl (escapes.byte v q refl)) e
view_to Bytes (quoted.continue c e) = continue_to c e
view_to C (quoted.char c e t f) =
    let no = none_of (except (byte 34 ∪ byte 92 ∪ byte 13 ∪ byte 0)) c in
    char c (record { backslash = no 92 t; quote = no 34 t; cr = no 13 t; nul = ne_eqb c 0 (no 0 t); ascii = refl }) e f
view_to C (quoted.escape v q h e) = escape (unescaped.Byte v) (eight_esc refl (escapes.byte v q (ne_eqb v 0 (λ x. omega arith)))) e
view_to C (quoted.unicode v q h e) = escape (unescaped.Unicode v) (eight_esc refl (escapes.unicode v refl q (ne_eqb v 0 (λ x. omega arith)))) e
view_to C (quoted.continue c e) = continue_to c e

-- not 0
positive : (v : ℕ) → eqb v 0 ≡ false → 1 ≤ v
positive v e = let n = eqb-false v 0 e in by_lt 0 v (λ h. h) (λ h. absurd (n (omega arith)))

escape_from : (k : Allowed) {t w : List ℕ} (r : List ℕ) {u : Unescaped} → Esc k t u → w ≡ bytes_of u → PIECE k t w r
escape_from Text {t} {w} r x e = go (esc_seven refl x) e
  where
    go : {u : Unescaped} → Seven Text t u → w ≡ bytes_of u → STRING_PIECE t w r
    go (escapes.quote v q) e = quoted.quote v q (e ∙ sym (quote_bytes q))
    go (escapes.ascii v q z) e = quoted.ascii v q (e ∙ sym (ascii_bytes q))
    go (escapes.unicode v u q z) e = quoted.unicode v q e
escape_from Bytes {t} {w} r x e = go (esc_eight refl x) e
  where
    go : {u : Unescaped} → Eight Bytes t u → w ≡ bytes_of u → BYTE_STRING_PIECE t w r
    go (escapes.byte v q z) e = quoted.escape v q e
    go (escapes.unicode v u q z) e = clash u refl
escape_from C {t} {w} r x e = go (esc_eight refl x) e
  where
    go : {u : Unescaped} → Eight C t u → w ≡ bytes_of u → C_STRING_PIECE t w r
    go (escapes.byte v q z) e = quoted.escape v q (positive v z) e
    go (escapes.unicode v u q z) e = quoted.unicode v q (positive v z) e

char_from : (k : Allowed) {t w : List ℕ} (r : List ℕ) (b : ℕ) → Char k b → t ≡ b ∷ [] → w ≡ b ∷ [] → PIECE k t w r
char_from Text r b c e f = quoted.char b e (marks_not b c.quote c.backslash c.cr) f
char_from Bytes r b c e f = quoted.ascii b e (is_below (except Marks) b c.ascii (marks_not b c.quote c.backslash c.cr)) f
char_from C r b c e f = quoted.char b e (rw (ne_eqb b 34 c.quote, ne_eqb b 92 c.backslash, ne_eqb b 13 c.cr, c.nul) tt) f

continue_piece : (k : Allowed) {t w r : List ℕ} → STRING_CONTINUE t r → w ≡ [] → PIECE k t w r
continue_piece Text c e = quoted.continue c e
continue_piece Bytes c e = quoted.continue c e
continue_piece C c e = quoted.continue c e

-- ---- pieces

pub pieces_of : (k : Allowed) {c v : List ℕ} → Content k c v → Pieces (PIECE k) c v
pieces_of k pieces.none = quoted.none
pieces_of k (pieces.char {s} {v} b x rest) = quoted.some (b ∷ []) (b ∷ []) s v (char_from k s b x refl refl) (pieces_of k rest) refl refl
pieces_of k (pieces.escape {t} {s} {v} {u = u} x rest e f) = quoted.some t (bytes_of u) s v (escape_from k s x refl) (pieces_of k rest) e f
pieces_of k (pieces.continue {s} {v} ws a st rest e) =
    quoted.some (92 ∷ 10 ∷ ws) [] s v (continue_piece k (continue_from ws a st refl) refl) (pieces_of k rest) e refl

join : {k : Allowed} {s v t w r u : List ℕ} → View k t w r → Content k r u → s ≡ t ++ r → v ≡ w ++ u → Content k s v
join (char b x i j) rest e f = rw (e, i, f, j) (pieces.char b x rest)
join (escape u x j) rest e f = pieces.escape x rest e (f ∙ rw j)
join (continue ws a st i j) rest e f = rw (f, j) (pieces.continue ws a st rest (e ∙ rw i))

pub content_of : (k : Allowed) {c v : List ℕ} → Pieces (PIECE k) c v → Content k c v
content_of k quoted.none = pieces.none
content_of k (quoted.some t w r u p rest e f) = join (view_to k p) (content_of k rest) e f

-- ---- raw bodies

-- the bytes of a kind's raw bodies, by the Reference
abbrev pub RAW : Allowed → Class
RAW Text = except (byte 13)
RAW Bytes = ascii_except (byte 13)
RAW C = except (byte 13 ∪ byte 0)

raw_to : (k : Allowed) (b : ℕ) → RawChar k b → T (RAW k b)
raw_to Text b c = rw (ne_eqb b 13 c.cr) tt
raw_to Bytes b c = is_below (except (byte 13)) b c.ascii (rw (ne_eqb b 13 c.cr) tt)
raw_to C b c = rw (ne_eqb b 13 c.cr, c.nul) tt

raw_from_lem : (k : Allowed) (b : ℕ) → T (RAW k b) → RawChar k b
raw_from_lem Text b t = record { cr = none_of (RAW Text) b 13 t; nul = refl; ascii = refl }
raw_from_lem Bytes b t =
    let (low, rest) = below (except (byte 13)) b t in record { cr = none_of (except (byte 13)) b 13 rest; nul = refl; ascii = low }
raw_from_lem C b t = record { cr = none_of (RAW C) b 13 t; nul = ne_eqb b 0 (none_of (RAW C) b 0 t); ascii = refl }

-- bytes of a set, one by one
all_each : (f : Class) (v r : List ℕ) → ((i : ℕ) → i < length v → T (f (get_or (v ++ r) i 0))) → T (all f v)
all_each f [] r h = tt
all_each f (b ∷ v) r h = and_i (f b) (all f v) (h 0 (omega arith)) (all_each f v r (λ i l. h (suc i) (omega arith)))

each_of : (f : Class) (v r : List ℕ) → T (all f v) → (i : ℕ) → i < length v → T (f (get_or (v ++ r) i 0))
each_of f [] r t i l = absurd (omega arith)
each_of f (b ∷ v) r t zero l = and_l (f b) (all f v) t
each_of f (b ∷ v) r t (suc i) l = each_of f v r (and_r (f b) (all f v) t) i (omega arith)

-- hashes
pub hashes_same : (h : ℕ) → hashes h ≡ times h 35
hashes_same zero = refl
hashes_same (suc h) = ap (λ (l : List ℕ). 35 ∷ l) (hashes_same h)

hashes_run : (h : ℕ) (w : List ℕ) → h ≤ run (only 35) (times h 35 ++ w)
unfolding only
hashes_run zero w = omega arith
hashes_run (suc h) w = suc-le-suc (hashes_run h w)

hashes_first : (h : ℕ) (l : List ℕ) → h ≤ run (only 35) l → l ≡ times h 35 ++ drop h l
unfolding only
hashes_first zero l g = refl
hashes_first (suc h) [] g = absurd (omega arith)
hashes_first (suc h) (b ∷ l) g =
    cond_eq (λ (n : ℕ). suc h ≤ n → b ∷ l ≡ 35 ∷ (times h 35 ++ drop h l)) b 35
    (λ e g. ap (λ (x : ℕ). x ∷ l) e ∙ ap (λ (x : List ℕ). 35 ∷ x) (hashes_first h l (omega arith)))
    (λ e g. absurd (omega arith)) g

-- where a raw body may close
closes_here : (h : ℕ) (u w : List ℕ) → ClosesAt h (u ++ closing h w) (length u)
closes_here h u w =
    let next : drop (suc (length u)) (u ++ closing h w) ≡ times h 35 ++ w = rw (← add-one (length u)) (drop-append-add u (closing h w) 1) in
    (get_or-append_seam u 34 (times h 35 ++ w) 0, rw next (hashes_run h w))

closes_there : (h i : ℕ) (l : List ℕ) → i < length l → ClosesAt h l i → l ≡ take i l ++ closing h (drop h (drop (suc i) l))
closes_there h i l g c =
    split_at l i 0 g
    ∙ ap (λ (b : ℕ). take i l ++ (b ∷ drop (suc i) l)) c.0
    ∙ ap (λ (r : List ℕ). take i l ++ (34 ∷ r)) (hashes_first h (drop (suc i) l) c.1)

-- the bytes before the first such place
abbrev pub First : ℕ → List ℕ → List ℕ → Type 0
First h v x = (u w : List ℕ) → v ++ closing h x ≡ u ++ closing h w → length v ≤ length u

module _ (k : Allowed) (h : ℕ) (v x : List ℕ) where
  pub raw_of : RawContent k h (v ++ closing h x) (length v) → T (all (RAW k) v) × First h v x
  raw_of c = (
    all_each (RAW k) v (closing h x) (λ i l. raw_to k _ (c.chars i l)),
    λ u w e. by_lt (length u) (length v)
        (λ l. absurd (c.first (length u) l (subst (λ (s : List ℕ). ClosesAt h s (length u)) (sym e) (closes_here h u w)))) (λ l. l),
  )

  pub of_raw : T (all (RAW k) v) → First h v x → RawContent k h (v ++ closing h x) (length v)
  of_raw t f =
      let s : List ℕ = v ++ closing h x in
      record {
        closes = closes_here h v x;
        first = λ i l c.
            let inside : i < length s = omega (arith, length-append v (closing h x)) in
            let least = f (take i s) (drop h (drop (suc i) s)) (closes_there h i s inside c) in
            omega (arith, length-take-le i s (omega arith));
        chars = λ i l. raw_from_lem k (get_or s i 0) (each_of (RAW k) v (closing h x) t i l);
      }
