-- litrs's escapes are the Reference's: `Esc` of a kind, and the productions with their values.
-- Assumes nothing.
use Prim.Native.Nat.{ℕ, zero, suc, ◌+◌, ◌*◌, ◌≤◌, ◌<◌}
use mathlib.Core.Path.{◌≡◌, refl, sym, ap, ◌∙◌, subst}
use mathlib.Core.Bool.{Bool, true, false, cond, not, ◌&&◌}
use mathlib.Core.List.{List, [], ◌∷◌, ◌++◌, append_assoc, append-nil}
use native.Mathlib.Nat.{add-zero}
use native.Mathlib.Omega.{arith}
use lib.Dec.{T, eqb, ltb}
use borrow.Author.Tests.{ltb-true, ltb-false, lt-ltb, le-ltb, ne_eqb}
use Rattle.scan.specs.Sets.{only}
use Rattle.scan.proofs.Cases.{cond_eq, clash}
use Rattle.parse.specs.Class.{class_of}
use Rattle.utf8.specs.Utf8.{encode}
use Rattle.utf8.proofs.Laws.{is_row1}
use Rattle.escape.specs.Allows as allows
use Rattle.escape.specs.Escape.{simple_escape_of}
use Rattle.escape.specs.Pieces.{Hexes, one, more, Esc, letter, nul, hex, uni}
use Rattle.escape.specs.declared.Allowed.{Allowed}
use Rattle.escape.specs.declared.Unescaped.{Unescaped}
use Rattle.escape.specs.declared.Unescaped.TheVariants.{Byte, Unicode}
use Rattle.escape.proofs.Within.{scalar_right}
use Rattle.grammar.specs.Notation.{all}
use Rattle.grammar.specs.Suffixes.{LOW}
use Rattle.grammar.specs.Numbers.{OCT_DIGIT, HEX_DIGIT}
use Rattle.grammar.specs.Values.{digit_value, plain, number_from, number_in}
use Rattle.grammar.specs.Escapes.{QUOTE_ESCAPE, apostrophe, quotation_mark, COMMON_ESCAPE, lf, cr, ht, reverse_solidus, ASCII_ESCAPE, BYTE_ESCAPE, HEX_GROUPS, UNICODE_ESCAPE}
use Rattle.grammar.specs.Escapes as escapes
use Rattle.grammar.proofs.Runs.{T_true, true_T, and_l, and_r}
use Rattle.demands.proofs.Classes.{oct_is, hex_digit_is, value_is, not_low, all_to, all_from}

-- ---- digits

hex_to : (b : ℕ) → T (HEX_DIGIT b) → class_of b < 16
hex_to b t = ltb-true (class_of b) 16 (sym (hex_digit_is b) ∙ T_true (HEX_DIGIT b) t)

hex_from_lem : (b : ℕ) → class_of b < 16 → T (HEX_DIGIT b)
hex_from_lem b h = true_T (HEX_DIGIT b) (hex_digit_is b ∙ lt-ltb (class_of b) 16 h)

low_same : (c : ℕ) → LOW c ≡ only 95 c
unfolding LOW only
low_same c = refl

-- a hex digit is no `_`
not_underscore : (b : ℕ) → class_of b < 16 → LOW b ≡ false
unfolding LOW
not_underscore b h = ne_eqb b 95 (λ e. not_low HEX_DIGIT 16 hex_digit_is (omega arith) (subst (λ (c : ℕ). T (HEX_DIGIT c)) e (hex_from_lem b h)))

-- a group's digit without its underscores
plain_lows : (us z : List ℕ) → T (all LOW us) → plain (us ++ z) ≡ plain z
plain_lows [] z t = refl
plain_lows (c ∷ us) z t = rw (T_true (LOW c) (and_l (LOW c) (all LOW us) t)) (plain_lows us z (and_r (LOW c) (all LOW us) t))

plain_group : (b : ℕ) (us z : List ℕ) → class_of b < 16 → T (all LOW us) → plain (b ∷ (us ++ z)) ≡ b ∷ plain z
plain_group b us z h t = rw (not_underscore b h) (ap (λ (l : List ℕ). b ∷ l) (plain_lows us z t))

-- the number of digits after others
number_append : (a : ℕ) (d e : List ℕ) → number_from 16 a (plain (d ++ e)) ≡ number_from 16 (number_from 16 a (plain d)) (plain e)
number_append a [] e = refl
number_append a (c ∷ d) e = go (LOW c) (λ b. number_append b d e)
  where
    go : (t : Bool) → ((b : ℕ) → number_from 16 b (plain (d ++ e)) ≡ number_from 16 (number_from 16 b (plain d)) (plain e))
        → number_from 16 a (cond t (plain (d ++ e)) (c ∷ plain (d ++ e))) ≡ number_from 16 (number_from 16 a (cond t (plain d) (c ∷ plain d))) (plain e)
    go true f = f a
    go false f = f (a * 16 + digit_value c)

number_group : (a b : ℕ) (us z : List ℕ) → class_of b < 16 → T (all LOW us)
    → number_from 16 a (plain (b ∷ (us ++ z))) ≡ number_from 16 (16 * a + class_of b) (plain z)
number_group a b us z h t =
    ap (number_from 16 a) (plain_group b us z h t) ∙ ap (λ (n : ℕ). number_from 16 n (plain z)) (omega (arith, value_is b h))

-- ---- groups of hex digits

-- one more group at the end
groups_more : (n : ℕ) (d : List ℕ) (b : ℕ) (us : List ℕ) → HEX_GROUPS n d → T (HEX_DIGIT b) → T (all LOW us) → HEX_GROUPS (suc n) (d ++ (b ∷ us))
groups_more zero d b us g h t = rw g (b ∷ [], us, refl, (b, refl, h), (us, [], sym (append-nil us), t, refl))
groups_more (suc n) d b us (p, q, e, o, (v, z, f, w, g)) h t =
    let cut : d ++ (b ∷ us) ≡ p ++ (v ++ (z ++ (b ∷ us))) =
    rw (e, f) (append_assoc p (v ++ z) (b ∷ us) ∙ ap (λ (l : List ℕ). p ++ l) (append_assoc v z (b ∷ us))) in
    (p, v ++ (z ++ (b ∷ us)), cut, o, (v, z ++ (b ∷ us), refl, w, groups_more n z b us g h t))

groups_from : {n : ℕ} {d : List ℕ} {v : ℕ} → Hexes n d v → HEX_GROUPS n d × (v ≡ number_in 16 d)
unfolding number_in
groups_from (one b us h a e f) =
    let t = all_from low_same us a in (
      rw e (groups_more zero [] b us refl (hex_from_lem b h) t),
      rw (e, f) (sym (ap (λ (l : List ℕ). number_from 16 0 (plain (b ∷ l))) (sym (append-nil us)) ∙ number_group 0 b us [] h t ∙ omega arith)),
    )
groups_from (more {n} {d} {v = v} b us m h a e f) =
    let t = all_from low_same us a in
    let i = groups_from m in
    let one : n + 1 ≡ suc n = omega arith in (
      rw (one, e) (groups_more n d b us i.0 (hex_from_lem b h) t),
      rw (e, f, number_append 0 d (b ∷ us), ← i.1)
          (sym (ap (λ (l : List ℕ). number_from 16 v (plain (b ∷ l))) (sym (append-nil us)) ∙ number_group v b us [] h t)),
    )

-- groups after others
groups_on : (n : ℕ) (d : List ℕ) {m : ℕ} {p : List ℕ} {v : ℕ} → HEX_GROUPS n d → Hexes m p v → Hexes (m + n) (p ++ d) (number_from 16 v (plain d))
groups_on zero d g x = rw (g, append-nil, add-zero) x
groups_on (suc n) d {m} {p} {v} (w, q, e, (b, is, h), (us, z, f, t, g)) x =
    let l = hex_to b h in
    let whole : d ≡ b ∷ (us ++ z) = e ∙ rw (is, f) in
    let next : Hexes (m + 1) (p ++ (b ∷ us)) (16 * v + class_of b) = more b us x l (all_to low_same us t) refl refl in
    let on = groups_on n z g next in
    let count : m + 1 + n ≡ m + suc n = omega arith in
    rw (whole, number_group v b us z l t, ← count, ← append_assoc p (b ∷ us) z) on

groups_to : (n : ℕ) (d : List ℕ) → 1 ≤ n → HEX_GROUPS n d → Hexes n d (number_in 16 d)
unfolding number_in
groups_to zero d l g = absurd (omega arith)
groups_to (suc n) d l (w, q, e, (b, is, h), (us, z, f, t, g)) =
    let c = hex_to b h in
    let whole : d ≡ b ∷ (us ++ z) = e ∙ rw (is, f) in
    let on = groups_on n z g (one b us c (all_to low_same us t) refl refl) in
    let count : 1 + n ≡ suc n = omega arith in
    let first : 16 * 0 + class_of b ≡ class_of b = omega arith in
    rw (whole, number_group 0 b us z c t, first, ← count) on

-- ---- escapes

-- no NUL where the kind has none, and no byte above 127
abbrev pub NoNul : Allowed → ℕ → Type 0
NoNul k v = (not (allows.allow_nul k) && eqb v 0) ≡ false

abbrev pub Fits : Allowed → ℕ → Type 0
Fits k v = (not (allows.byte_escapes k) && ltb 127 v) ≡ false

-- an escape by the productions, where the kind allows it
data Meant (k : Allowed) (t : List ℕ) : Unescaped → Type 0 where
  quote : (v : ℕ) → QUOTE_ESCAPE t v → Meant k t (Byte v)
  simple : (v : ℕ) → COMMON_ESCAPE t v → NoNul k v → Meant k t (Byte v)
  code : (a b v : ℕ) → T (HEX_DIGIT a) → T (HEX_DIGIT b) → t ≡ 92 ∷ 120 ∷ a ∷ b ∷ [] → v ≡ digit_value a * 16 + digit_value b
      → Fits k v → NoNul k v → Meant k t (Byte v)
  unicode : (v : ℕ) → allows.unicode k ≡ true → UNICODE_ESCAPE t v → NoNul k v → Meant k t (Unicode v)

-- a value that is not 0
some_value : (k : Allowed) (v : ℕ) → 1 ≤ v → NoNul k v
some_value k v h = rw (ne_eqb v 0 (λ e. omega arith)) (and_none (not (allows.allow_nul k)))
  where
    and_none : (a : Bool) → (a && false) ≡ false
    and_none true = refl
    and_none false = refl

-- two digits' number
two_digits : (a b : ℕ) → class_of a < 16 → class_of b < 16 → class_of b + 16 * class_of a ≡ digit_value a * 16 + digit_value b
two_digits a b h g = rw (value_is a h, value_is b g) (omega arith)

letter_means : (k : Allowed) (b : ℕ) → (simple_escape_of b ≡ 0 → ⊥) → Meant k (92 ∷ b ∷ []) (Byte (simple_escape_of b))
unfolding simple_escape_of
letter_means k b =
    let P : ℕ → Type 0 = λ c. (c ≡ 0 → ⊥) → Meant k (92 ∷ b ∷ []) (Byte c) in
    cond_eq P b 39 (λ e h. rw e (quote 39 apostrophe)) λ e.
    cond_eq P b 34 (λ e h. rw e (quote 34 quotation_mark)) λ e.
    cond_eq P b 110 (λ e h. rw e (simple 10 lf (some_value k 10 (omega arith)))) λ e.
    cond_eq P b 114 (λ e h. rw e (simple 13 cr (some_value k 13 (omega arith)))) λ e.
    cond_eq P b 116 (λ e h. rw e (simple 9 ht (some_value k 9 (omega arith)))) λ e.
    cond_eq P b 92 (λ e h. rw e (simple 92 reverse_solidus (some_value k 92 (omega arith)))) (λ e h. absurd (h refl))

-- what litrs takes is an escape of the productions
esc_means : {k : Allowed} {t : List ℕ} {u : Unescaped} → Esc k t u → Meant k t u
esc_means {k} (letter b h) = letter_means k b h
esc_means (nul a) = simple 0 escapes.nul (rw a)
esc_means (hex a b h g p q) = code a b _ (hex_from_lem a h) (hex_from_lem b g) refl (two_digits a b h g) p q
esc_means (uni {n} {d} {t} {v} u h l z sc e) =
    let g = groups_from h in
    unicode v u (record { digits = d; count = n; is = e; groups = g.0; least = some h; most = l; value = g.1; scalar = (scalar_right v).0 sc }) z
  where
    some : {n : ℕ} {d : List ℕ} {v : ℕ} → Hexes n d v → 1 ≤ n
    some (one b us h a e f) = omega arith
    some (more b us m h a e f) = omega arith

-- and the other way round
quote_stands : {k : Allowed} {t : List ℕ} {v : ℕ} → QUOTE_ESCAPE t v → Esc k t (Byte v)
unfolding simple_escape_of
quote_stands apostrophe = letter 39 (λ e. omega arith)
quote_stands quotation_mark = letter 34 (λ e. omega arith)

has_nul : (a : Bool) → (not a && true) ≡ false → a ≡ true
has_nul true e = refl
has_nul false e = clash refl e

simple_stands : {k : Allowed} {t : List ℕ} {v : ℕ} → COMMON_ESCAPE t v → NoNul k v → Esc k t (Byte v)
unfolding simple_escape_of
simple_stands lf z = letter 110 (λ e. omega arith)
simple_stands cr z = letter 114 (λ e. omega arith)
simple_stands ht z = letter 116 (λ e. omega arith)
simple_stands reverse_solidus z = letter 92 (λ e. omega arith)
simple_stands {k} escapes.nul z = nul (has_nul (allows.allow_nul k) z)

means_esc : {k : Allowed} {t : List ℕ} {u : Unescaped} → Meant k t u → Esc k t u
means_esc (quote v q) = quote_stands q
means_esc (simple v q z) = simple_stands q z
means_esc {k} (code a b v h g e f p z) =
    let c = hex_to a h in
    let d = hex_to b g in
    let same : v ≡ class_of b + 16 * class_of a = f ∙ sym (two_digits a b c d) in
    rw (e, same) (hex a b c d (rw same at p) (rw same at z))
means_esc (unicode v u x z) =
    let h : Hexes x.count x.digits v = rw x.value (groups_to x.count x.digits x.least x.groups) in
    uni u h x.most z ((scalar_right v).1 x.scalar) x.is

-- ---- kinds without byte escapes: 7-bit escapes

pub data Seven (k : Allowed) (t : List ℕ) : Unescaped → Type 0 where
  quote : (v : ℕ) → QUOTE_ESCAPE t v → Seven k t (Byte v)
  ascii : (v : ℕ) → ASCII_ESCAPE t v → NoNul k v → Seven k t (Byte v)
  unicode : (v : ℕ) → allows.unicode k ≡ true → UNICODE_ESCAPE t v → NoNul k v → Seven k t (Unicode v)

-- two digits are at most 7F exactly where the first is octal
oct_to : (a b v : ℕ) → T (HEX_DIGIT a) → T (HEX_DIGIT b) → v ≡ digit_value a * 16 + digit_value b → v ≤ 127 → T (OCT_DIGIT a)
oct_to a b v h g e l =
    let c = hex_to a h in
    true_T (OCT_DIGIT a) (oct_is a ∙ lt-ltb (class_of a) 8 (omega (arith, value_is a c)))

oct_from : (a b : ℕ) → T (OCT_DIGIT a) → T (HEX_DIGIT b) → T (HEX_DIGIT a) × (digit_value a * 16 + digit_value b < 128)
oct_from a b h g =
    let c : class_of a < 8 = ltb-true (class_of a) 8 (sym (oct_is a) ∙ T_true (OCT_DIGIT a) h) in
    let d = hex_to b g in
    (hex_from_lem a (omega arith), omega (arith, value_is a (omega arith), value_is b d))

-- a 7-bit escape's value is one byte of UTF-8
simple_small : {t : List ℕ} {v : ℕ} → COMMON_ESCAPE t v → v < 128
simple_small lf = omega arith
simple_small cr = omega arith
simple_small ht = omega arith
simple_small reverse_solidus = omega arith
simple_small escapes.nul = omega arith

pub ascii_bytes : {t : List ℕ} {v : ℕ} → ASCII_ESCAPE t v → encode v ≡ v ∷ []
ascii_bytes (escapes.code a b h g) = is_row1 _ (oct_from a b h g).1
ascii_bytes (escapes.simple q) = is_row1 _ (simple_small q)

pub quote_bytes : {t : List ℕ} {v : ℕ} → QUOTE_ESCAPE t v → encode v ≡ v ∷ []
quote_bytes apostrophe = is_row1 39 (omega arith)
quote_bytes quotation_mark = is_row1 34 (omega arith)

module _ {k : Allowed} (bits : allows.byte_escapes k ≡ false) {t : List ℕ} where
  pub esc_seven : {u : Unescaped} → Esc k t u → Seven k t u
  esc_seven x = go (esc_means x)
    where
      go : {u : Unescaped} → Meant k t u → Seven k t u
      go (quote v q) = quote v q
      go (simple v q z) = ascii v (escapes.simple q) z
      go (code a b v h g e f p z) =
          let o = oct_to a b v h g f (ltb-false 127 v (rw bits at p)) in
          ascii v (rw (e, f) (escapes.code a b o g)) z
      go (unicode v u x z) = unicode v u x z

  pub seven_esc : {u : Unescaped} → Seven k t u → Esc k t u
  seven_esc (quote v q) = means_esc (quote v q)
  seven_esc (unicode v u x z) = means_esc (unicode v u x z)
  seven_esc (ascii v q z) = go q z
    where
      go : {t : List ℕ} {v : ℕ} → ASCII_ESCAPE t v → NoNul k v → Esc k t (Byte v)
      go (escapes.simple q) z = means_esc (simple _ q z)
      go (escapes.code a b h g) z =
          let o = oct_from a b h g in
          means_esc (code a b _ o.0 g refl refl (rw (bits, le-ltb 127 (digit_value a * 16 + digit_value b) (omega (arith, o.1)))) z)

-- ---- kinds with byte escapes: 8-bit escapes

pub data Eight (k : Allowed) (t : List ℕ) : Unescaped → Type 0 where
  byte : (v : ℕ) → BYTE_ESCAPE t v → NoNul k v → Eight k t (Byte v)
  unicode : (v : ℕ) → allows.unicode k ≡ true → UNICODE_ESCAPE t v → NoNul k v → Eight k t (Unicode v)

quote_some : (k : Allowed) {t : List ℕ} {v : ℕ} → QUOTE_ESCAPE t v → NoNul k v
quote_some k apostrophe = some_value k 39 (omega arith)
quote_some k quotation_mark = some_value k 34 (omega arith)

module _ {k : Allowed} (bits : allows.byte_escapes k ≡ true) {t : List ℕ} where
  pub esc_eight : {u : Unescaped} → Esc k t u → Eight k t u
  esc_eight x = go (esc_means x)
    where
      go : {u : Unescaped} → Meant k t u → Eight k t u
      go (quote v q) = byte v (escapes.quote q) (quote_some k q)
      go (simple v q z) = byte v (escapes.simple q) z
      go (code a b v h g e f p z) = byte v (rw (e, f) (escapes.code a b h g)) z
      go (unicode v u x z) = unicode v u x z

  pub eight_esc : {u : Unescaped} → Eight k t u → Esc k t u
  eight_esc (unicode v u x z) = means_esc (unicode v u x z)
  eight_esc (byte v q z) = go q z
    where
      go : {t : List ℕ} {v : ℕ} → BYTE_ESCAPE t v → NoNul k v → Esc k t (Byte v)
      go (escapes.quote q) z = means_esc (quote _ q)
      go (escapes.simple q) z = means_esc (simple _ q z)
      go (escapes.code a b h g) z = means_esc (code a b _ h g refl refl (rw bits) z)
