-- Two numbers that differ in `_` only have equally many digits.
-- Assumes nothing.
use mathlib.Core.Path.{◌≡◌, refl, ap, sym, ◌∙◌}
use mathlib.Core.Bool.{Bool, true, false, cond, not}
use mathlib.Core.Logic.{⊎_elim}
use mathlib.Core.List.{List, [], ◌∷◌, ◌++◌, append_assoc}
use Prim.Native.Nat.{ℕ, ◌+◌, ◌-◌, ◌≤◌, ◌<◌}
use native.Mathlib.Nat.{sub-zero}
use native.Mathlib.Omega.{arith}
use borrow.Author.Tests.{ne_eqb, lt-ltb, le-ltb, not-true, not-false}
use lib.ListN.{length, take, drop, length-append}
use lib.Seq.{take_at, drop_at, take-append-add, take-append_seam}
use Rattle.err.specs.Outcome.{IntegerValues, FloatValues, accepted, digits, ends}
use Rattle.err.proofs.Values.{digits_same, ends_same}
use Rattle.scan.specs.Run.{All, Stops}
use Rattle.scan.specs.Part.{part}
use Rattle.scan.proofs.Cases.{cond_in, cond_eq}
use Rattle.scan.proofs.Counts.{count_append}
use Rattle.scan.proofs.Runs.{all_append}
use Rattle.parse.specs.Class.{class_of}
use Rattle.parse.specs.Sets.{digit, starts_e}
use Rattle.parse.specs.Digits.{is_digit, digit_count}
use Rattle.parse.proofs.Classes.{class_underscore, digit_cases, digit_ten_cases, dec_digit_ends}
use Rattle.grammar.specs.Suffixes.{LOW, E}
use Rattle.grammar.specs.Values.{plain}
use Rattle.integer.specs.Integer.{base_at, prefix_len, integer_read}
use Rattle.integer.specs.Parts.{Prefixed, dec, bin, oct, hex, IntegerParts}
use Rattle.integer.proofs.Bases.{base_short}
use Rattle.integer.proofs.OtherDigits.{base_ten}
use Rattle.integer.proofs.Parts as integers
use Rattle.float.specs.Float.{float_read}
use Rattle.float.specs.Parts.{Fraction, no_fraction, fraction, Exponent, no_exponent, exponent, FloatParts}
use Rattle.float.proofs.Sound as floats
use Rattle.demands.proofs.Integers.{base_most}

-- ---- a text without its `_`

-- what holds of every byte still does
plain_all : (p : ℕ → Bool) (s : List ℕ) → All p s → All p (plain s)
plain_all p [] h = tt
plain_all p (b ∷ s) h = let r = plain_all p s h.1 in cond_in (All p) (LOW b) (λ e. r) (λ e. (h.0, r))

-- `_` is no digit
low_digit : (base : ℕ) → base ≤ 16 → is_digit base 95 ≡ false
unfolding is_digit
low_digit base l = rw class_underscore (le-ltb 16 base l)

-- a byte of a class below the base is one, and not `_`
below_digit : (base b : ℕ) → base ≤ 16 → class_of b < base → (is_digit base b ≡ true) × (b ≡ 95 → ⊥)
unfolding is_digit
below_digit base b l h = (lt-ltb (class_of b) base h, λ z. omega (arith, ap class_of z, class_underscore))

-- of digits and `_`, those are digits that are left when `_` is taken out
pub digits_plain : (base : ℕ) (s : List ℕ) → base ≤ 16 → All (digit base) s → digit_count base s ≡ length (plain s)
unfolding digit_count LOW
digits_plain base [] l h = refl
digits_plain base (b ∷ s) l h =
    let r = digits_plain base s l h.1 in
    ⊎_elim (λ e. rw e (rw (low_digit base l) (omega arith)))
    (λ e. let g = below_digit base b l e in rw (g.0, ne_eqb b 95 g.1) (omega arith))
    (digit_cases base b h.0)

-- ---- parts of a text

-- the second of three pieces
part_at : (a b c : List ℕ) → part (length a) (length a + length b) (a ++ (b ++ c)) ≡ b
part_at a b c = rw (drop_at a (b ++ c) (length a) refl) (take_at b c (length a + length b - length a) (omega arith))

-- the first of two pieces
part_front : (a b : List ℕ) → part 0 (length a) (a ++ b) ≡ a
part_front a b = rw (sub-zero, take-append_seam)

-- two pieces of three
take_two : (a b c : List ℕ) → take (length a + length b) (a ++ (b ++ c)) ≡ a ++ b
take_two a b c = rw (take-append-add, take-append_seam)

-- ---- integers

-- decimal digits and `_` announce no other base
base_digits : (s : List ℕ) → All (digit 10) s → base_at s ≡ 10
base_digits [] h = sym (base_short [] (omega arith))
base_digits (a ∷ []) h = sym (base_short (a ∷ []) (omega arith))
base_digits (a ∷ b ∷ s) h =
    ⊎_elim (λ (e : b ≡ 95). base_ten (a ∷ b ∷ s) (λ z. omega arith) (λ z. omega arith) (λ z. omega arith))
    (λ e. let g = dec_digit_ends b e in base_ten (a ∷ b ∷ s) (λ z. omega arith) (λ z. omega arith) (λ z. omega arith))
    (digit_ten_cases b h.1.0)

-- the base is announced without `_` as with them
base_plain : {base : ℕ} {pre : List ℕ} (main : List ℕ) → Prefixed base pre → All (digit base) main → base_at (plain (pre ++ main)) ≡ base
unfolding base_at LOW
base_plain main dec h = base_digits (plain main) (plain_all (digit 10) main h)
base_plain main bin h = refl
base_plain main oct h = refl
base_plain main hex h = refl

-- how many bytes stand after the prefix
abbrev after_prefix : List ℕ → ℕ
after_prefix q = length (drop (prefix_len (base_at q)) q)

-- without `_`, the bytes after the prefix are those of the digits
digits_left : {base : ℕ} {pre : List ℕ} (main : List ℕ) → Prefixed base pre → drop (prefix_len base) (plain (pre ++ main)) ≡ plain main
unfolding prefix_len LOW
digits_left main dec = refl
digits_left main bin = refl
digits_left main oct = refl
digits_left main hex = refl

-- an integer's digits are counted in what is left of it without suffix and `_`
integer_count_lem : {base : ℕ} {pre main suf : List ℕ} → IntegerParts base pre main suf → let s = pre ++ (main ++ suf) in
    let e = length pre + length main in digit_count base (part (length pre) e s) ≡ after_prefix (plain (take e s))
integer_count_lem {base} {pre} {main} {suf} h =
    rw (part_at pre main suf, take_two pre main suf, base_plain main h.prefix h.digits, digits_left main h.prefix)
    (digits_plain base main (base_most h.prefix) h.digits)

-- and so are an accepted integer's
integer_digits : (s : List ℕ) {e : ℕ} {d : IntegerValues} → integer_read s ≡ accepted 2 e (digits d)
    → digit_count d.base (part d.start d.end s) ≡ after_prefix (plain (take e s))
integer_digits s {e} {d} h =
    let t = integers.sound s 2 e (digits d) h in
    cc (digits_same t.values, t.end, t.text, integer_count_lem t.parts)

-- two accepted integers whose parts before the suffix differ in `_` only have equally many digits
pub integers_alike : (s t : List ℕ) {e f : ℕ} {d c : IntegerValues} → integer_read s ≡ accepted 2 e (digits d) → integer_read t ≡ accepted 2 f (digits c)
    → plain (take e s) ≡ plain (take f t)
    → digit_count d.base (part d.start d.end s) ≡ digit_count c.base (part c.start c.end t)
integers_alike s t h g q = integer_digits s h ∙ ap after_prefix q ∙ sym (integer_digits t g)

-- an accepted integer has as many digits as its main part has bytes other than `_`
pub integer_plain : (s : List ℕ) {e : ℕ} {d : IntegerValues} → integer_read s ≡ accepted 2 e (digits d)
    → let main = part d.start d.end s in
    digit_count d.base main ≡ length (plain main)
integer_plain s {e} {d} h =
    let t = integers.sound s 2 e (digits d) h in
    let is : part d.start d.end s ≡ t.main = cc (digits_same t.values, t.end, t.text, part_at t.pre t.main t.suf) in
    let base : d.base ≡ t.base = ap (λ (v : IntegerValues). v.base) (digits_same t.values) in
    cc (is, base, digits_plain t.base t.main (base_most t.parts.prefix) t.parts.digits)

-- ---- floats

-- any byte but `e` and `E`
abbrev not_e : ℕ → Bool
not_e b = not (E b)

-- how many digits stand before the first `e` or `E`
abbrev before_e : List ℕ → ℕ
before_e [] = 0
before_e (b ∷ s) = cond (E b) 0 (cond (is_digit 10 b) 1 0 + before_e s)

-- they are as many without `_`
before_plain : (s : List ℕ) → before_e (plain s) ≡ before_e s
unfolding LOW E
before_plain [] = refl
before_plain (b ∷ s) =
    let r = before_plain s in
    cond_eq (λ u. before_e u ≡ before_e (b ∷ s)) b 95 (λ e. rw (e, low_digit 10 (omega arith)) (omega arith)) (λ e. rw r)

-- and are all that stand before an exponent
before_front : (s x : List ℕ) → All not_e s → Stops not_e x → before_e (s ++ x) ≡ digit_count 10 s
unfolding digit_count
before_front [] [] h g = refl
before_front [] (b ∷ x) h g = rw (not-false (E b) g)
before_front (b ∷ s) x h g = rw (not-true (E b) h.0, before_front s x h.1 g)

-- digits and `_` hold no `e`
digits_no_e : (s : List ℕ) → All (digit 10) s → All not_e s
unfolding E
digits_no_e [] h = tt
digits_no_e (b ∷ s) h = (
  ⊎_elim (λ e. rw e)
      (λ e. let g = dec_digit_ends b e in rw (ne_eqb b 101 (λ z. omega arith), ne_eqb b 69 (λ z. omega arith)))
      (digit_ten_cases b h.0),
  digits_no_e s h.1,
)

-- nor does a fraction
fraction_no_e : {f : List ℕ} → Fraction f → All not_e f
unfolding E
fraction_no_e (no_fraction e) = rw e tt
fraction_no_e (fraction ds e d u) = rw e (refl, digits_no_e ds d)

-- an exponent starts with it
exponent_starts : {x : List ℕ} → Exponent x → Stops not_e x
unfolding E starts_e
exponent_starts (no_exponent e) = rw e tt
exponent_starts (exponent letter sign ds e t g d m) = rw e (ap not (rw e at t))

-- a float's digits are counted in what is left of it without suffix and `_`
float_count : {whole frac ex suf : List ℕ} → FloatParts whole frac ex suf → let s = whole ++ (frac ++ (ex ++ suf)) in
    let i = length whole in
    let f = i + length frac in
    digit_count 10 (part 0 i s) + digit_count 10 (part i f s) ≡ before_e (plain (take (f + length ex) s))
unfolding digit_count
float_count {whole} {frac} {ex} {suf} p =
    let n = all_append not_e whole frac (digits_no_e whole p.digits) (fraction_no_e p.fraction) in
    let q : take (length whole + length frac + length ex) (whole ++ (frac ++ (ex ++ suf))) ≡ (whole ++ frac) ++ ex =
    rw (length-append, append_assoc whole frac (ex ++ suf)) at (take_two (whole ++ frac) ex suf) in
    rw (part_front whole (frac ++ (ex ++ suf)), part_at whole frac (ex ++ suf), q, before_plain, before_front (whole ++ frac) ex n (exponent_starts p.exponent))
    (sym (count_append (is_digit 10) whole frac))

-- and so are an accepted float's
float_digits : (s : List ℕ) {e : ℕ} {d : FloatValues} → float_read s ≡ accepted 3 e (ends d)
    → digit_count 10 (part 0 d.whole s) + digit_count 10 (part d.whole d.fraction s) ≡ before_e (plain (take e s))
float_digits s {e} {d} h =
    let t = floats.sound s 3 e (ends d) h in
    cc (ends_same t.values, t.start, t.text, float_count t.parts)

-- and two accepted floats, in whole and fractional part together
pub floats_alike : (s t : List ℕ) {e f : ℕ} {d c : FloatValues} → float_read s ≡ accepted 3 e (ends d) → float_read t ≡ accepted 3 f (ends c)
    → plain (take e s) ≡ plain (take f t)
    → digit_count 10 (part 0 d.whole s) + digit_count 10 (part d.whole d.fraction s)
    ≡ digit_count 10 (part 0 c.whole t) + digit_count 10 (part c.whole c.fraction t)
floats_alike s t h g q = float_digits s h ∙ ap before_e q ∙ sym (float_digits t g)
