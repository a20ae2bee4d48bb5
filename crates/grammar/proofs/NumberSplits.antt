-- A number's part and suffix are determined by its text and are those that the scan finds; no integer literal is a float literal.
-- Assumes nothing.
use mathlib.Core.Path.{◌≡◌, refl, sym, ap}
use mathlib.Core.Bool.{Bool, true, false, cond, ◌&&◌}
use mathlib.Core.List.{List, [], ◌∷◌}
use Prim.Native.Nat.{ℕ}
use lib.Dec.{T}
use lib.ListN.{drop}
use Rattle.grammar.specs.Notation.{Class, begins, byte, ◌∪◌, ◌or◌}
use Rattle.grammar.specs.Suffixes.{DEC_DIGIT, E}
use Rattle.grammar.specs.Numbers.{BIN_DIGIT, OCT_DIGIT, HEX_DIGIT, INTEGER_PART, INTEGER_LITERAL, POINT_PART, FRACTION_PART, EXPONENT_PART, FLOAT_LITERAL}
use Rattle.grammar.specs.Values.{integer_value}
use Rattle.grammar.specs.Meaning.{Worth, Means, is_integer, is_float}
use Rattle.grammar.proofs.Scan.{take_while, drop_while, any, suffix_ok, digits_ok, prefixed, integer_ok, integer_part, integer_suffix, decimal_of, Run, float_parts, float_ok, after_point, after_fraction, after_e, without}
use Rattle.grammar.proofs.Runs.{true_T, and_l, and_r, or_l, or_r, span_eq}
use Rattle.grammar.proofs.Integers.{Apart, Exponent, dec_open, dec_first, prefix_is, suffix_point, bin_apart, oct_apart, hex_apart, integer_iff, integer_split}
use Rattle.grammar.proofs.Floats.{no_prefix, float_iff, float_split}
use Rattle.grammar.proofs.Splits.{longest_unique}

pub integer_unique : (s : List ℕ) (i j : INTEGER_LITERAL s) → (i.part ≡ j.part) × (i.suffix ≡ j.suffix)
integer_unique s i j = longest_unique INTEGER_PART s i.part i.suffix j.part j.suffix i.longest j.longest

pub float_unique : (s : List ℕ) (i j : FLOAT_LITERAL s) → (i.part ≡ j.part) × (i.suffix ≡ j.suffix)
float_unique s i j =
    longest_unique (POINT_PART or FRACTION_PART or EXPONENT_PART) s i.part i.suffix j.part j.suffix i.longest j.longest

-- ---- both begin with a decimal digit

-- an integer begins with a prefix, or is read as a decimal
integer_cases : (s : List ℕ) (P : Type 0) → ((c : ℕ) (d : Class) → Apart c d → T (prefixed c s) → P)
    → (T (begins DEC_DIGIT s && digits_ok DEC_DIGIT s) → P) → INTEGER_LITERAL s → P
unfolding integer_ok
integer_cases s P radix dec i =
    go (prefixed 98 s) (radix 98 BIN_DIGIT bin_apart) (prefixed 111 s) (radix 111 OCT_DIGIT oct_apart)
    (prefixed 120 s) (radix 120 HEX_DIGIT hex_apart) _ _ _ ((integer_iff s).1 i)
  where
    go : (x : Bool) → (T x → P) → (y : Bool) → (T y → P) → (z : Bool) → (T z → P) → (a b c : Bool)
        → T (cond x a (cond y b (cond z c (begins DEC_DIGIT s && digits_ok DEC_DIGIT s)))) → P
    go true e y f z g a b c t = e tt
    go false e true f z g a b c t = f tt
    go false e false f true g a b c t = g tt
    go false e false f false g a b c t = dec t

prefix_first : (c : ℕ) (s : List ℕ) → T (prefixed c s) → T (begins DEC_DIGIT s)
unfolding DEC_DIGIT
prefix_first c s t = rw (prefix_is c s t) tt

pub integer_first : (s : List ℕ) → INTEGER_LITERAL s → T (begins DEC_DIGIT s)
integer_first s = integer_cases s (T (begins DEC_DIGIT s)) (λ c d a t. prefix_first c s t) (λ t. and_l (begins DEC_DIGIT s) _ t)

pub float_first : (s : List ℕ) → FLOAT_LITERAL s → T (begins DEC_DIGIT s)
unfolding float_ok
float_first s i = and_l (begins DEC_DIGIT s) (float_parts s).ok ((float_iff s).1 i)

-- ---- a float has a period or an e after its first digits, an integer has not

float_next : (w r : List ℕ) → T (cond (begins (byte 46) r) (after_point w (drop 1 r)) (after_fraction false w [] r)).ok → T (begins (byte 46 ∪ E) r)
float_next w [] t = t
float_next w (k ∷ r) t = point (byte 46 k) refl t
  where
    letter : (b : Bool) → E k ≡ b → T (cond b (after_e w [] r) (without false w [] (k ∷ r))).ok → T ((byte 46 ∪ E) k)
    letter true e t = or_r (byte 46 k) (E k) (true_T _ e)
    letter false e t = absurd t

    point : (b : Bool) → byte 46 k ≡ b → T (cond b (after_point w r) (after_fraction false w [] (k ∷ r))).ok → T ((byte 46 ∪ E) k)
    point true e t = or_l (byte 46 k) (E k) (true_T _ e)
    point false e t = letter (E k) refl t

-- decimal digits, and then a period or an e
float_exponent : (s : List ℕ) → FLOAT_LITERAL s → Exponent s
unfolding float_ok float_parts
float_exponent s i =
    let t = (float_iff s).1 i in
    record {
      front = take_while Run s;
      back = drop_while Run s;
      is = span_eq Run s;
      dec = dec_open (take_while Run s) (dec_first s (and_l (begins DEC_DIGIT s) _ t));
      next = float_next (take_while Run s) (drop_while Run s) (and_r (begins DEC_DIGIT s) _ t);
    }

pub integer_no_float : (s : List ℕ) → INTEGER_LITERAL s → FLOAT_LITERAL s → ⊥
unfolding float_exponent
integer_no_float s i f =
    let x = float_exponent s f in
    integer_cases s ⊥ (λ c d a t. no_prefix c d s a x t)
    (λ t.
    let k = and_r (any DEC_DIGIT (take_while Run s)) _ (and_r (begins DEC_DIGIT s) _ t) in
    suffix_point (drop_while Run s) (and_l (suffix_ok (drop_while Run s)) _ k) (and_r (suffix_ok (drop_while Run s)) _ k) x.next) i

-- ---- the meaning that the scan finds

pub integer_means : (s : List ℕ) → T (integer_ok s) → Means s (Worth.integer (integer_value (integer_part s))) (integer_suffix s)
integer_means s t =
    let i = (integer_iff s).0 t in
    let h = integer_split s i in
    is_integer i (ap (λ (p : List ℕ). Worth.integer (integer_value p)) (sym h.0)) (sym h.1)

pub float_means : (s : List ℕ) → T (float_ok s) → Means s (Worth.float (decimal_of (float_parts s))) (float_parts s).suffix
float_means s t =
    let i = (float_iff s).0 t in
    let h = float_split s i in
    is_float i (ap Worth.float (sym h.0)) (sym h.1)
