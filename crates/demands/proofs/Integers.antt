-- litrs reads a text as an integer exactly where it is an INTEGER_LITERAL of the Reference, and then it is worth the same number.
-- Assumes nothing.
use Prim.Native.Nat.{ℕ, ◌+◌, ◌*◌, ◌≤◌, ◌<◌}
use mathlib.Core.Path.{◌≡◌, refl, sym, ap, ◌∙◌, subst}
use mathlib.Core.Logic.{◌⊎◌, inl, inr, ⊎_elim}
use mathlib.Core.Bool.{Bool, true, false, cond, ◌&&◌}
use mathlib.Core.List.{List, [], ◌∷◌, ◌++◌, append_assoc, append-nil}
use native.Mathlib.Nat.{add-sub_cancel_left}
use native.Mathlib.Omega.{arith}
use lib.Dec.{T, eqb}
use lib.ListN.{length, get_or, drop, length-append}
use lib.Seq.{take-append_seam, drop-append_seam, drop-append-add}
use borrow.Author.Tests.{eq-eqb}
use Rattle.err.specs.Outcome.{Values, accepted, digits}
use Rattle.scan.specs.Run.{run, All}
use Rattle.scan.specs.Sets.{only}
use Rattle.scan.proofs.Cases.{clash}
use Rattle.scan.proofs.Runs.{run_is}
use Rattle.parse.specs.Class.{class_of}
use Rattle.parse.specs.Sets.{digit, dec_digit}
use Rattle.parse.proofs.Classes.{digit_cases, digit_ten_cases, dec_digit_ends}
use Rattle.integer.specs.Integer.{base_at, integer_read}
use Rattle.integer.specs.Parts.{Prefixed, dec, bin, oct, hex, IntegerParts, Tiled}
use Rattle.integer.proofs.Bases.{base_short}
use Rattle.integer.proofs.OtherDigits.{base_ten}
use Rattle.integer.proofs.Parts.{sound, complete}
use Rattle.integer_value.specs.Value.{bounded}
use Rattle.integer_value.specs.Value as litrs
use Rattle.integer_value.proofs.Values.{value_of_parts}
use Rattle.grammar.specs.Notation.{Class, begins, ◌∪◌}
use Rattle.grammar.specs.Suffixes.{DEC_DIGIT, LOW}
use Rattle.grammar.specs.Numbers.{BIN_DIGIT, OCT_DIGIT, HEX_DIGIT, DEC_LITERAL, RADIX_LITERAL, INTEGER_PART, INTEGER_LITERAL}
use Rattle.grammar.specs.Values.{digit_value, plain, number_from, number_in, radix_of, integer_value}
use Rattle.grammar.specs.Meaning.{integer, is_integer}
use Rattle.grammar.proofs.Scan.{take_while, drop_while, any, suffix_ok, digits_ok, prefixed, integer_ok}
use Rattle.grammar.proofs.Runs.{T_true, true_T, and_l, and_r, and_i, or_l, span_eq, span_all, span_stop, mixed, mixed_all}
use Rattle.grammar.proofs.Integers.{dec_open, dec_make, dec_all, digits_ok_lem, prefix_is, integer_iff}
use Rattle.demands.specs.Demand1.{Readable}
use Rattle.demands.specs.Demand2.{GivesInteger}
use Rattle.demands.proofs.ValueCall.{fine_value}
use Rattle.demands.proofs.Found.{Found}
use Rattle.demands.proofs.Classes.{T_false, DigitsOf, bin_is, oct_is, dec_is, hex_digit_is, decimal_is, digit_is, value_is, all_to, all_from, stops_to, stops_from, some_to, some_from}
use Rattle.demands.proofs.Suffixes.{scan_fault, fault_scan, no_e_is, ending_is}

-- ---- the base

-- each prefix announces its own
base_bin : (t : List ℕ) → base_at (48 ∷ 98 ∷ t) ≡ 2
unfolding base_at
base_bin t = refl

base_oct : (t : List ℕ) → base_at (48 ∷ 111 ∷ t) ≡ 8
unfolding base_at
base_oct t = refl

base_hex : (t : List ℕ) → base_at (48 ∷ 120 ∷ t) ≡ 16
unfolding base_at
base_hex t = refl

-- the base announced by a prefix and digits is their own, but for one decimal digit alone
base_at_lem : {base : ℕ} {pre : List ℕ} → Prefixed base pre → (main y : List ℕ) → All (digit base) main
    → (base_at (pre ++ (main ++ y)) ≡ base) ⊎ (length (pre ++ main) ≤ 1)
base_at_lem dec [] y a = inr (omega arith)
base_at_lem dec (c ∷ []) y a = inr (omega arith)
base_at_lem dec (c ∷ k ∷ r) y a =
    inl (⊎_elim (λ (e : k ≡ 95). base_ten (c ∷ k ∷ (r ++ y)) (λ z. omega arith) (λ z. omega arith) (λ z. omega arith))
    (λ e. let g = dec_digit_ends k e in base_ten (c ∷ k ∷ (r ++ y)) (λ z. omega arith) (λ z. omega arith) (λ z. omega arith))
    (digit_ten_cases k a.1.0))
base_at_lem bin main y a = inl (base_bin (main ++ y))
base_at_lem oct main y a = inl (base_oct (main ++ y))
base_at_lem hex main y a = inl (base_hex (main ++ y))

pub base_most : {base : ℕ} {pre : List ℕ} → Prefixed base pre → base ≤ 16
base_most dec = omega arith
base_most bin = omega arith
base_most oct = omega arith
base_most hex = omega arith

abbrev prefix_in : ℕ → ℕ
prefix_in base = cond (eqb base 10) 0 2

prefix_length : {base : ℕ} {pre : List ℕ} → Prefixed base pre → length pre ≡ prefix_in base
prefix_length dec = refl
prefix_length bin = refl
prefix_length oct = refl
prefix_length hex = refl

-- ---- the part before the suffix

-- a prefix or none, and digits and `_`
pub record Numeral (q : List ℕ) : Type 0 where
  pub base : ℕ
  pub pre : List ℕ
  pub main : List ℕ
  pub prefix : Prefixed base pre
  pub is : q ≡ pre ++ main
  pub digits : All (digit base) main

radix_open : (c base : ℕ) (d : Class) (q : List ℕ) → Prefixed base (48 ∷ c ∷ []) → DigitsOf d base → RADIX_LITERAL c d q → Numeral q
radix_open c base d q p h m =
    record {
      base = base;
      pre = 48 ∷ c ∷ [];
      main = m.1;
      prefix = p;
      is = m.2 ∙ rw m.3;
      digits = all_to (digit_is d base h) m.1 (mixed_all d LOW m.1 m.4).0;
    }

numeral_open : (q : List ℕ) → INTEGER_PART q → Numeral q
numeral_open q (inl m) =
    record { base = 10; pre = []; main = q; prefix = dec; is = refl; digits = all_to (digit_is DEC_DIGIT 10 dec_is) q (dec_all (dec_open q m)) }
numeral_open q (inr (inl m)) = radix_open 98 2 BIN_DIGIT q bin bin_is m
numeral_open q (inr (inr (inl m))) = radix_open 111 8 OCT_DIGIT q oct oct_is m
numeral_open q (inr (inr (inr m))) = radix_open 120 16 HEX_DIGIT q hex hex_digit_is m

radix_make : (c base : ℕ) (d : Class) (main : List ℕ) → DigitsOf d base → All (digit base) main → run (only 95) main < length main
    → RADIX_LITERAL c d (48 ∷ c ∷ main)
radix_make c base d main h a n = (48 ∷ c ∷ [], main, refl, refl, mixed d LOW main (all_from (digit_is d base h) main a) (some_from d base h main a n))

decimal_make : (main : List ℕ) → All (digit 10) main → run (only 95) main < length main → dec_digit (get_or main 0 0) ≡ true → DEC_LITERAL main
decimal_make [] a n f = absurd (omega arith)
decimal_make (c ∷ r) a n f = dec_make c r (true_T (DEC_DIGIT c) (decimal_is c ∙ f)) (all_from (digit_is DEC_DIGIT 10 dec_is) r a.1)

numeral_close : {base : ℕ} {pre : List ℕ} → Prefixed base pre → (main : List ℕ) → All (digit base) main → run (only 95) main < length main
    → dec_digit (get_or (pre ++ main) 0 0) ≡ true → INTEGER_PART (pre ++ main)
numeral_close dec main a n f = inl (decimal_make main a n f)
numeral_close bin main a n f = inr (inl (radix_make 98 2 BIN_DIGIT main bin_is a n))
numeral_close oct main a n f = inr (inr (inl (radix_make 111 8 OCT_DIGIT main oct_is a n)))
numeral_close hex main a n f = inr (inr (inr (radix_make 120 16 HEX_DIGIT main hex_digit_is a n)))

-- no split has a longer run
run_most : (p : ℕ → Bool) (u v : List ℕ) → All p u → length u ≤ run p (u ++ v)
run_most p [] v a = omega arith
run_most p (c ∷ u) v a = rw a.0 (omega (arith, run_most p u v a.1))

-- the parts of a text are its longest
largest : {base : ℕ} {pre main suf : List ℕ} → IntegerParts base pre main suf → (q y : List ℕ) → pre ++ (main ++ suf) ≡ q ++ y → INTEGER_PART q
    → length q ≤ length (pre ++ main)
largest {base} {pre} {main} {suf} h q y e i =
    ⊎_elim (λ b.
    let j : n.base ≡ base = sym b ∙ ap base_at (sym w) ∙ h.plain in
    let l : length n.pre ≡ length pre = prefix_length n.prefix ∙ ap prefix_in j ∙ sym (prefix_length h.prefix) in
    let a : All (digit base) n.main = subst (λ (x : ℕ). All (digit x) n.main) j n.digits in
    let r : main ++ suf ≡ n.main ++ y =
    sym (drop-append_seam pre (main ++ suf)) ∙ ap (drop (length pre)) w
    ∙ ap (λ (x : ℕ). drop x (n.pre ++ (n.main ++ y))) (sym l) ∙ drop-append_seam n.pre (n.main ++ y) in
    let m : length n.main ≤ length main =
    omega (arith, run_most (digit base) n.main y a, ap (run (digit base)) r, run_is (digit base) main suf h.digits h.longest) in
    omega (arith, ap length n.is, length-append n.pre n.main, length-append pre main))
    (λ l. omega (arith, ap length n.is, length-append pre main, h.some))
    (base_at_lem n.prefix n.main y n.digits)
  where
    n : Numeral q
    n = numeral_open q i

    w : pre ++ (main ++ suf) ≡ n.pre ++ (n.main ++ y)
    w = e ∙ ap (λ (u : List ℕ). u ++ y) n.is ∙ append_assoc n.pre n.main y

-- ---- the scan

digits_scan : {base : ℕ} {pre main suf : List ℕ} (d : Class) → DigitsOf d base → IntegerParts base pre main suf → T (digits_ok d (main ++ suf))
digits_scan {base} {pre} {main} {suf} d k h =
    digits_ok_lem d main suf (all_from (digit_is d base k) main h.digits) (stops_from (digit_is d base k) suf h.longest)
    (some_from d base k main h.digits h.some) (fault_scan suf h.suffix) ((no_e_is suf).0 h.no_e)

-- a text of base ten starts with no prefix
no_prefix : (c base : ℕ) (s : List ℕ) → ((t : List ℕ) → base_at (48 ∷ c ∷ t) ≡ base) → (base ≡ 10 → ⊥) → base_at s ≡ 10 → prefixed c s ≡ false
no_prefix c base s h n e = T_false (prefixed c s) (λ t. n (sym (h (drop 2 s)) ∙ ap base_at (sym (prefix_is c s t)) ∙ e))

first_scan : (main suf : List ℕ) → run (only 95) main < length main → dec_digit (get_or main 0 0) ≡ true → T (begins DEC_DIGIT (main ++ suf))
first_scan [] suf n f = absurd (omega arith)
first_scan (c ∷ main) suf n f = true_T (DEC_DIGIT c) (decimal_is c ∙ f)

parts_scan : {base : ℕ} {pre main suf : List ℕ} → Prefixed base pre → IntegerParts base pre main suf → T (integer_ok (pre ++ (main ++ suf)))
unfolding integer_ok
parts_scan {main = main} {suf} dec h =
    let b = no_prefix 98 2 (main ++ suf) base_bin (λ z. omega arith) h.plain in
    let o = no_prefix 111 8 (main ++ suf) base_oct (λ z. omega arith) h.plain in
    let x = no_prefix 120 16 (main ++ suf) base_hex (λ z. omega arith) h.plain in
    rw (b, o, x)
    (and_i (begins DEC_DIGIT (main ++ suf)) _ (first_scan main suf h.some h.first) (digits_scan DEC_DIGIT dec_is h))
parts_scan bin h = digits_scan BIN_DIGIT bin_is h
parts_scan oct h = digits_scan OCT_DIGIT oct_is h
parts_scan hex h = digits_scan HEX_DIGIT hex_digit_is h

-- parts make a literal, with their own split
literal : {base : ℕ} {pre main suf : List ℕ} → IntegerParts base pre main suf → INTEGER_LITERAL (pre ++ (main ++ suf))
literal {pre = pre} {main} {suf} h =
    record {
      part = pre ++ main;
      suffix = suf;
      longest = record {
        split = sym (append_assoc pre main suf);
        is = numeral_close h.prefix main h.digits h.some h.first;
        most = largest h;
      };
      ending = (ending_is suf).0 (h.suffix, h.no_e);
      free = ((integer_iff (pre ++ (main ++ suf))).0 (parts_scan h.prefix h)).free;
    }

-- ---- the number

-- litrs passes over `_`, the Reference takes them out first
number_from_lem : (base n : ℕ) (s : List ℕ) → base ≤ 16 → All (digit base) s → litrs.number_from base n s ≡ number_from base n (plain s)
unfolding LOW
number_from_lem base n [] l a = refl
number_from_lem base n (c ∷ s) l a = go (eqb c 95) refl (number_from_lem base n s l a.1) (number_from_lem base (n * base + class_of c) s l a.1)
  where
    worth : (eqb c 95 ≡ false) → digit_value c ≡ class_of c
    worth e = ⊎_elim (λ z. clash (eq-eqb c 95 z) e) (λ z. value_is c (omega arith)) (digit_cases base c a.0)

    go : (b : Bool) → eqb c 95 ≡ b → litrs.number_from base n s ≡ number_from base n (plain s)
        → litrs.number_from base (n * base + class_of c) s ≡ number_from base (n * base + class_of c) (plain s)
        → cond b (litrs.number_from base n s) (litrs.number_from base (n * base + class_of c) s) ≡ number_from base n (cond b (plain s) (c ∷ plain s))
    go true e p q = p
    go false e p q = q ∙ ap (λ (v : ℕ). number_from base (n * base + v) (plain s)) (sym (worth e))

pub number_is : (base : ℕ) (s : List ℕ) → base ≤ 16 → All (digit base) s → litrs.number base s ≡ number_in base s
unfolding litrs.number number_in
number_is base s = number_from_lem base 0 s

radix_is : (s : List ℕ) → radix_of s ≡ base_at s
unfolding radix_of base_at
radix_is s = go (eqb (get_or s 0 0) 48)
  where
    go : (t : Bool) → ◌≡◌ {A = ℕ} (cond (t && eqb (get_or s 1 0) 98) 2 (cond (t && eqb (get_or s 1 0) 111) 8 (cond (t && eqb (get_or s 1 0) 120) 16 10)))
        (cond t (cond (eqb (get_or s 1 0) 98) 2 (cond (eqb (get_or s 1 0) 111) 8 (cond (eqb (get_or s 1 0) 120) 16 10))) 10)
    go true = refl
    go false = refl

-- the part's first two bytes announce its base
part_base : {base : ℕ} {pre : List ℕ} → Prefixed base pre → (main : List ℕ) → All (digit base) main → base_at (pre ++ main) ≡ base
part_base {base} {pre} p main a =
    ⊎_elim (λ e. rw append-nil at e) (λ l. short p l) (base_at_lem p main [] a)
  where
    short : {base : ℕ} {pre : List ℕ} → Prefixed base pre → length (pre ++ main) ≤ 1 → base_at (pre ++ main) ≡ base
    short dec l = sym (base_short main (omega arith))
    short bin l = absurd (omega arith)
    short oct l = absurd (omega arith)
    short hex l = absurd (omega arith)

pub part_value : {base : ℕ} {pre : List ℕ} → Prefixed base pre → (main : List ℕ) → All (digit base) main
    → integer_value (pre ++ main) ≡ number_in base main
unfolding integer_value
part_value {base} {pre} p main a = rw (radix_is (pre ++ main), part_base p main a) (digits_of p)
  where
    digits_of : {base : ℕ} {pre : List ℕ} → Prefixed base pre
        → number_in base (cond (eqb base 10) (pre ++ main) (drop 2 (pre ++ main))) ≡ number_in base main
    digits_of dec = refl
    digits_of bin = refl
    digits_of oct = refl
    digits_of hex = refl

-- ---- what litrs reads

gives : {base : ℕ} {pre main suf : List ℕ} → IntegerParts base pre main suf → Readable (pre ++ (main ++ suf))
    → GivesInteger (pre ++ (main ++ suf)) (digits (record { base = base; start = length pre; end = length pre + length main })) (integer_value (pre ++ main))
gives {base} {pre} {main} {suf} h f =
    let v = part_value h.prefix main h.digits in
    record {
      marks = record { base = base; start = length pre; end = length pre + length main };
      values = refl;
      number = rw (add-sub_cancel_left, drop-append_seam, take-append_seam) (sym v);
      radix = sym (radix_is (pre ++ (main ++ suf)) ∙ h.plain);
      at_each_type = λ code largest e.
          fine_value code largest (pre ++ (main ++ suf)) e f ∙ value_of_parts largest h
          ∙ ap (bounded largest) (number_is base main (base_most h.prefix) h.digits ∙ sym v);
    }

found : {s : List ℕ} {k e : ℕ} {vs : Values} → Tiled s k e vs → Readable s → Found s k e vs
unfolding literal
found {s} {k} {e} {vs} t f = go t.parts t.text t.kind t.end t.values
  where
    go : {base : ℕ} {pre main suf : List ℕ} → IntegerParts base pre main suf → s ≡ pre ++ (main ++ suf) → k ≡ 2 → e ≡ length pre + length main
        → vs ≡ digits (record { base = base; start = length pre; end = e }) → Found s k e vs
    go {base} {pre} {main} {suf} h q k e v =
        rw (v, e, k, q)
        (record {
          worth = integer (integer_value (pre ++ main));
          suffix = suf;
          means = is_integer (literal h) refl refl;
          kind = refl;
          rest = rw (drop-append-add, drop-append_seam);
          gives = gives h (rw q at f);
        })

-- what litrs reads as an integer is one
pub integer_found : (s : List ℕ) {k e : ℕ} {vs : Values} → Readable s → integer_read s ≡ accepted k e vs → Found s k e vs
integer_found s {k} {e} {vs} f h = found (sound s k e vs h) f

-- ---- what the Reference has

-- a text has parts
pub record HasParts (s : List ℕ) : Type 0 where
  pub base : ℕ
  pub pre : List ℕ
  pub main : List ℕ
  pub suf : List ℕ
  pub parts : IntegerParts base pre main suf
  pub text : s ≡ pre ++ (main ++ suf)

-- of a prefix or none and the run of digits after it
scan_parts : {base : ℕ} {pre : List ℕ} (d : Class) (s t : List ℕ) → Prefixed base pre → DigitsOf d base → s ≡ pre ++ t → base_at s ≡ base
    → dec_digit (get_or (pre ++ take_while (d ∪ LOW) t) 0 0) ≡ true → T (digits_ok d t) → HasParts s
scan_parts {base} {pre} d s t p k e b f ok =
    let g = d ∪ LOW in
    let r = and_r (any d (take_while g t)) _ ok in
    let w : s ≡ pre ++ (take_while g t ++ drop_while g t) = e ∙ ap (λ (u : List ℕ). pre ++ u) (span_eq g t) in
    record {
      base = base;
      pre = pre;
      main = take_while g t;
      suf = drop_while g t;
      parts = record {
        prefix = p;
        digits = all_to (digit_is d base k) (take_while g t) (span_all g t);
        some = some_to d base k (base_most p) (take_while g t) (and_l (any d (take_while g t)) _ ok);
        longest = stops_to (digit_is d base k) (drop_while g t) (span_stop g t);
        suffix = scan_fault (drop_while g t) (and_l (suffix_ok (drop_while g t)) _ r);
        no_e = (no_e_is (drop_while g t)).1 (and_r (suffix_ok (drop_while g t)) _ r);
        first = f;
        plain = ap base_at (sym w) ∙ b;
      };
      text = w;
    }

zero_first : (r : List ℕ) → dec_digit (get_or (48 ∷ r) 0 0) ≡ true
unfolding dec_digit class_of
zero_first r = refl

-- no prefix, base ten
not_prefixed : (s : List ℕ) → prefixed 98 s ≡ false → prefixed 111 s ≡ false → prefixed 120 s ≡ false → base_at s ≡ 10
unfolding base_at
not_prefixed [] b o x = refl
not_prefixed (a ∷ []) b o x = sym (base_short (a ∷ []) (omega arith))
not_prefixed (a ∷ c ∷ s) b o x = go (eqb a 48) b o x
  where
    go : (t : Bool) → (t && eqb c 98) ≡ false → (t && eqb c 111) ≡ false → (t && eqb c 120) ≡ false
        → ◌≡◌ {A = ℕ} (cond t (cond (eqb c 98) 2 (cond (eqb c 111) 8 (cond (eqb c 120) 16 10))) 10) 10
    go true b o x = rw (b, o, x)
    go false b o x = refl

first_digit : (s : List ℕ) → T (begins DEC_DIGIT s) → dec_digit (get_or (take_while (DEC_DIGIT ∪ LOW) s) 0 0) ≡ true
first_digit [] t = absurd t
first_digit (c ∷ s) t = rw (T_true ((DEC_DIGIT ∪ LOW) c) (or_l (DEC_DIGIT c) (LOW c) t)) (sym (decimal_is c) ∙ T_true (DEC_DIGIT c) t)

scanned : (s : List ℕ) → T (integer_ok s) → HasParts s
unfolding integer_ok
scanned s = go (prefixed 98 s) refl (prefixed 111 s) refl (prefixed 120 s) refl
  where
    radix : (c base : ℕ) (d : Class) → Prefixed base (48 ∷ c ∷ []) → DigitsOf d base → ((t : List ℕ) → base_at (48 ∷ c ∷ t) ≡ base)
        → prefixed c s ≡ true → T (digits_ok d (drop 2 s)) → HasParts s
    radix c base d p k b e =
        let w = prefix_is c s (true_T _ e) in
        scan_parts d s (drop 2 s) p k w (ap base_at w ∙ b (drop 2 s)) (zero_first (c ∷ take_while (d ∪ LOW) (drop 2 s)))

    go : (x : Bool) → prefixed 98 s ≡ x → (y : Bool) → prefixed 111 s ≡ y → (z : Bool) → prefixed 120 s ≡ z
        → T (cond x (digits_ok BIN_DIGIT (drop 2 s)) (cond y (digits_ok OCT_DIGIT (drop 2 s)) (cond z (digits_ok HEX_DIGIT (drop 2 s))
        (begins DEC_DIGIT s && digits_ok DEC_DIGIT s)))) → HasParts s
    go true e y f z g = radix 98 2 BIN_DIGIT bin bin_is base_bin e
    go false e true f z g = radix 111 8 OCT_DIGIT oct oct_is base_oct f
    go false e false f true g = radix 120 16 HEX_DIGIT hex hex_digit_is base_hex g
    go false e false f false g = λ ok.
        scan_parts DEC_DIGIT s s dec dec_is refl (not_prefixed s e f g) (first_digit s (and_l (begins DEC_DIGIT s) (digits_ok DEC_DIGIT s) ok))
        (and_r (begins DEC_DIGIT s) (digits_ok DEC_DIGIT s) ok)

-- what is an INTEGER_LITERAL litrs reads as an integer
pub integer_read_lem : (s : List ℕ) → INTEGER_LITERAL s → (e : ℕ) × (vs : Values) × (integer_read s ≡ accepted 2 e vs)
integer_read_lem s i =
    let p = scanned s ((integer_iff s).1 i) in
    let e = length p.pre + length p.main in
    (e, digits (record { base = p.base; start = length p.pre; end = e }), ap integer_read p.text ∙ complete p.parts)
