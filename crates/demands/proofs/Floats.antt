-- litrs reads a text as a float exactly where it is a FLOAT_LITERAL of the Reference, and then it is worth the same number.
-- Assumes nothing.
use Prim.Native.Nat.{ℕ, suc, ◌+◌, ◌-◌, ◌<◌}
use mathlib.Core.Path.{◌≡◌, refl, sym, ap, ◌∙◌, subst⁻¹}
use mathlib.Core.Logic.{◌⊎◌, inl, inr, ⊎_elim}
use mathlib.Core.Bool.{Bool, true, false, not}
use mathlib.Core.List.{List, [], ◌∷◌, ◌++◌, append_assoc, append-nil, cons≢nil, tail-eq_of_cons-eq}
use native.Mathlib.Nat.{sub-zero}
use native.Mathlib.Omega.{arith}
use lib.Dec.{T, eqb, eqb→eq}
use lib.ListN.{length, get_or, drop, length-append}
use lib.Seq.{take-append_seam, drop-append-add, drop_at}
use borrow.Author.Tests.{ne_eqb, not-true}
use Rattle.err.specs.Outcome.{Values, accepted, ends}
use Rattle.scan.specs.Run.{run, All, Stops}
use Rattle.scan.specs.Sets.{only}
use Rattle.scan.proofs.Cases.{clash}
use Rattle.scan.proofs.Runs.{all_append as both-all}
use Rattle.parse.specs.Class.{class_of}
use Rattle.parse.specs.Sets.{digit, dec_digit, starts_e}
use Rattle.suffix.specs.Suffix.{suffix_fault}
use Rattle.parse.proofs.Classes.{digit_ten_cases, dec_digit_ends}
use Rattle.float.specs.Float.{float_read}
use Rattle.float.specs.Parts.{Fraction, no_fraction, fraction, Sign, unsigned, plus, minus, Exponent, no_exponent, exponent, FloatParts}
use Rattle.float.proofs.Sound.{sound}
use Rattle.float.proofs.Complete.{complete, rest_stops, whole_longest, no_period}
use Rattle.grammar.specs.Notation.{Lang, Class, begins, byte, ◌∪◌, one, many, text, ◌·◌, ◌or◌, opt, Longest}
use Rattle.grammar.specs.Suffixes.{DEC_DIGIT, LOW, E, SUFFIX, SUFFIX_NO_E}
use Rattle.grammar.specs.Numbers.{SIGN, DEC_LITERAL, FLOAT_EXPONENT, POINT_PART, FRACTION_PART, EXPONENT_PART, FLOAT_LITERAL}
use Rattle.grammar.specs.Values.{before, after, powered, float_value}
use Rattle.grammar.specs.Meaning.{float, is_float}
use Rattle.grammar.proofs.Scan.{take_while, drop_while, any, suffix_ok, Run, after_sign, after_e, after_fraction, after_point, after_whole, float_parts, float_ok}
use Rattle.grammar.proofs.Runs.{T_true, true_T, T_not, and_i, or_l, or_r, or_e, span_only, all_append, mixed_all}
use Rattle.grammar.proofs.Integers.{Dec, dec_open, dec_all, dec_apart}
use Rattle.grammar.proofs.Floats.{float_iff}
use Rattle.demands.specs.Demand1.{Readable}
use Rattle.scan.specs.Part.{part}
use Rattle.demands.proofs.Found.{Found}
use Rattle.demands.proofs.Classes.{dec_is, decimal_is, digit_is, all_to, all_from, stops_to, stops_from, some_to, some_from}
use Rattle.demands.proofs.Suffixes.{fault_scan, suffix_is, e_is, ending_is}

-- ---- what litrs reads, the scan accepts

run_is : (c : ℕ) → Run c ≡ digit 10 c
run_is = digit_is DEC_DIGIT 10 dec_is

-- digits and `_`, then what is neither
run_ends : (a r : List ℕ) → All (digit 10) a → Stops (digit 10) r → (take_while Run (a ++ r) ≡ a) × (drop_while Run (a ++ r) ≡ r)
run_ends a r d l = span_only Run a r (all_from run_is a d) (stops_from run_is r l)

digit_sign : (c : ℕ) → digit 10 c ≡ true → SIGN c ≡ false
unfolding SIGN
digit_sign c d =
    ⊎_elim (λ e. rw e) (λ h. let g = dec_digit_ends c h in rw (ne_eqb c 43 (λ e. omega arith), ne_eqb c 45 (λ e. omega arith))) (digit_ten_cases c d)

no_sign : (ds suf : List ℕ) → All (digit 10) ds → run (only 95) ds < length ds → begins SIGN (ds ++ suf) ≡ false
no_sign [] suf d m = absurd (omega arith)
no_sign (c ∷ ds) suf d m = digit_sign c d.0

module _ (w f ds suf : List ℕ) (d : All (digit 10) ds) (m : run (only 95) ds < length ds) (l : Stops (digit 10) suf) (o : suffix_fault suf ≡ 0) where
  sign_scan : (n : Bool) → T (after_sign w f n (ds ++ suf)).ok
  sign_scan n =
      let h = run_ends ds suf d l in
      rw (h.0, h.1) (and_i (any DEC_DIGIT ds) _ (some_from DEC_DIGIT 10 dec_is ds d m) (fault_scan suf o))

  e_scan : (sign : List ℕ) → Sign sign → T (after_e w f (sign ++ (ds ++ suf))).ok
  unfolding SIGN
  e_scan sign unsigned = rw (no_sign ds suf d m) (sign_scan false)
  e_scan sign plus = sign_scan false
  e_scan sign minus = sign_scan true

-- after the fraction
rest_scan : (p : Bool) (w f ex suf : List ℕ) → Exponent ex → suffix_fault suf ≡ 0 → Stops (digit 10) suf
    → (ex ≡ [] → starts_e suf 0 ≡ false) → (ex ≡ [] → T p) → T (after_fraction p w f (ex ++ suf)).ok
rest_scan p w f ex suf (no_exponent e) o l n t = rw (e, sym (e_is suf) ∙ n e) (and_i p (suffix_ok suf) (t e) (fault_scan suf o))
rest_scan p w f ex suf (exponent letter sign ds e q g d m) o l n t =
    let b : E letter ≡ true = ap (begins E) (sym e) ∙ sym (e_is ex) ∙ q in
    rw (e, b, append_assoc) (e_scan w f ds suf d m l o sign g)

-- after the period
point_scan : (w ds ex suf : List ℕ) → All (digit 10) ds → Stops (only 95) ds → Exponent ex → suffix_fault suf ≡ 0 → Stops (digit 10) suf
    → (ex ≡ [] → starts_e suf 0 ≡ false) → (ds ≡ [] → (ex ≡ []) × (suf ≡ [])) → T (after_point w (ds ++ (ex ++ suf))).ok
unfolding only
point_scan w [] ex suf d u x o l n b = let z = b refl in rw (z.0, z.1) tt
point_scan w (c ∷ ds) ex suf d u x o l n b =
    let h = run_ends (c ∷ ds) (ex ++ suf) d (rest_stops ex suf x l) in
    let t : DEC_DIGIT c ≡ true = decimal_is c ∙ ⊎_elim (λ e. clash (rw e) u) (λ e. e) (digit_ten_cases c d.0) in
    rw (h.0, h.1, t) (rest_scan true w (c ∷ ds) ex suf x o l n (λ _. tt))

no_point : (r : List ℕ) → (get_or r 0 0 ≡ 46 → ⊥) → begins (byte 46) r ≡ false
no_point [] n = refl
no_point (c ∷ r) n = ne_eqb c 46 n

first_scan : (w r : List ℕ) → dec_digit (get_or w 0 0) ≡ true → T (begins DEC_DIGIT (w ++ r))
unfolding dec_digit class_of
first_scan [] r f = clash f refl
first_scan (c ∷ w) r f = true_T (DEC_DIGIT c) (decimal_is c ∙ f)

parts_scan : {whole frac ex suf : List ℕ} → FloatParts whole frac ex suf → T (float_ok (whole ++ (frac ++ (ex ++ suf))))
unfolding float_ok float_parts
parts_scan {whole} {frac} {ex} {suf} p =
    let h = run_ends whole (frac ++ (ex ++ suf)) p.digits (whole_longest p) in
    and_i (begins DEC_DIGIT (whole ++ (frac ++ (ex ++ suf)))) _ (first_scan whole (frac ++ (ex ++ suf)) p.first)
    (rw (h.0, h.1) (go p.fraction))
  where
    go : Fraction frac → T (after_whole whole (frac ++ (ex ++ suf))).ok
    go (no_fraction e) =
        rw (e, no_point (ex ++ suf) (no_period p e))
        (rest_scan false whole [] ex suf p.exponent p.suffix p.longest p.no_e (λ z. p.some e z))
    go (fraction ds e d u) =
        rw e
        (point_scan whole ds ex suf d u p.exponent p.suffix p.longest p.no_e (λ z. p.bare (e ∙ rw z)))

-- ---- the parts of a literal

-- one byte more at the end
grow : (k : ℕ) (A B : Lang) → ((v : List ℕ) → B v → B (v ++ (k ∷ []))) → (q : List ℕ) → (A · B) q → (A · B) (q ++ (k ∷ []))
grow k A B f q m = (m.0, m.1 ++ (k ∷ []), ap (λ (u : List ℕ). u ++ (k ∷ [])) m.2 ∙ append_assoc m.0 m.1 (k ∷ []), m.3, f m.1 m.4)

module _ (k : ℕ) (t : T (Run k)) where
  more : (v : List ℕ) → many Run v → many Run (v ++ (k ∷ []))
  more v h = all_append Run v (k ∷ []) h (and_i (Run k) true t tt)

  fraction_more : (q : List ℕ) → FRACTION_PART q → FRACTION_PART (q ++ (k ∷ []))
  fraction_more = grow k _ _ (grow k _ _ (grow k _ _ more))

  exponent_more : (q : List ℕ) → EXPONENT_PART q → EXPONENT_PART (q ++ (k ∷ []))
  exponent_more = grow k _ _ (grow k _ _ (grow k _ _ (grow k _ _ (grow k _ _ (grow k _ _ more)))))

abbrev FLOAT_PART : Lang
FLOAT_PART = POINT_PART or FRACTION_PART or EXPONENT_PART

-- the longest part is not followed by one more digit or `_`
longest_stops : (s p x : List ℕ) → Longest FLOAT_PART s p x → ((k : ℕ) → T (Run k) → FLOAT_PART (p ++ (k ∷ []))) → Stops (digit 10) x
longest_stops s p [] l m = tt
longest_stops s p (k ∷ x) l m =
    stops_to run_is (k ∷ x)
    (λ t.
    let h = l.most (p ++ (k ∷ [])) x (l.split ∙ sym (append_assoc p (k ∷ []) x)) (m k t) in
    omega (arith, h, length-append p (k ∷ [])))

-- integer part, fraction and exponent of a literal's part
pub record Opened (q x : List ℕ) : Type 0 where
  pub whole : List ℕ
  pub frac : List ℕ
  pub ex : List ℕ
  pub parts : FloatParts whole frac ex x
  pub is : q ≡ whole ++ (frac ++ ex)

dec_digits : {q : List ℕ} → Dec q → All (digit 10) q
dec_digits {q} d = all_to run_is q (dec_all d)

dec_head : {q : List ℕ} → Dec q → dec_digit (get_or q 0 0) ≡ true
dec_head d = rw d.is (sym (decimal_is d.first) ∙ T_true (DEC_DIGIT d.first) d.digit)

dec_some : {q : List ℕ} → Dec q → q ≡ [] → ⊥
dec_some d e = cons≢nil (sym d.is ∙ e)

dec_fraction : (b : List ℕ) → Dec b → Fraction (46 ∷ b)
unfolding only
dec_fraction b d =
    let g = dec_digit_ends d.first (sym (decimal_is d.first) ∙ T_true (DEC_DIGIT d.first) d.digit) in
    fraction b refl (dec_digits d) (rw d.is (ne_eqb d.first 95 (λ e. omega arith)))

sign_of : (g : List ℕ) → opt (one SIGN) g → Sign g
unfolding SIGN
sign_of g (inl e) = rw e unsigned
sign_of g (inr m) =
    rw m.1
    (⊎_elim (λ e. rw (eqb→eq m.0 43 e) plus) (λ e. rw (eqb→eq m.0 45 e) minus) (or_e (eqb m.0 43) (eqb m.0 45) m.2))

ex_exponent : (e : List ℕ) → FLOAT_EXPONENT e → Exponent e
ex_exponent e m =
    let k = m.3 in
    let n = m.4 in
    let r = mixed_all DEC_DIGIT LOW n.1 n.4 in
    let w : e ≡ k.0 ∷ (n.0 ++ n.1) = m.2 ∙ ap (λ (u : List ℕ). u ++ m.1) k.1 ∙ ap (λ (u : List ℕ). k.0 ∷ u) n.2 in
    exponent k.0 n.0 n.1 w (e_is e ∙ rw w (T_true (E k.0) k.2)) (sign_of n.0 n.3) (all_to run_is n.1 r.0)
    (some_to DEC_DIGIT 10 dec_is (omega arith) n.1 r.1)

ex_some : (e : List ℕ) → FLOAT_EXPONENT e → e ≡ [] → ⊥
ex_some e m z = cons≢nil (sym (m.2 ∙ ap (λ (u : List ℕ). u ++ m.1) m.3.1) ∙ z)

opened : (s : List ℕ) (i : FLOAT_LITERAL s) → Opened i.part i.suffix
opened s i = go i.ending
  where
    x : List ℕ
    x = i.suffix

    stops : ((k : ℕ) → T (Run k) → FLOAT_PART (i.part ++ (k ∷ []))) → Stops (digit 10) x
    stops = longest_stops s i.part x i.longest

    point : POINT_PART i.part → x ≡ [] → Opened i.part x
    point m e =
        let d = dec_open m.0 m.3 in
        record {
          whole = m.0;
          frac = 46 ∷ [];
          ex = [];
          parts = record {
            digits = dec_digits d;
            first = dec_head d;
            fraction = fraction [] refl tt tt;
            exponent = no_exponent refl;
            suffix = (suffix_is x).1 (inl e);
            some = λ z y. cons≢nil z;
            bare = λ _. (refl, e);
            longest = rw e tt;
            no_e = λ _. ((ending_is x).1 (inl e)).1;
          };
          is = m.2 ∙ ap (λ (u : List ℕ). m.0 ++ u) m.4;
        }

    frac : FRACTION_PART i.part → opt SUFFIX_NO_E x → Opened i.part x
    frac m e =
        let n = m.4 in
        let d = dec_open m.0 m.3 in
        let b = dec_open n.1 n.4 in
        let o = (ending_is x).1 e in
        record {
          whole = m.0;
          frac = 46 ∷ n.1;
          ex = [];
          parts = record {
            digits = dec_digits d;
            first = dec_head d;
            fraction = dec_fraction n.1 b;
            exponent = no_exponent refl;
            suffix = o.0;
            some = λ z y. cons≢nil z;
            bare = λ z. absurd (dec_some b (tail-eq_of_cons-eq z));
            longest = stops (λ k t. inr (inl (fraction_more k t i.part m)));
            no_e = λ _. o.1;
          };
          is = m.2 ∙ ap (λ (u : List ℕ). m.0 ++ u) (n.2 ∙ ap (λ (u : List ℕ). u ++ n.1) n.3 ∙ sym (append-nil (46 ∷ n.1)));
        }

    expo : EXPONENT_PART i.part → opt SUFFIX x → Opened i.part x
    expo m e = with_fraction m.4.0 m.4.3 m.4.2
      where
        ex : List ℕ
        ex = m.4.1

        build : (f : List ℕ) → Fraction f → (f ≡ 46 ∷ [] → ⊥) → m.1 ≡ f ++ ex → Opened i.part x
        build f fr b w =
            let d = dec_open m.0 m.3 in
            record {
              whole = m.0;
              frac = f;
              ex = ex;
              parts = record {
                digits = dec_digits d;
                first = dec_head d;
                fraction = fr;
                exponent = ex_exponent ex m.4.4;
                suffix = (suffix_is x).1 e;
                some = λ z y. ex_some ex m.4.4 y;
                bare = λ z. absurd (b z);
                longest = stops (λ k t. inr (inr (exponent_more k t i.part m)));
                no_e = λ z. absurd (ex_some ex m.4.4 z);
              };
              is = m.2 ∙ ap (λ (u : List ℕ). m.0 ++ u) w;
            }

        with_fraction : (f : List ℕ) → opt (text (46 ∷ []) · DEC_LITERAL) f → m.1 ≡ f ++ ex → Opened i.part x
        with_fraction f (inl z) w = build f (no_fraction z) (λ y. cons≢nil (sym y ∙ z)) w
        with_fraction f (inr n) w =
            let q : f ≡ 46 ∷ n.1 = n.2 ∙ ap (λ (u : List ℕ). u ++ n.1) n.3 in
            let b = dec_open n.1 n.4 in
            build f (rw q (dec_fraction n.1 b)) (λ y. dec_some b (tail-eq_of_cons-eq (sym q ∙ y))) w

    go : (POINT_PART i.part × text [] x) ⊎ ((FRACTION_PART i.part × opt SUFFIX_NO_E x) ⊎ (EXPONENT_PART i.part × opt SUFFIX x))
        → Opened i.part x
    go (inl m) = point m.0 m.1
    go (inr (inl m)) = frac m.0 m.1
    go (inr (inr m)) = expo m.0 m.1

-- the text is the parts one after the other
whole_text : (s : List ℕ) (i : FLOAT_LITERAL s) (o : Opened i.part i.suffix) → s ≡ o.whole ++ (o.frac ++ (o.ex ++ i.suffix))
whole_text s i o =
    i.longest.split ∙ ap (λ (u : List ℕ). u ++ i.suffix) o.is ∙ append_assoc o.whole (o.frac ++ o.ex) i.suffix
    ∙ ap (λ (u : List ℕ). o.whole ++ u) (append_assoc o.frac o.ex i.suffix)

-- ---- the number

-- what stands before and after the first byte of a set
seam : (f : Class) (u v : List ℕ) → All (λ c. not (f c)) u → (v ≡ []) ⊎ T (begins f v) → (before f (u ++ v) ≡ u) × (after f (u ++ v) ≡ drop 1 v)
seam f [] [] a h = (refl, refl)
seam f [] (c ∷ v) a (inl e) = absurd (cons≢nil e)
seam f [] (c ∷ v) a (inr t) = rw (T_true (f c) t) (refl, refl)
seam f (c ∷ u) v a h = let r = seam f u v a.1 h in rw (not-true (f c) a.0) (ap (λ (z : List ℕ). c ∷ z) r.0, r.1)

-- digits and `_` are neither a period nor an `e`
digits_apart : (f : Class) → ((c : ℕ) → T (f c) → T ((byte 46 ∪ E) c)) → (u : List ℕ) → All (digit 10) u → All (λ c. not (f c)) u
digits_apart f m [] a = tt
digits_apart f m (c ∷ u) a =
    (T_true (not (f c)) (T_not (f c) (λ t. dec_apart c (m c t) (true_T (Run c) (run_is c ∙ a.0)))), digits_apart f m u a.1)

digits_no_e : (u : List ℕ) → All (digit 10) u → All (λ c. not (E c)) u
digits_no_e = digits_apart E (λ c t. or_r (byte 46 c) (E c) t)

fraction_no_e : (f : List ℕ) → Fraction f → All (λ c. not (E c)) f
unfolding E
fraction_no_e f (no_fraction e) = rw e tt
fraction_no_e f (fraction ds e d u) = rw e (refl, digits_no_e ds d)

fraction_begins : (f : List ℕ) → Fraction f → (f ≡ []) ⊎ T (begins (byte 46) f)
fraction_begins f (no_fraction e) = inl e
fraction_begins f (fraction ds e d u) = inr (rw e tt)

exponent_begins : (e : List ℕ) → Exponent e → (e ≡ []) ⊎ T (begins E e)
exponent_begins e (no_exponent z) = inl z
exponent_begins e (exponent letter sign ds w t g d m) = inr (true_T (begins E e) (sym (e_is e) ∙ t))

float_value_lem : {whole frac ex suf : List ℕ} → FloatParts whole frac ex suf
    → float_value (whole ++ (frac ++ ex)) ≡ powered whole (drop 1 frac) (drop 1 ex)
unfolding float_value
float_value_lem {whole} {frac} {ex} p =
    let n = both-all (λ c. not (E c)) whole frac (digits_no_e whole p.digits) (fraction_no_e frac p.fraction) in
    let a = seam E (whole ++ frac) ex n (exponent_begins ex p.exponent) in
    let m = digits_apart (byte 46) (λ c t. or_l (byte 46 c) (E c) t) whole p.digits in
    let b = seam (byte 46) whole frac m (fraction_begins frac p.fraction) in
    rw (← append_assoc whole frac ex, a.0, a.1, b.0, b.1)

-- the part of a text that a piece without its first byte takes up
piece : (u v w : List ℕ) → part (length u + 1) (length u + length v) (u ++ (v ++ w)) ≡ drop 1 v
piece u [] w = let z : length u + 0 - (length u + 1) ≡ 0 = omega arith in rw z
piece u (c ∷ v) w =
    let z : length u + suc (length v) - (length u + 1) ≡ length v = omega arith in
    rw (z, drop-append-add u (c ∷ (v ++ w)) 1) (take-append_seam v w)

float_number : {whole frac ex suf : List ℕ} → FloatParts whole frac ex suf
    → let s = whole ++ (frac ++ (ex ++ suf)) in
    let i = length whole in
    let f = i + length frac in
    powered (part 0 i s) (part (i + 1) f s) (part (f + 1) (f + length ex) s) ≡ float_value (whole ++ (frac ++ ex))
float_number {whole} {frac} {ex} {suf} p =
    let s = whole ++ (frac ++ (ex ++ suf)) in
    let a : part 0 (length whole) s ≡ whole = rw (sub-zero, take-append_seam) in
    let b : part (length whole + 1) (length whole + length frac) s ≡ drop 1 frac = piece whole frac (ex ++ suf) in
    let c : part (length whole + length frac + 1) (length whole + length frac + length ex) s ≡ drop 1 ex =
    rw (length-append, append_assoc) at (piece (whole ++ frac) ex suf) in
    rw (a, b, c) (sym (float_value_lem p))

-- ---- both directions

found : (s : List ℕ) {k e : ℕ} {vs : Values} → FLOAT_LITERAL s → float_read s ≡ accepted k e vs → Found s k e vs
found s {k} {e} {vs} l h =
    let o = opened s l in
    let w = whole_text s l o in
    let i = length o.whole in
    let f = i + length o.frac in
    let z = f + length o.ex in
    let r : accepted 3 z (ends (record { whole = i; fraction = f; end = z })) ≡ accepted k e vs = sym (complete o.parts) ∙ ap float_read (sym w) ∙ h in
    let q : z ≡ e = cc in
    record {
      worth = float (float_value l.part);
      suffix = l.suffix;
      means = is_float l refl refl;
      kind = cc;
      rest = ap (λ (n : ℕ). drop n s) (sym q) ∙ ap (drop z) w ∙ rest o.whole o.frac o.ex l.suffix;
      gives = record {
        marks = record { whole = i; fraction = f; end = z };
        values = cc;
        number =
            ap (λ (u : List ℕ). powered (part 0 i u) (part (i + 1) f u) (part (f + 1) z u)) w ∙ float_number o.parts
            ∙ ap float_value (sym o.is);
      };
    }
  where
    rest : (a b c x : List ℕ) → drop (length a + length b + length c) (a ++ (b ++ (c ++ x))) ≡ x
    rest a b c x =
        rw (← append_assoc b c x, ← append_assoc a (b ++ c) x)
        (drop_at (a ++ (b ++ c)) x (length a + length b + length c) (simp length-append (omega arith)))

-- what litrs reads as a float is one
pub float_found : (s : List ℕ) {k e : ℕ} {vs : Values} → Readable s → float_read s ≡ accepted k e vs → Found s k e vs
float_found s {k} {e} {vs} fine h =
    let t = sound s k e vs h in
    found s ((float_iff s).0 (subst⁻¹ (λ (u : List ℕ). T (float_ok u)) t.text (parts_scan t.parts))) h

-- what is a FLOAT_LITERAL litrs reads as a float
pub float_read_lem : (s : List ℕ) → FLOAT_LITERAL s → (e : ℕ) × (vs : Values) × (float_read s ≡ accepted 3 e vs)
float_read_lem s i =
    let o = opened s i in
    (_, _, ap float_read (whole_text s i o) ∙ complete o.parts)
