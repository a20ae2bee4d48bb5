-- A text is a FLOAT_LITERAL exactly where its scan accepts it.
-- Assumes nothing.
use mathlib.Core.Path.{◌≡◌, refl, sym, ap, ◌∙◌, subst, subst⁻¹}
use mathlib.Core.Logic.{◌↔◌, ◌⊎◌, inl, inr, ⊎_elim}
use mathlib.Core.Bool.{Bool, true, false, cond, not, ◌&&◌}
use mathlib.Core.List.{List, [], ◌∷◌, ◌++◌, append_assoc, tail-eq_of_cons-eq}
use Prim.Native.Nat.{ℕ, ◌+◌, ◌≤◌}
use native.Mathlib.Omega.{arith}
use lib.Dec.{T, eqb→eq}
use lib.ListN.{length, drop, length-append}
use borrow.Author.Tests.{ne_eqb}
use Rattle.grammar.specs.Notation.{Class, Lang, all, begins, ◌∪◌, one, many, opt, text, Followed, Longest, byte, ◌·◌, ◌or◌}
use Rattle.grammar.specs.Suffixes.{DEC_DIGIT, LOW, E, SUFFIX, SUFFIX_NO_E}
use Rattle.grammar.specs.Numbers.{BIN_DIGIT, OCT_DIGIT, HEX_DIGIT, SIGN, DEC_LITERAL, FLOAT_EXPONENT, POINT_PART, FRACTION_PART, EXPONENT_PART, RESERVED_NUMBER, bin_out, oct_out, period, exp, bin_empty, oct_empty, hex_empty, exp_empty, FLOAT_LITERAL, no_digit}
use Rattle.grammar.proofs.Scan.{take_while, drop_while, any, empty, suffix_ok, prefixed}
use Rattle.grammar.specs.Values.{float_value}
use Rattle.grammar.proofs.Scan.{Parts, decimal_of, Run, float_parts, float_ok, after_whole, after_point, after_fraction, after_e, after_sign, without}
use Rattle.grammar.proofs.Runs.{T_true, true_T, F_false, not_t, T_not, and_l, and_r, and_i, or_r, or_e, span_eq, span_all, span_only, span_most, all_append, mixed, mixed_all, any_left}
use Rattle.grammar.proofs.Integers.{range_is, low_is, Dec, dec_open, dec_make, dec_all, dec_apart, begins_both, suffix_in_lem, suffix_ok_lem, ending_in, ending_ok, Exponent, prefix_is, dec_front, radix_prefixed, empty_prefixed, Apart, bin_apart, oct_apart, hex_apart, at, no_any, low_more, dec_first}
use Rattle.grammar.proofs.FloatValues.{sign_run, mantissa_whole, mantissa_point, value_without, value_powers}

abbrev FLOAT_PART : Lang
FLOAT_PART = POINT_PART or FRACTION_PART or EXPONENT_PART

-- ---- the productions, opened

-- an exponent: its letter, its sign, its digits
pub record Ex (e : List ℕ) : Type 0 where
  pub letter : ℕ
  pub sign : List ℕ
  pub digits : List ℕ
  pub is : e ≡ letter ∷ (sign ++ digits)
  pub is_e : T (E letter)
  pub signed : opt (one SIGN) sign
  pub run : T (all Run digits)
  pub digit : T (any DEC_DIGIT digits)

ex_open : (e : List ℕ) → FLOAT_EXPONENT e → Ex e
ex_open e m =
    let k = m.3 in
    let n = m.4 in
    let r = mixed_all DEC_DIGIT LOW n.1 n.4 in
    record {
      letter = k.0;
      sign = n.0;
      digits = n.1;
      is = m.2 ∙ ap (λ (u : List ℕ). u ++ m.1) k.1 ∙ ap (λ (u : List ℕ). k.0 ∷ u) n.2;
      is_e = k.2;
      signed = n.3;
      run = r.0;
      digit = r.1;
    }

ex_make : (k : ℕ) (g z : List ℕ) → T (E k) → opt (one SIGN) g → T (all Run z) → T (any DEC_DIGIT z) → FLOAT_EXPONENT (k ∷ (g ++ z))
ex_make k g z t o a n = (k ∷ [], g ++ z, refl, (k, refl, t), (g, z, refl, o, mixed DEC_DIGIT LOW z a n))

pub data Open (q : List ℕ) : Type 0 where
  o_point : (a : List ℕ) → Dec a → q ≡ a ++ (46 ∷ []) → Open q
  o_frac : (a b : List ℕ) → Dec a → Dec b → q ≡ a ++ (46 ∷ b) → Open q
  o_exp : (a e : List ℕ) → Dec a → Ex e → q ≡ a ++ e → Open q
  o_both : (a b e : List ℕ) → Dec a → Dec b → Ex e → q ≡ a ++ (46 ∷ (b ++ e)) → Open q

point_open : (q : List ℕ) → POINT_PART q → Open q
point_open q m = o_point m.0 (dec_open m.0 m.3) (m.2 ∙ ap (λ (u : List ℕ). m.0 ++ u) m.4)

frac_open : (q : List ℕ) → FRACTION_PART q → Open q
frac_open q m =
    let n = m.4 in
    o_frac m.0 n.1 (dec_open m.0 m.3) (dec_open n.1 n.4)
    (m.2 ∙ ap (λ (u : List ℕ). m.0 ++ u) (n.2 ∙ ap (λ (u : List ℕ). u ++ n.1) n.3))

pub data ExOpen (q : List ℕ) : Type 0 where
  x_exp : (a e : List ℕ) → Dec a → Ex e → q ≡ a ++ e → ExOpen q
  x_both : (a b e : List ℕ) → Dec a → Dec b → Ex e → q ≡ a ++ (46 ∷ (b ++ e)) → ExOpen q

exp_open2 : (q : List ℕ) → EXPONENT_PART q → ExOpen q
exp_open2 q m = go m.4.0 m.4.3 m.4.2
  where
    go : (o : List ℕ) → opt (text (46 ∷ []) · DEC_LITERAL) o → m.1 ≡ o ++ m.4.1 → ExOpen q
    go o (inl z) e =
        x_exp m.0 m.4.1 (dec_open m.0 m.3) (ex_open m.4.1 m.4.4)
        (m.2 ∙ ap (λ (u : List ℕ). m.0 ++ u) (e ∙ ap (λ (u : List ℕ). u ++ m.4.1) z))
    go o (inr n) e =
        x_both m.0 n.1 m.4.1 (dec_open m.0 m.3) (dec_open n.1 n.4) (ex_open m.4.1 m.4.4)
        (m.2 ∙ ap (λ (u : List ℕ). m.0 ++ u)
        (e ∙ ap (λ (u : List ℕ). u ++ m.4.1) (n.2 ∙ ap (λ (u : List ℕ). u ++ n.1) n.3)))

exp_open : (q : List ℕ) → EXPONENT_PART q → Open q
exp_open q m = elim (exp_open2 q m) [ x_exp a e d c h ↦ o_exp a e d c h | x_both a b e d f c h ↦ o_both a b e d f c h ]

part_open : (q : List ℕ) → FLOAT_PART q → Open q
part_open q (inl m) = point_open q m
part_open q (inr (inl m)) = frac_open q m
part_open q (inr (inr m)) = exp_open q m

dec_lit : {a : List ℕ} → Dec a → DEC_LITERAL a
dec_lit d = rw d.is (dec_make d.first d.rest d.digit d.run)

ex_lit : {e : List ℕ} → Ex e → FLOAT_EXPONENT e
ex_lit x = rw x.is (ex_make x.letter x.sign x.digits x.is_e x.signed x.run x.digit)

-- ---- the reading at each shape

-- what is read of an exponent with sign g and digits z, and x after it
abbrev powers : List ℕ → List ℕ → List ℕ → List ℕ → List ℕ → Parts
powers w f g z x = record { ok = any DEC_DIGIT z && suffix_ok x; whole = w; fraction = f; negative = begins (byte 45) g; exponent = z; suffix = x }

after_e_lem : (w f g z x : List ℕ) → opt (one SIGN) g → T (all Run z) → (T (begins Run x) → ⊥) → (g ≡ [] → T (begins SIGN (z ++ x)) → ⊥)
    → after_e w f (g ++ (z ++ x)) ≡ powers w f g z x
after_e_lem w f g z x (inl e) a n h =
    let s = F_false (begins SIGN (z ++ x)) (h e) in
    let o = span_only Run z x a n in
    rw (e, s, o.0, o.1)
after_e_lem w f g z x (inr m) a n h =
    let s = T_true (SIGN m.0) m.2 in
    let o = span_only Run z x a n in
    rw (m.1, s, o.0, o.1)

-- the first byte of an exponent
e_byte : (k : ℕ) → T (E k) → T ((byte 46 ∪ E) k)
e_byte k t = or_r (byte 46 k) (E k) t

e_point : (k : ℕ) → T (E k) → byte 46 k ≡ false
unfolding E
e_point k t =
    ⊎_elim (λ e. ne_eqb k 46 (λ z. omega (arith, z, eqb→eq k 101 e))) (λ e. ne_eqb k 46 (λ z. omega (arith, z, eqb→eq k 69 e))) (or_e (byte 101 k) (byte 69 k) t)

e_not_point : T (E 46) → ⊥
unfolding E
e_not_point t = t

-- decimal digits and then a period or an e: the run and the rest
whole : (a z : List ℕ) → Dec a → T (begins (byte 46 ∪ E) z) → (take_while Run (a ++ z) ≡ a) × (drop_while Run (a ++ z) ≡ z)
whole a z d t = span_only Run a z (dec_all d) (begins_both Run (byte 46 ∪ E) dec_apart z t)

parse_point : (a : List ℕ) → Dec a → float_parts (a ++ (46 ∷ [])) ≡ without true a [] []
unfolding float_parts
parse_point a d =
    let h = whole a (46 ∷ []) d tt in
    rw (h.0, h.1)

dec_begins : (b x : List ℕ) → Dec b → begins DEC_DIGIT (b ++ x) ≡ true
dec_begins b x d = rw d.is (T_true (DEC_DIGIT d.first) d.digit)

parse_frac : (a b x : List ℕ) → Dec a → Dec b → (T (begins Run x) → ⊥)
    → float_parts (a ++ (46 ∷ (b ++ x))) ≡ after_fraction true a b x
unfolding float_parts
parse_frac a b x d c n =
    let h = whole a (46 ∷ (b ++ x)) d tt in
    let o = span_only Run b x (dec_all c) n in
    rw (h.0, h.1, dec_begins b x c, o.0, o.1)

parse_e : (a : List ℕ) (k : ℕ) (t : List ℕ) → Dec a → T (E k) → float_parts (a ++ (k ∷ t)) ≡ after_e a [] t
unfolding float_parts
parse_e a k t d e =
    let h = whole a (k ∷ t) d (e_byte k e) in
    rw (h.0, h.1, e_point k e, T_true (E k) e)

parse_fe : (a b : List ℕ) (k : ℕ) (t : List ℕ) → Dec a → Dec b → T (E k) → float_parts (a ++ (46 ∷ (b ++ (k ∷ t)))) ≡ after_e a b t
parse_fe a b k t d c e =
    parse_frac a b (k ∷ t) d c (λ r. dec_apart k (e_byte k e) r) ∙ rw (T_true (E k) e)

-- digits that are there do not start with a sign
digits_sign : (z x : List ℕ) → T (all Run z) → T (any DEC_DIGIT z) → T (begins SIGN (z ++ x)) → ⊥
digits_sign [] x a n t = n
digits_sign (k ∷ z) x a n t = sign_run k t (and_l (Run k) (all Run z) a)

after_ex : (w f e x : List ℕ) → (c : Ex e) → (T (begins Run x) → ⊥) → after_e w f ((c.sign ++ c.digits) ++ x) ≡ powers w f c.sign c.digits x
after_ex w f e x c n =
    rw append_assoc (after_e_lem w f c.sign c.digits x c.signed c.run n (λ z. digits_sign c.digits x c.run c.digit))

-- ---- a literal is read

-- the longest part is not followed by one more digit
more_dec : {a : List ℕ} (k : ℕ) → Dec a → T (Run k) → Dec (a ++ (k ∷ []))
more_dec {a} k d t =
    record {
      first = d.first;
      rest = d.rest ++ (k ∷ []);
      is = ap (λ (u : List ℕ). u ++ (k ∷ [])) d.is;
      digit = d.digit;
      run = all_append Run d.rest (k ∷ []) d.run (and_i (Run k) true t tt);
    }

more_ex : {e : List ℕ} (k : ℕ) → Ex e → T (Run k) → Ex (e ++ (k ∷ []))
more_ex {e} k x t =
    record {
      letter = x.letter;
      sign = x.sign;
      digits = x.digits ++ (k ∷ []);
      is = ap (λ (u : List ℕ). u ++ (k ∷ [])) x.is ∙ ap (λ (u : List ℕ). x.letter ∷ u) (append_assoc x.sign x.digits (k ∷ []));
      is_e = x.is_e;
      signed = x.signed;
      run = all_append Run x.digits (k ∷ []) x.run (and_i (Run k) true t tt);
      digit = any_left DEC_DIGIT x.digits (k ∷ []) x.digit;
    }

-- and closed again
close : (q : List ℕ) → Open q → FLOAT_PART q
close q (o_point a d e) = inl (a, 46 ∷ [], e, dec_lit d, refl)
close q (o_frac a b d c e) = inr (inl (a, 46 ∷ b, e, dec_lit d, (46 ∷ [], b, refl, refl, dec_lit c)))
close q (o_exp a x d c e) = inr (inr (a, x, e, dec_lit d, ([], x, refl, inl refl, ex_lit c)))
close q (o_both a b x d c f e) = inr (inr (a, 46 ∷ (b ++ x), e, dec_lit d, (46 ∷ b, x, refl, inr (46 ∷ [], b, refl, refl, dec_lit c), ex_lit f)))

longer : (s p x : List ℕ) → Longest FLOAT_PART s p x → ((k : ℕ) → T (Run k) → Open (p ++ (k ∷ []))) → T (begins Run x) → ⊥
longer s p [] l m t = t
longer s p (k ∷ x) l m t =
    let h = l.most (p ++ (k ∷ [])) x (l.split ∙ sym (append_assoc p (k ∷ []) x)) (close _ (m k t)) in
    omega (arith, h, length-append p (k ∷ []))

-- how the scan reads a literal s with the part p and the suffix x
record Reading (s p x : List ℕ) : Type 0 where
  ok : T (float_ok s)
  value : float_value p ≡ decimal_of (float_parts s)
  suffix : x ≡ (float_parts s).suffix

reading : (s p a z : List ℕ) (P : Parts) → s ≡ a ++ z → Dec a → float_parts (a ++ z) ≡ P → T P.ok → float_value p ≡ decimal_of P → Reading s p P.suffix
unfolding float_ok
reading s p a z P e d h t v =
    record {
      ok = rw e (and_i (begins DEC_DIGIT (a ++ z)) _ (true_T _ (dec_begins a z d)) (rw h t));
      value = rw (e, h) v;
      suffix = rw (e, h);
    }

float_reading : (s : List ℕ) (i : FLOAT_LITERAL s) → Reading s i.part i.suffix
float_reading s i = go i.ending
  where
    l : Longest FLOAT_PART s i.part i.suffix
    l = i.longest

    -- s from the shape of its part
    whole_is : (a z : List ℕ) → i.part ≡ a ++ z → s ≡ a ++ (z ++ i.suffix)
    whole_is a z e = l.split ∙ ap (λ (u : List ℕ). u ++ i.suffix) e ∙ append_assoc a z i.suffix

    ex : (a e : List ℕ) → Dec a → Ex e → i.part ≡ a ++ e → T (suffix_ok i.suffix) → Reading s i.part i.suffix
    ex a e d c q sx =
        let n = longer s i.part i.suffix l
        (λ k t. o_exp a (e ++ (k ∷ [])) d (more_ex k c t) (ap (λ (u : List ℕ). u ++ (k ∷ [])) q ∙ append_assoc a e (k ∷ []))) in
        let P = powers a [] c.sign c.digits i.suffix in
        reading s i.part a (c.letter ∷ ((c.sign ++ c.digits) ++ i.suffix)) P
        (whole_is a e q ∙ ap (λ (u : List ℕ). a ++ (u ++ i.suffix)) c.is) d
        (parse_e a c.letter _ d c.is_e ∙ after_ex a [] e i.suffix c n) (and_i (any DEC_DIGIT c.digits) _ c.digit sx)
        (ap float_value (q ∙ ap (λ (u : List ℕ). a ++ u) c.is) ∙ value_powers a a [] c.letter c.sign c.digits (mantissa_whole a d) c.is_e c.signed c.run)

    both : (a b e : List ℕ) → Dec a → Dec b → Ex e → i.part ≡ a ++ (46 ∷ (b ++ e)) → T (suffix_ok i.suffix) → Reading s i.part i.suffix
    both a b e d f c q sx =
        let n = longer s i.part i.suffix l
        (λ k t. o_both a b (e ++ (k ∷ [])) d f (more_ex k c t)
        (ap (λ (u : List ℕ). u ++ (k ∷ [])) q ∙ append_assoc a _ (k ∷ []) ∙ ap (λ (u : List ℕ). a ++ (46 ∷ u)) (append_assoc b e (k ∷ [])))) in
        let P = powers a b c.sign c.digits i.suffix in
        reading s i.part a (46 ∷ (b ++ (c.letter ∷ ((c.sign ++ c.digits) ++ i.suffix)))) P
        (whole_is a _ q ∙ ap (λ (u : List ℕ). a ++ (46 ∷ u)) (append_assoc b e i.suffix) ∙ ap (λ (u : List ℕ). a ++ (46 ∷ (b ++ (u ++ i.suffix)))) c.is) d
        (parse_fe a b c.letter _ d f c.is_e ∙ after_ex a b e i.suffix c n) (and_i (any DEC_DIGIT c.digits) _ c.digit sx)
        (ap float_value (q ∙ ap (λ (u : List ℕ). a ++ (46 ∷ (b ++ u))) c.is ∙ sym (append_assoc a (46 ∷ b) (c.letter ∷ (c.sign ++ c.digits))))
        ∙ value_powers (a ++ (46 ∷ b)) a b c.letter c.sign c.digits (mantissa_point a b d (dec_all f)) c.is_e c.signed c.run)

    fr : (a b : List ℕ) → Dec a → Dec b → i.part ≡ a ++ (46 ∷ b) → T (suffix_ok i.suffix) → T (not (begins E i.suffix)) → Reading s i.part i.suffix
    fr a b d f q sx ne =
        let n = longer s i.part i.suffix l
        (λ k t. o_frac a (b ++ (k ∷ [])) d (more_dec k f t) (ap (λ (u : List ℕ). u ++ (k ∷ [])) q ∙ append_assoc a _ (k ∷ []))) in
        reading s i.part a (46 ∷ (b ++ i.suffix)) (without true a b i.suffix) (whole_is a _ q) d
        (parse_frac a b i.suffix d f n ∙ rw (F_false (begins E i.suffix) (not_t (begins E i.suffix) ne))) sx
        (ap float_value q ∙ value_without (a ++ (46 ∷ b)) a b (mantissa_point a b d (dec_all f)))

    pt : (a : List ℕ) → Dec a → i.part ≡ a ++ (46 ∷ []) → i.suffix ≡ [] → Reading s i.part i.suffix
    pt a d q e =
        rw e
        (reading s i.part a (46 ∷ []) (without true a [] []) (whole_is a _ q ∙ ap (λ (u : List ℕ). a ++ (46 ∷ u)) e) d (parse_point a d) tt
        (ap float_value q ∙ value_without (a ++ (46 ∷ [])) a [] (mantissa_point a [] d tt)))

    go : (POINT_PART i.part × text [] i.suffix) ⊎ ((FRACTION_PART i.part × opt SUFFIX_NO_E i.suffix) ⊎ (EXPONENT_PART i.part × opt SUFFIX i.suffix))
        → Reading s i.part i.suffix
    go (inl m) =
        let p = m.0 in
        pt p.0 (dec_open p.0 p.3) (p.2 ∙ ap (λ (u : List ℕ). p.0 ++ u) p.4) m.1
    go (inr (inl m)) =
        let p = m.0 in
        let n = p.4 in
        let e = ending_ok i.suffix m.1 in
        fr p.0 n.1 (dec_open p.0 p.3) (dec_open n.1 n.4)
        (p.2 ∙ ap (λ (u : List ℕ). p.0 ++ u) (n.2 ∙ ap (λ (u : List ℕ). u ++ n.1) n.3)) e.0 e.1
    go (inr (inr m)) = exps (exp_open2 i.part m.0) (suffix_ok_lem i.suffix m.1)
      where
        exps : (ExOpen i.part) → T (suffix_ok i.suffix) → Reading s i.part i.suffix
        exps (x_exp a e d c q) sx = ex a e d c q sx
        exps (x_both a b e d f c q) sx = both a b e d f c q sx

-- ---- what is read is a literal

-- the exponent and the rest, as far as the digits go
pub record Stage (r : List ℕ) : Type 0 where
  pub e : List ℕ
  pub x : List ℕ
  pub is : r ≡ e ++ x
  pub ex : Ex e
  pub suffix : T (suffix_ok x)
  pub most : (e' y : List ℕ) → r ≡ e' ++ y → Ex e' → length e' ≤ length e

-- an exponent at the front of a text: its letter is the first byte, and sign and digits follow
ex_front : (k : ℕ) (t e y : List ℕ) → k ∷ t ≡ e ++ y → (c : Ex e) → t ≡ c.sign ++ (c.digits ++ y)
ex_front k t e y q c =
    let h : k ∷ t ≡ c.letter ∷ ((c.sign ++ c.digits) ++ y) = q ∙ ap (λ (u : List ℕ). u ++ y) c.is in
    tail-eq_of_cons-eq h ∙ append_assoc c.sign c.digits y

ex_length : {e : List ℕ} → (c : Ex e) → length e ≡ 1 + (length c.sign + length c.digits)
ex_length {e} c = ap length c.is ∙ simp length-append (omega arith)

begins_eq : (f : Class) (u v : List ℕ) → u ≡ v → T (begins f v) → T (begins f u)
begins_eq f u v e t = subst⁻¹ (λ (w : List ℕ). T (begins f w)) e t

run_most : (t z y : List ℕ) → t ≡ z ++ y → T (all Run z) → length z ≤ length (take_while Run t)
run_most t z y e a = rw e (span_most Run z y a)

stage : (w f r : List ℕ) → T (begins E r) → T (after_e w f (drop 1 r)).ok → Stage r
stage w f [] b ok = absurd b
stage w f (k ∷ t) b ok = go (begins SIGN t) refl ok
  where
    unsigned : (T (begins SIGN t) → ⊥) → T (after_sign w f false t).ok → Stage (k ∷ t)
    unsigned n o =
        record {
          e = k ∷ take_while Run t;
          x = drop_while Run t;
          is = ap (λ (u : List ℕ). k ∷ u) (span_eq Run t);
          ex = record { letter = k; sign = []; digits = take_while Run t; is = refl; is_e = b; signed = inl refl; run = span_all Run t; digit = and_l (any DEC_DIGIT (take_while Run t)) (suffix_ok (drop_while Run t)) o };
          suffix = and_r (any DEC_DIGIT (take_while Run t)) (suffix_ok (drop_while Run t)) o;
          most = λ e' y q c.
              let h = ex_front k t e' y q c in
              ⊎_elim (λ z.
              let m = run_most t c.digits y (h ∙ ap (λ (u : List ℕ). u ++ (c.digits ++ y)) z) c.run in
              omega (arith, m, ex_length c, ap length z))
              (λ m. absurd (n (begins_eq SIGN t (m.0 ∷ (c.digits ++ y)) (h ∙ ap (λ (u : List ℕ). u ++ (c.digits ++ y)) m.1) m.2)))
              c.signed;
        }

    signed_at : (t : List ℕ) → T (begins SIGN t) → (n : Bool) → T (after_sign w f n (drop 1 t)).ok → Stage (k ∷ t)
    signed_at [] s n o = absurd s
    signed_at (c' ∷ t) s n o =
        record {
          e = k ∷ c' ∷ take_while Run t;
          x = drop_while Run t;
          is = ap (λ (u : List ℕ). k ∷ c' ∷ u) (span_eq Run t);
          ex = record { letter = k; sign = c' ∷ []; digits = take_while Run t; is = refl; is_e = b; signed = inr (c', refl, s); run = span_all Run t; digit = and_l (any DEC_DIGIT (take_while Run t)) (suffix_ok (drop_while Run t)) o };
          suffix = and_r (any DEC_DIGIT (take_while Run t)) (suffix_ok (drop_while Run t)) o;
          most = λ e' y q c.
              let h = ex_front k (c' ∷ t) e' y q c in
              ⊎_elim (λ z. absurd (digits_sign c.digits y c.run c.digit (begins_eq SIGN (c.digits ++ y) (c' ∷ t) (sym (h ∙ ap (λ (u : List ℕ). u ++ (c.digits ++ y)) z)) s)))
              (λ m.
              let p : c' ∷ t ≡ m.0 ∷ (c.digits ++ y) = h ∙ ap (λ (u : List ℕ). u ++ (c.digits ++ y)) m.1 in
              let j = run_most t c.digits y (tail-eq_of_cons-eq p) c.run in
              omega (arith, j, ex_length c, ap length m.1))
              c.signed;
        }

    go : (v : Bool) → begins SIGN t ≡ v → T (cond v (after_sign w f (begins (byte 45) t) (drop 1 t)) (after_sign w f false t)).ok → Stage (k ∷ t)
    go true e o = signed_at t (true_T _ e) (begins (byte 45) t) o
    go false e o = unsigned (λ s. rw e at s) o

-- a part at the front of s, seen from the run of digits w and the rest r
pub data View (w r q y : List ℕ) : Type 0 where
  v_point : r ≡ 46 ∷ y → length q ≡ length w + 1 → View w r q y
  v_frac : (b : List ℕ) → Dec b → r ≡ 46 ∷ (b ++ y) → length q ≡ length w + 1 + length b → View w r q y
  v_exp : (e : List ℕ) → Ex e → r ≡ e ++ y → length q ≡ length w + length e → View w r q y
  v_both : (b e : List ℕ) → Dec b → Ex e → r ≡ 46 ∷ (b ++ (e ++ y)) → length q ≡ length w + 1 + length b + length e → View w r q y

front_eq : (s a z : List ℕ) → s ≡ a ++ z → Dec a → T (begins (byte 46 ∪ E) z) → (take_while Run s ≡ a) × (drop_while Run s ≡ z)
front_eq s a z e d t = rw e (whole a z d t)

ex_begins : {e : List ℕ} (y : List ℕ) → Ex e → T (begins E (e ++ y))
ex_begins y c = rw c.is c.is_e

begins_point_e : (z : List ℕ) → T (begins E z) → T (begins (byte 46 ∪ E) z)
begins_point_e [] t = t
begins_point_e (k ∷ z) t = e_byte k t

view : (s q y : List ℕ) → s ≡ q ++ y → Open q → View (take_while Run s) (drop_while Run s) q y
view s q y e (o_point a d h) =
    let p = front_eq s a (46 ∷ y) (e ∙ ap (λ (u : List ℕ). u ++ y) h ∙ append_assoc a (46 ∷ []) y) d tt in
    v_point p.1 (ap length h ∙ rw p.0 (length-append a (46 ∷ [])))
view s q y e (o_frac a b d c h) =
    let p = front_eq s a (46 ∷ (b ++ y)) (e ∙ ap (λ (u : List ℕ). u ++ y) h ∙ append_assoc a (46 ∷ b) y) d tt in
    v_frac b c p.1 (ap length h ∙ rw p.0 (simp length-append (omega arith)))
view s q y e (o_exp a x d c h) =
    let p = front_eq s a (x ++ y) (e ∙ ap (λ (u : List ℕ). u ++ y) h ∙ append_assoc a x y) d (begins_point_e (x ++ y) (ex_begins y c)) in
    v_exp x c p.1 (ap length h ∙ rw p.0 (length-append a x))
view s q y e (o_both a b x d c f h) =
    let p = front_eq s a (46 ∷ (b ++ (x ++ y))) (e ∙ ap (λ (u : List ℕ). u ++ y) h ∙ append_assoc a _ y ∙ ap (λ (u : List ℕ). a ++ (46 ∷ u)) (append_assoc b x y)) d tt in
    v_both b x c f p.1 (ap length h ∙ rw p.0 (simp length-append (omega arith)))

-- ---- no reserved form

-- digits and then a period or an e: no radix prefix
pub no_prefix : (c : ℕ) (d : Class) (s : List ℕ) → Apart c d → Exponent s → T (prefixed c s) → ⊥
no_prefix c d s w x t =
    let e = prefix_is c s t in
    let h = dec_front c w.letter (drop 2 s) x.front x.back (sym e ∙ x.is) x.dec in
    w.letter_next (subst (λ (u : List ℕ). T (begins (byte 46 ∪ E) u)) h.1 x.next)

low_dec : (i : ℕ) → T (LOW i) → T (DEC_DIGIT i) → ⊥
unfolding DEC_DIGIT
low_dec i l d = omega (arith, low_is i l, range_is 48 57 i d)

-- no digits in the exponent: the reading refuses
exp_empty_out : (s : List ℕ) → Followed (DEC_LITERAL · opt (text (46 ∷ []) · DEC_LITERAL) · one E · opt (one SIGN) · many LOW) (no_digit DEC_DIGIT) s → T (float_parts s).ok → ⊥
exp_empty_out s m ok = go o.0 o.3 o.2 refl
  where
    u : List ℕ
    u = m.0

    v : List ℕ
    v = m.1

    a : (DEC_LITERAL · opt (text (46 ∷ []) · DEC_LITERAL) · one E · opt (one SIGN) · many LOW) u
    a = m.2.is

    o : (opt (text (46 ∷ []) · DEC_LITERAL) · one E · opt (one SIGN) · many LOW) a.1
    o = a.4

    x : (one E · opt (one SIGN) · many LOW) o.1
    x = o.4

    g : (opt (one SIGN) · many LOW) x.1
    g = x.4

    k : ℕ
    k = x.3.0

    d : Dec a.0
    d = dec_open a.0 a.3

    -- the same with one byte more
    grow : (j : ℕ) → (opt (one SIGN) · many LOW) (x.1 ++ (j ∷ [])) → (w : List ℕ) → v ≡ j ∷ w → ⊥
    grow j n w e =
        let q = m.2.most (u ++ (j ∷ [])) w (m.2.split ∙ ap (λ (y : List ℕ). u ++ y) e ∙ sym (append_assoc u (j ∷ []) w)) (
          a.0,
          a.1 ++ (j ∷ []),
          ap (λ (y : List ℕ). y ++ (j ∷ [])) a.2 ∙ append_assoc a.0 a.1 (j ∷ []),
          a.3,
          (
            o.0,
            o.1 ++ (j ∷ []),
            ap (λ (y : List ℕ). y ++ (j ∷ [])) o.2 ∙ append_assoc o.0 o.1 (j ∷ []),
            o.3,
            (x.0, x.1 ++ (j ∷ []), ap (λ (y : List ℕ). y ++ (j ∷ [])) x.2 ∙ append_assoc x.0 x.1 (j ∷ []), x.3, n),
          ),
        ) in
        omega (arith, q, length-append u (j ∷ []))

    stop : (w : List ℕ) → v ≡ w → T (no_digit DEC_DIGIT w) → T (begins Run w) → ⊥
    stop [] e n t = t
    stop (j ∷ w) e n t =
        ⊎_elim (λ b. not_t (DEC_DIGIT j) n b)
        (λ b. grow j (g.0, g.1 ++ (j ∷ []), ap (λ (y : List ℕ). y ++ (j ∷ [])) g.2 ∙ append_assoc g.0 g.1 (j ∷ []), g.3, all_append LOW g.1 (j ∷ []) g.4 (and_i (LOW j) true b tt)) w e)
        (or_e (DEC_DIGIT j) (LOW j) t)

    no_sign : g.0 ≡ [] → (l : List ℕ) → g.1 ≡ l → T (all LOW l) → (w : List ℕ) → v ≡ w → T (begins SIGN (l ++ w)) → ⊥
    no_sign z (i ∷ l) p b w e t = sign_run i t (or_r (DEC_DIGIT i) (LOW i) (and_l (LOW i) (all LOW l) b))
    no_sign z [] p b [] e t = t
    no_sign z [] p b (j ∷ w) e t =
        grow j (j ∷ [], [], ap (λ (y : List ℕ). y ++ (j ∷ [])) g.2 ∙ ap (λ (y : List ℕ). (y ++ g.1) ++ (j ∷ [])) z ∙ ap (λ (y : List ℕ). y ++ (j ∷ [])) p, inr (j, refl, t), tt) w e

    tail : List ℕ
    tail = g.0 ++ (g.1 ++ v)

    -- what stands after the fraction
    rest : o.1 ++ v ≡ k ∷ tail
    rest = ap (λ (y : List ℕ). y ++ v) (x.2 ∙ ap (λ (y : List ℕ). y ++ x.1) x.3.1 ∙ ap (λ (y : List ℕ). k ∷ y) g.2) ∙ ap (λ (y : List ℕ). k ∷ y) (append_assoc g.0 g.1 v)

    refuse : (w f : List ℕ) → T (after_e w f tail).ok → ⊥
    refuse w f t =
        let e = after_e_lem w f g.0 g.1 v g.3 (low_more DEC_DIGIT g.1 g.4) (stop v refl m.3) (λ z. no_sign z g.1 refl g.4 v refl) in
        no_any DEC_DIGIT (λ i l b. low_dec i l b) g.1 g.4 (and_l (any DEC_DIGIT g.1) (suffix_ok v) (rw e at t))

    at_whole : s ≡ a.0 ++ (a.1 ++ v)
    at_whole = m.2.split ∙ ap (λ (y : List ℕ). y ++ v) a.2 ∙ append_assoc a.0 a.1 v

    go : (p : List ℕ) → opt (text (46 ∷ []) · DEC_LITERAL) p → a.1 ≡ p ++ o.1 → p ≡ p → ⊥
    go p (inl z) e _ =
        let q : s ≡ a.0 ++ (k ∷ tail) = at_whole ∙ ap (λ (y : List ℕ). a.0 ++ (y ++ v)) (e ∙ ap (λ (y : List ℕ). y ++ o.1) z) ∙ ap (λ (y : List ℕ). a.0 ++ y) rest in
        refuse a.0 [] (rw (parse_e a.0 k tail d x.3.2) at (subst (λ (y : List ℕ). T (float_parts y).ok) q ok))
    go p (inr n) e _ =
        let q : s ≡ a.0 ++ (46 ∷ (n.1 ++ (k ∷ tail))) =
        at_whole ∙ ap (λ (y : List ℕ). a.0 ++ (y ++ v)) (e ∙ ap (λ (y : List ℕ). y ++ o.1) (n.2 ∙ ap (λ (y : List ℕ). y ++ n.1) n.3))
        ∙ ap (λ (y : List ℕ). a.0 ++ (46 ∷ y)) (append_assoc n.1 o.1 v) ∙ ap (λ (y : List ℕ). a.0 ++ (46 ∷ (n.1 ++ y))) rest in
        refuse a.0 n.1 (rw (parse_fe a.0 n.1 k tail d (dec_open n.1 n.4) x.3.2) at (subst (λ (y : List ℕ). T (float_parts y).ok) q ok))

float_free : (s : List ℕ) → T (float_parts s).ok → Exponent s → RESERVED_NUMBER s → ⊥
float_free s ok x (bin_out m) = no_prefix 98 BIN_DIGIT s bin_apart x (radix_prefixed 98 BIN_DIGIT s _ _ m.2.split m.2.is)
float_free s ok x (oct_out m) = no_prefix 111 OCT_DIGIT s oct_apart x (radix_prefixed 111 OCT_DIGIT s _ _ m.2.split m.2.is)
float_free s ok x (period m) =
    ⊎_elim (λ k. no_prefix 98 BIN_DIGIT s bin_apart x (radix_prefixed 98 BIN_DIGIT s _ _ m.2.split k))
    (λ k. ⊎_elim (λ k. no_prefix 111 OCT_DIGIT s oct_apart x (radix_prefixed 111 OCT_DIGIT s _ _ m.2.split k))
    (λ k. no_prefix 120 HEX_DIGIT s hex_apart x (radix_prefixed 120 HEX_DIGIT s _ _ m.2.split k)) k) m.2.is
float_free s ok x (exp m) =
    ⊎_elim (λ k. no_prefix 98 BIN_DIGIT s bin_apart x (radix_prefixed 98 BIN_DIGIT s _ _ m.2.split k))
    (λ k. no_prefix 111 OCT_DIGIT s oct_apart x (radix_prefixed 111 OCT_DIGIT s _ _ m.2.split k)) m.2.is
float_free s ok x (bin_empty m) = no_prefix 98 BIN_DIGIT s bin_apart x (empty_prefixed 98 BIN_DIGIT s m)
float_free s ok x (oct_empty m) = no_prefix 111 OCT_DIGIT s oct_apart x (empty_prefixed 111 OCT_DIGIT s m)
float_free s ok x (hex_empty m) = no_prefix 120 HEX_DIGIT s hex_apart x (empty_prefixed 120 HEX_DIGIT s m)
float_free s ok x (exp_empty m) = exp_empty_out s m ok

-- ---- the whole

drop_one : (f : Class) (r : List ℕ) → T (begins f r) → (k : ℕ) × (r ≡ k ∷ drop 1 r) × T (f k)
drop_one f [] t = absurd t
drop_one f (k ∷ r) t = (k, refl, t)

float_in : (s : List ℕ) → T (float_ok s) → FLOAT_LITERAL s
unfolding float_ok float_parts
float_in s okay = start (begins (byte 46) r) refl ok
  where
    w : List ℕ
    w = take_while Run s

    r : List ℕ
    r = drop_while Run s

    d : Dec w
    d = dec_open w (dec_first s (and_l (begins DEC_DIGIT s) (after_whole w r).ok okay))

    ok : T (after_whole w r).ok
    ok = and_r (begins DEC_DIGIT s) (after_whole w r).ok okay

    build : (p x : List ℕ) → r ≡ p ++ x → Open (w ++ p) → T (begins (byte 46 ∪ E) r)
        → ((q y : List ℕ) → View w r q y → length q ≤ length w + length p)
        → (POINT_PART (w ++ p) × text [] x) ⊎ ((FRACTION_PART (w ++ p) × opt SUFFIX_NO_E x) ⊎ (EXPONENT_PART (w ++ p) × opt SUFFIX x)) → FLOAT_LITERAL s
    build p x e o n m z =
        record {
          part = w ++ p;
          suffix = x;
          longest = record {
            split = span_eq Run s ∙ ap (λ (u : List ℕ). w ++ u) e ∙ sym (append_assoc w p x);
            is = close (w ++ p) o;
            most = λ q y i f. let h = m q y (view s q y i (part_open q f)) in omega (arith, h, length-append w p);
          };
          ending = z;
          free = float_free s ok (record { front = w; back = r; is = span_eq Run s; dec = d; next = n });
        }

    -- r starts with an exponent
    exponent : T (begins E r) → T (after_e w [] (drop 1 r)).ok → FLOAT_LITERAL s
    exponent b o =
        let g = stage w [] r b o in
        let not-point : (y : List ℕ) → r ≡ 46 ∷ y → ⊥ = λ y e. e_not_point (begins_eq E (46 ∷ y) r (sym e) b) in
        build g.e g.x g.is (o_exp w g.e d g.ex refl) (begins_point_e r b)
        (λ q y v. elim v [
          | v_point e l ↦ absurd (not-point y e)
          | v_frac c f e l ↦ absurd (not-point (c ++ y) e)
          | v_exp e c h l ↦ (let k = g.most e y h c in omega (arith, k, l))
          | v_both c e f i h l ↦ absurd (not-point (c ++ (e ++ y)) h)
        ])
        (inr (inr ((w, g.e, refl, dec_lit d, ([], g.e, refl, inl refl, ex_lit g.ex)), suffix_in_lem g.x g.suffix)))

    r2 : List ℕ
    r2 = drop 1 r

    f : List ℕ
    f = take_while Run r2

    r3 : List ℕ
    r3 = drop_while Run r2

    point_is : begins (byte 46) r ≡ true → r ≡ 46 ∷ r2
    point_is e = let h = drop_one (byte 46) r (true_T _ e) in h.1 ∙ ap (λ (k : ℕ). k ∷ r2) (eqb→eq h.0 46 h.2)

    -- a part seen after the period
    no_ex : r ≡ 46 ∷ r2 → (e y : List ℕ) → Ex e → r ≡ e ++ y → ⊥
    no_ex p e y c h = e_not_point (begins_eq E (46 ∷ r2) (e ++ y) (sym p ∙ h) (ex_begins y c))

    past : (p : r ≡ 46 ∷ r2) (z : List ℕ) → r ≡ 46 ∷ z → r2 ≡ z
    past p z h = tail-eq_of_cons-eq (sym p ∙ h)

    both_split : (b e y : List ℕ) → Dec b → Ex e → r2 ≡ b ++ (e ++ y) → (f ≡ b) × (r3 ≡ e ++ y)
    both_split b e y d c h = front_eq r2 b (e ++ y) h d (begins_point_e (e ++ y) (ex_begins y c))

    fraction : (p : r ≡ 46 ∷ r2) → Dec f → (b : Bool) → begins E r3 ≡ b → T (cond b (after_e w f (drop 1 r3)) (without true w f r3)).ok → FLOAT_LITERAL s
    fraction p df true e o =
        let t = true_T (begins E r3) e in
        let g = stage w f r3 t o in
        build (46 ∷ (f ++ g.e)) g.x (p ∙ ap (λ (u : List ℕ). 46 ∷ u) (span_eq Run r2 ∙ ap (λ (u : List ℕ). f ++ u) g.is ∙ sym (append_assoc f g.e g.x)))
        (o_both w f g.e d df g.ex refl) (rw p tt)
        (λ q y v. elim v [
          | v_point h l ↦ omega (arith, l)
          | v_frac b c h l ↦ (let k = run_most r2 b y (past p (b ++ y) h) (dec_all c) in omega (arith, k, l, length-append f g.e))
          | v_exp x c h l ↦ absurd (no_ex p x y c h)
          | v_both b x c i h l ↦ (
              let j = both_split b x y c i (past p (b ++ (x ++ y)) h) in
              let k = g.most x y j.1 i in
              omega (arith, k, l, length-append f g.e, ap length j.0))
        ])
        (inr (inr ((w, 46 ∷ (f ++ g.e), refl, dec_lit d, (46 ∷ f, g.e, refl, inr (46 ∷ [], f, refl, refl, dec_lit df), ex_lit g.ex)), suffix_in_lem g.x g.suffix)))
    fraction p df false e o =
        build (46 ∷ f) r3 (p ∙ ap (λ (u : List ℕ). 46 ∷ u) (span_eq Run r2)) (o_frac w f d df refl) (rw p tt)
        (λ q y v. elim v [
          | v_point h l ↦ omega (arith, l)
          | v_frac b c h l ↦ (let k = run_most r2 b y (past p (b ++ y) h) (dec_all c) in omega (arith, k, l))
          | v_exp x c h l ↦ absurd (no_ex p x y c h)
          | v_both b x c i h l ↦ (
              let j = both_split b x y c i (past p (b ++ (x ++ y)) h) in
              let k : T (begins E r3) = begins_eq E r3 (x ++ y) j.1 (ex_begins y i) in
              absurd (rw e at k))
        ])
        (inr (inl ((w, 46 ∷ f, refl, dec_lit d, (46 ∷ [], f, refl, refl, dec_lit df)), ending_in r3 o (T_not (begins E r3) (λ t. rw e at t)))))

    is_empty : (z : List ℕ) → T (empty z) → z ≡ []
    is_empty [] t = refl
    is_empty (c ∷ z) t = absurd t

    point : (p : r ≡ 46 ∷ r2) → (b : Bool) → begins DEC_DIGIT r2 ≡ b
        → T (cond b (after_fraction true w f r3) (record { ok = empty r2; whole = w; fraction = []; negative = false; exponent = []; suffix = r2 })).ok → FLOAT_LITERAL s
    point p true e o = fraction p (dec_open f (dec_first r2 (true_T _ e))) (begins E r3) refl o
    point p false e o =
        let z = is_empty r2 o in
        build (46 ∷ []) [] (p ∙ ap (λ (u : List ℕ). 46 ∷ u) z) (o_point w d refl) (rw p tt)
        (λ q y v. elim v [
          | v_point h l ↦ omega (arith, l)
          | v_frac b c h l ↦ omega (arith, l, ap length (sym z ∙ past p (b ++ y) h), length-append b y)
          | v_exp x c h l ↦ absurd (no_ex p x y c h)
          | v_both b x c i h l ↦ omega (arith, l, ap length (sym z ∙ past p (b ++ (x ++ y)) h), length-append b (x ++ y), length-append x y)
        ])
        (inl ((w, 46 ∷ [], refl, dec_lit d, refl), refl))

    none : (b : Bool) → begins E r ≡ b → T (cond b (after_e w [] (drop 1 r)) (without false w [] r)).ok → FLOAT_LITERAL s
    none true e o = exponent (true_T _ e) o
    none false e o = absurd o

    start : (b : Bool) → begins (byte 46) r ≡ b → T (cond b (after_point w (drop 1 r)) (after_fraction false w [] r)).ok → FLOAT_LITERAL s
    start true e o = point (point_is e) (begins DEC_DIGIT r2) refl o
    start false e o = none (begins E r) refl o

-- Demand 2 for floats: the reading accepts exactly the float literals of the Reference.
pub float_iff : (s : List ℕ) → T (float_ok s) ↔ FLOAT_LITERAL s
float_iff s = (float_in s, λ i. (float_reading s i).ok)

-- and value and suffix are those that the scan finds
pub float_split : (s : List ℕ) (i : FLOAT_LITERAL s) → (float_value i.part ≡ decimal_of (float_parts s)) × (i.suffix ≡ (float_parts s).suffix)
float_split s i = let h = float_reading s i in (h.value, h.suffix)
