-- The form of a float means its reduced number.
-- Assumes nothing.
use mathlib.Core.Path.{◌≡◌, refl, sym, ap, ◌∙◌, subst, subst⁻¹}
use mathlib.Core.Logic.{◌⊎◌, inl, inr, ⊎_elim}
use mathlib.Core.Bool.{Bool, true, false, cond}
use mathlib.Core.List.{List, [], ◌∷◌, ◌++◌, append_assoc, append-nil, head-eq_of_cons-eq, tail-eq_of_cons-eq}
use Prim.Native.Nat.{ℕ, ◌+◌, ◌≤◌, ◌<◌}
use native.Mathlib.Nat.{add-zero}
use native.Mathlib.Omega.{arith}
use lib.Dec.{T, eqb, eqb→eq, leb}
use lib.ListN.{length, drop}
use borrow.Author.Tests.{eqb-true, eqb-false, ne_eqb, leb-true, leb-false}
use Rattle.buffer.specs.Digits.{decimal}
use Rattle.grammar.specs.Notation.{Class, Lang, byte, all, begins, one, many, text, opt, ◌·◌, ◌or◌}
use Rattle.grammar.specs.Suffixes.{DEC_DIGIT, LOW, E, XID_START}
use Rattle.grammar.specs.Numbers.{SIGN, DEC_LITERAL, POINT_PART, FRACTION_PART, EXPONENT_PART, FLOAT_LITERAL}
use Rattle.grammar.specs.Decimal.{Decimal}
use Rattle.grammar.specs.Values.{number_in, before, after, scaled, powered, float_value}
use Rattle.grammar.specs.Meaning.{Means, is_float}
use Rattle.grammar.specs.Meaning as worth
use Rattle.grammar.proofs.Scan.{any, suffix_ok, Run, after_sign, after_e, float_parts, float_ok}
use Rattle.grammar.proofs.Runs.{F_false, T_true, and_l, and_r, and_i, or_l, or_e, span_only, mixed}
use Rattle.grammar.proofs.Integers.{suffix_in_lem}
use Rattle.grammar.proofs.Floats.{float_iff}
use Rattle.form.specs.Reduced.{Reduced, reduce}
use Rattle.form.specs.Form.{reduced_form, form_of}
use Rattle.form.proofs.Reduce.{reduce_reduced}
use Rattle.form.proofs.Decimals.{dec_is, decimal_all, decimal_begins, digits_run, digits_literal, begins_append, begins_any, number_decimal}
use Rattle.form.proofs.Behind.{start_is, start_run, first_letter, Behind}

-- ---- a float's part has one letter at most

abbrev letters : List ℕ → ℕ
letters [] = 0
letters (k ∷ s) = cond (XID_START k) 1 0 + letters s

letters_append : (u v : List ℕ) → letters (u ++ v) ≡ letters u + letters v
letters_append [] v = omega arith
letters_append (k ∷ u) v = omega (arith, letters_append u v)

letters_none : (f : Class) → ((k : ℕ) → T (f k) → T (XID_START k) → ⊥) → (s : List ℕ) → T (all f s) → letters s ≤ 0
letters_none f h [] a = omega arith
letters_none f h (k ∷ s) a =
    rw (F_false (XID_START k) (h k (and_l (f k) (all f s) a))) (omega (arith, letters_none f h s (and_r (f k) (all f s) a)))

abbrev Most : ℕ → Lang → Type 0
Most i A = (s : List ℕ) → A s → letters s ≤ i

most_seq : (i j : ℕ) (A B : Lang) → Most i A → Most j B → Most (i + j) (A · B)
most_seq i j A B f g s m = omega (arith, ap letters m.2, letters_append m.0 m.1, f m.0 m.3, g m.1 m.4)

most_one : (f : Class) → ((k : ℕ) → T (f k) → T (XID_START k) → ⊥) → Most 0 (one f)
most_one f h s m = rw (m.1, F_false (XID_START m.0) (h m.0 m.2)) (omega arith)

most_e : Most 1 (one E)
most_e s m = rw m.1 (go (XID_START m.0))
  where
    go : (b : Bool) → cond b 1 0 + 0 ≤ 1
    go true = omega arith
    go false = omega arith

most_opt : (A : Lang) → Most 0 A → Most 0 (opt A)
most_opt A f s (inl e) = omega (arith, ap letters e)
most_opt A f s (inr m) = f s m

most_point : Most 0 (text (46 ∷ []))
unfolding XID_START
most_point s e = rw e (omega arith)

most_dec : Most 0 DEC_LITERAL
most_dec = most_seq 0 0 (one DEC_DIGIT) (many Run) (most_one DEC_DIGIT (λ k t. start_run k (or_l (DEC_DIGIT k) (LOW k) t))) (letters_none Run start_run)

most_fraction : Most 0 (text (46 ∷ []) · DEC_LITERAL)
most_fraction = most_seq 0 0 (text (46 ∷ [])) DEC_LITERAL most_point most_dec

sign_start : (k : ℕ) → T (SIGN k) → T (XID_START k) → ⊥
unfolding SIGN
sign_start k s t =
    let h = (start_is k t).0 in
    ⊎_elim (λ e. omega (arith, eqb→eq k 43 e)) (λ e. omega (arith, eqb→eq k 45 e)) (or_e (byte 43 k) (byte 45 k) s)

most_exponent : Most 1 EXPONENT_PART
most_exponent =
    most_seq 0 1 DEC_LITERAL _ most_dec
    (most_seq 0 1 (opt (text (46 ∷ []) · DEC_LITERAL)) _ (most_opt _ most_fraction)
    (most_seq 1 0 (one E) _ most_e
    (most_seq 0 0 (opt (one SIGN)) _ (most_opt (one SIGN) (most_one SIGN sign_start))
    (most_seq 0 0 (many Run) _ (letters_none Run start_run) most_dec))))

abbrev FLOAT_PART : Lang
FLOAT_PART = POINT_PART or FRACTION_PART or EXPONENT_PART

most_part : Most 1 FLOAT_PART
most_part s (inl m) = omega (arith, most_seq 0 0 DEC_LITERAL (text (46 ∷ [])) most_dec most_point s m)
most_part s (inr (inl m)) = omega (arith, most_seq 0 0 DEC_LITERAL (text (46 ∷ []) · DEC_LITERAL) most_dec most_fraction s m)
most_part s (inr (inr m)) = most_exponent s m

-- a longer beginning has the letter that stands next
past : (p x q y : List ℕ) → p ++ x ≡ q ++ y → length p < length q → (x ≡ []) ⊎ T (begins XID_START x) → letters p < letters q
past p x [] y e h n = absurd (omega arith)
past [] [] (k ∷ q) y e h n = absurd (omega (arith, ap length e))
past [] (j ∷ x) (k ∷ q) y e h n =
    let t : T (XID_START j) = ⊎_elim (λ z. absurd (omega (arith, ap length z))) (λ t. t) n in
    rw (← head-eq_of_cons-eq e, T_true (XID_START j) t) (omega arith)
past (j ∷ p) x (k ∷ q) y e h n =
    rw (head-eq_of_cons-eq e) (omega (arith, past p x q y (tail-eq_of_cons-eq e) (omega arith) n))

-- ---- the form is accepted: m, `e`, a minus sign or none, k

abbrev signed : Bool → List ℕ → List ℕ
signed true s = 45 ∷ s
signed false s = s

dec_sign : (c : ℕ) → T (DEC_DIGIT c) → SIGN c ≡ false
unfolding SIGN
dec_sign c t = let r = dec_is c t in rw (ne_eqb c 43 (λ e. omega arith), ne_eqb c 45 (λ e. omega arith))

no_sign : (s : List ℕ) → T (begins DEC_DIGIT s) → begins SIGN s ≡ false
no_sign [] t = absurd t
no_sign (c ∷ s) t = dec_sign c t

no_minus : (s : List ℕ) → T (begins DEC_DIGIT s) → begins (byte 45) s ≡ false
no_minus [] t = absurd t
no_minus (c ∷ s) t = let r = dec_is c t in ne_eqb c 45 (λ e. omega arith)

-- ---- digits, and a byte that is none

e_e : E 101 ≡ true
unfolding E
e_e = refl

dec_e : (c : ℕ) → T (DEC_DIGIT c) → E c ≡ false
unfolding E
dec_e c t = let r = dec_is c t in rw (ne_eqb c 101 (λ e. omega arith), ne_eqb c 69 (λ e. omega arith))

dec_point : (c : ℕ) → T (DEC_DIGIT c) → byte 46 c ≡ false
dec_point c t = let r = dec_is c t in ne_eqb c 46 (λ e. omega arith)

module _ (f : Class) (n : (c : ℕ) → T (DEC_DIGIT c) → f c ≡ false) where
  before_at : (u : List ℕ) (c : ℕ) (v : List ℕ) → T (all DEC_DIGIT u) → f c ≡ true → before f (u ++ (c ∷ v)) ≡ u
  before_at [] c v a e = rw e
  before_at (k ∷ u) c v a e =
      rw (n k (and_l (DEC_DIGIT k) (all DEC_DIGIT u) a)) (ap (λ (t : List ℕ). k ∷ t) (before_at u c v (and_r (DEC_DIGIT k) (all DEC_DIGIT u) a) e))

  after_at : (u : List ℕ) (c : ℕ) (v : List ℕ) → T (all DEC_DIGIT u) → f c ≡ true → after f (u ++ (c ∷ v)) ≡ v
  after_at [] c v a e = rw e
  after_at (k ∷ u) c v a e = rw (n k (and_l (DEC_DIGIT k) (all DEC_DIGIT u) a)) (after_at u c v (and_r (DEC_DIGIT k) (all DEC_DIGIT u) a) e)

  before_none : (u : List ℕ) → T (all DEC_DIGIT u) → before f u ≡ u
  before_none [] a = refl
  before_none (k ∷ u) a =
      rw (n k (and_l (DEC_DIGIT k) (all DEC_DIGIT u) a)) (ap (λ (t : List ℕ). k ∷ t) (before_none u (and_r (DEC_DIGIT k) (all DEC_DIGIT u) a)))

  after_none : (u : List ℕ) → T (all DEC_DIGIT u) → after f u ≡ []
  after_none [] a = refl
  after_none (k ∷ u) a = rw (n k (and_l (DEC_DIGIT k) (all DEC_DIGIT u) a)) (after_none u (and_r (DEC_DIGIT k) (all DEC_DIGIT u) a))

module _ (m k : ℕ) where
  abbrev part : Bool → List ℕ
  part b = decimal m ++ (101 ∷ signed b (decimal k))

  abbrev number : Bool → Decimal
  number b = record { coef = m; up = cond b 0 k; down = cond b k 0 }

  is_part : (b : Bool) → EXPONENT_PART (part b)
  unfolding E SIGN
  is_part b = (
    decimal m,
    101 ∷ signed b (decimal k),
    refl,
    digits_literal (decimal m) (decimal_begins m) (decimal_all m),
    ([], 101 ∷ signed b (decimal k), refl, inl refl, (101 ∷ [], signed b (decimal k), refl, (101, refl, tt), go b)),
  )
    where
      run : (many Run · one DEC_DIGIT · many Run) (decimal k)
      run = mixed DEC_DIGIT LOW (decimal k) (digits_run (decimal k) (decimal_all k)) (begins_any DEC_DIGIT (decimal k) (decimal_begins k))

      go : (b : Bool) → (opt (one SIGN) · many Run · one DEC_DIGIT · many Run) (signed b (decimal k))
      go true = (45 ∷ [], decimal k, refl, inr (45, refl, tt), run)
      go false = ([], decimal k, refl, inl refl, run)

  part_letter : (b : Bool) → 1 ≤ letters (part b)
  unfolding XID_START
  part_letter b = omega (arith, letters_append (decimal m) (101 ∷ signed b (decimal k)))

  -- ---- its worth

  coefficient : number_in 10 (decimal m ++ []) ≡ m
  coefficient = rw append-nil (number_decimal m)

  after_e_lem : (b : Bool) → powered (decimal m) [] (signed b (decimal k)) ≡ number b
  unfolding SIGN
  after_e_lem true = rw (coefficient, number_decimal k, add-zero)
  after_e_lem false =
      ap (λ (t : Bool). scaled (decimal m) [] t (cond (begins SIGN (decimal k)) (drop 1 (decimal k)) (decimal k)))
      (no_minus (decimal k) (decimal_begins k))
      ∙ ap (λ (t : Bool). scaled (decimal m) [] false (cond t (drop 1 (decimal k)) (decimal k))) (no_sign (decimal k) (decimal_begins k))
      ∙ rw (coefficient, number_decimal k)

  value : (b : Bool) → float_value (part b) ≡ number b
  unfolding float_value
  value b =
      let r = signed b (decimal k) in
      let a = decimal_all m in
      rw (before_at E dec_e (decimal m) 101 r a e_e, after_at E dec_e (decimal m) 101 r a e_e)
      (rw (before_none (byte 46) dec_point (decimal m) a, after_none (byte 46) dec_point (decimal m) a) (after_e_lem b))

  module _ (x : List ℕ) (w : Behind x) where
    run_ok : (b : Bool) → T (after_sign (decimal m) [] b (decimal k ++ x)).ok
    run_ok b =
        let h = span_only Run (decimal k) x (digits_run (decimal k) (decimal_all k)) w.apart in
        rw (h.0, h.1) (and_i (any DEC_DIGIT (decimal k)) (suffix_ok x) (begins_any DEC_DIGIT (decimal k) (decimal_begins k)) w.ok)

    e_ok : (b : Bool) → T (after_e (decimal m) [] (signed b (decimal k) ++ x)).ok
    unfolding SIGN
    e_ok true = run_ok true
    e_ok false =
        let e = no_sign (decimal k ++ x) (begins_append DEC_DIGIT (decimal k) x (decimal_begins k)) in
        let r = decimal k ++ x in
        subst⁻¹ (λ (t : Bool). T (cond t (after_sign (decimal m) [] (begins (byte 45) r) (drop 1 r)) (after_sign (decimal m) [] false r)).ok) e (run_ok false)

    parts_ok : (b : Bool) → T (float_parts (decimal m ++ (101 ∷ (signed b (decimal k) ++ x)))).ok
    unfolding float_parts DEC_DIGIT LOW E
    parts_ok b =
        let h = span_only Run (decimal m) (101 ∷ (signed b (decimal k) ++ x)) (digits_run (decimal m) (decimal_all m)) (λ t. t) in
        rw (h.0, h.1) (e_ok b)

    accepted : (b : Bool) → T (float_ok (part b ++ x))
    unfolding float_ok
    accepted b =
        and_i (begins DEC_DIGIT (part b ++ x)) (float_parts (part b ++ x)).ok
        (begins_append DEC_DIGIT (part b) x (begins_append DEC_DIGIT (decimal m) (101 ∷ signed b (decimal k)) (decimal_begins m)))
        (rw append_assoc (parts_ok b))

    most : (b : Bool) (q y : List ℕ) → part b ++ x ≡ q ++ y → FLOAT_PART q → length q ≤ length (part b)
    most b q y i f = go (leb (length q) (length (part b))) refl
      where
        go : (t : Bool) → leb (length q) (length (part b)) ≡ t → length q ≤ length (part b)
        go true e = leb-true (length q) (length (part b)) e
        go false e =
            let h = past (part b) x q y i (leb-false (length q) (length (part b)) e) (first_letter x w.ok w.apart) in
            absurd (omega (arith, h, most_part q f, part_letter b))

    literal : (b : Bool) → FLOAT_LITERAL (part b ++ x)
    literal b =
        record {
          part = part b;
          suffix = x;
          longest = record { split = refl; is = inr (inr (is_part b)); most = most b };
          ending = inr (inr (is_part b, suffix_in_lem x w.ok));
          free = ((float_iff (part b ++ x)).0 (accepted b)).free;
        }

    means : (b : Bool) → Means (part b ++ x) (worth.Worth.float (number b)) x
    unfolding literal
    means b = is_float (literal b) (ap worth.Worth.float (sym (value b))) refl

-- ---- the form of a reduced number

reduced_again : (r : Decimal) (x : List ℕ) → Reduced r → Behind x → Means (reduced_form r ++ x) (worth.Worth.float r) x
unfolding reduced_form
reduced_again r x d w = go (eqb r.down 0) refl
  where
    go : (b : Bool) → eqb r.down 0 ≡ b
        → Means ((decimal r.coef ++ (101 ∷ cond b (decimal r.up) (45 ∷ decimal r.down))) ++ x) (worth.Worth.float r) x
    go true e =
        let z : r.down ≡ 0 = eqb-true r.down 0 e in
        subst (λ (v : Decimal). Means (part r.coef r.up false ++ x) (worth.Worth.float v) x)
        (λ i. record { coef = r.coef; up = r.up; down = sym z i }) (means r.coef r.up x w false)
    go false e =
        let z = eqb-false r.down 0 e in
        let u : r.up ≡ 0 = omega (arith, d.one_sign) in
        subst (λ (v : Decimal). Means (part r.coef r.down true ++ x) (worth.Worth.float v) x)
        (λ i. record { coef = r.coef; up = sym u i; down = r.down }) (means r.coef r.down x w true)

pub float_again : (d : Decimal) (x : List ℕ) → Behind x → Means (form_of (worth.Worth.float d) x) (worth.Worth.float (reduce d)) x
unfolding form_of
float_again d x w = reduced_again (reduce d) x (reduce_reduced d) w
