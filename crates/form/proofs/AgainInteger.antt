-- The form of an integer means it again.
-- Assumes nothing.
use mathlib.Core.Path.{◌≡◌, refl, sym, ap, ◌∙◌, subst, subst⁻¹}
use mathlib.Core.Logic.{◌≢◌, inl, inr}
use mathlib.Core.Bool.{Bool, true, false, cond, ◌&&◌}
use mathlib.Core.List.{List, [], ◌∷◌, ◌++◌}
use Prim.Native.Nat.{ℕ, ◌≤◌, ◌<◌}
use native.Mathlib.Omega.{arith}
use lib.Dec.{T, eqb, eqb→eq}
use lib.ListN.{length, get_or}
use borrow.Author.Tests.{eqb-true, eqb-false}
use Rattle.buffer.specs.Digits.{decimal}
use Rattle.buffer.proofs.Decimals.{last, first_zero}
use Rattle.grammar.specs.Notation.{Class, byte, ◌∪◌, all, begins, opt}
use Rattle.grammar.specs.Suffixes.{DEC_DIGIT, LOW, SUFFIX_NO_E}
use Rattle.grammar.specs.Numbers.{BIN_DIGIT, OCT_DIGIT, HEX_DIGIT, INTEGER_PART, INTEGER_LITERAL}
use Rattle.grammar.specs.Values.{digit_value, number_in, radix_of, integer_value}
use Rattle.grammar.specs.Meaning.{Means, is_integer}
use Rattle.grammar.specs.Meaning as worth
use Rattle.grammar.proofs.Scan.{take_while, digits_ok, prefixed, integer_ok, Run}
use Rattle.grammar.proofs.Runs.{F_false, true_T, and_l, and_r, and_i, span_only, span_most}
use Rattle.grammar.proofs.Integers.{dec_open, dec_all, radix_prefixed, digits_ok_lem, ending_ok, integer_iff}
use Rattle.form.specs.Form.{integer_form, form_of}
use Rattle.form.proofs.Decimals.{dec_is, decimal_all, decimal_begins, digits_run, digits_literal, begins_append, begins_any, number_decimal}
use Rattle.form.proofs.Behind.{Behind}

abbrev Radixes : Class
Radixes = byte 98 ∪ byte 111 ∪ byte 120

-- digits that do not start with zero make no prefix
no_zero : (c : ℕ) (u x : List ℕ) → T (begins DEC_DIGIT u) → get_or u 0 0 ≢ 48 → T (prefixed c (u ++ x)) → ⊥
no_zero c [] x b h t = b
no_zero c (a ∷ []) [] b h t = t
no_zero c (a ∷ []) (k ∷ x) b h t = h (eqb→eq a 48 (and_l (eqb a 48) (eqb k c) t))
no_zero c (a ∷ k ∷ u) x b h t = h (eqb→eq a 48 (and_l (eqb a 48) (eqb k c) t))

-- and a lone zero makes one only with a letter after it
zero_front : (c : ℕ) (x : List ℕ) → T (Radixes c) → T (prefixed c (48 ∷ x)) → T (begins Radixes x)
zero_front c [] r t = t
zero_front c (b ∷ x) r t = subst⁻¹ (λ (k : ℕ). T (Radixes k)) (eqb→eq b c t) r

-- the digits, where b says whether zero is written `00`
abbrev body : Bool → ℕ → List ℕ
body b n = cond b (48 ∷ 48 ∷ []) (decimal n)

body_digits : (b : Bool) (n : ℕ) → T (all DEC_DIGIT (body b n))
unfolding DEC_DIGIT
body_digits true n = tt
body_digits false n = decimal_all n

body_begins : (b : Bool) (n : ℕ) → T (begins DEC_DIGIT (body b n))
unfolding DEC_DIGIT
body_begins true n = tt
body_begins false n = decimal_begins n

-- no radix is told by the second of some digits
no_radix : (c : ℕ) (s : List ℕ) → T (all DEC_DIGIT s) → 57 < c → T (eqb (get_or s 1 0) c) → ⊥
no_radix c [] a h t = omega (arith, eqb→eq 0 c t)
no_radix c (k ∷ []) a h t = omega (arith, eqb→eq 0 c t)
no_radix c (k ∷ j ∷ s) a h t =
    let d = dec_is j (and_l (DEC_DIGIT j) (all DEC_DIGIT s) (and_r (DEC_DIGIT k) (DEC_DIGIT j && all DEC_DIGIT s) a)) in
    omega (arith, eqb→eq j c t)

digits_value : (s : List ℕ) → T (all DEC_DIGIT s) → integer_value s ≡ number_in 10 s
unfolding integer_value radix_of
digits_value s a =
    let x : (c : ℕ) → 57 < c → (eqb (get_or s 0 0) 48 && eqb (get_or s 1 0) c) ≡ false =
    λ c h. F_false (eqb (get_or s 0 0) 48 && eqb (get_or s 1 0) c) (λ t. no_radix c s a h (and_r (eqb (get_or s 0 0) 48) (eqb (get_or s 1 0) c) t)) in
    rw (x 98 (omega arith), x 111 (omega arith), x 120 (omega arith))

two_zeros : number_in 10 (48 ∷ 48 ∷ []) ≡ 0
unfolding number_in digit_value LOW
two_zeros = refl

module _ (n : ℕ) (x : List ℕ) where
  -- whether zero is written `00`
  abbrev twice : Bool
  twice = eqb n 0 && begins Radixes x

  no_prefix : (c : ℕ) → T (Radixes c) → 48 ≢ c → (b : Bool) → twice ≡ b → T (prefixed c (body b n ++ x)) → ⊥
  no_prefix c r z true e t = z (eqb→eq 48 c t)
  no_prefix c r z false e t = go (eqb n 0) refl
    where
      go : (v : Bool) → eqb n 0 ≡ v → ⊥
      go true q =
          let p : decimal n ≡ 48 ∷ [] = ap decimal (eqb-true n 0 q) ∙ last 0 (omega arith) in
          let b = zero_front c x r (subst (λ (u : List ℕ). T (prefixed c (u ++ x))) p t) in
          let j : begins Radixes x ≡ false = ap (λ (k : Bool). k && begins Radixes x) (sym q) ∙ e in
          subst (λ (v : Bool). T v) j b
      go false q = no_zero c (decimal n) x (decimal_begins n) (λ h. eqb-false n 0 q (first_zero n h)) t

  value : (b : Bool) → twice ≡ b → integer_value (body b n) ≡ n
  value b e = digits_value (body b n) (body_digits b n) ∙ go b e
    where
      go : (b : Bool) → twice ≡ b → number_in 10 (body b n) ≡ n
      go true e = two_zeros ∙ sym (eqb→eq n 0 (and_l (eqb n 0) (begins Radixes x) (true_T _ e)))
      go false e = number_decimal n

  module _ (end : opt SUFFIX_NO_E x) (w : Behind x) (b : Bool) (e : twice ≡ b) where
    abbrev s : List ℕ
    s = body b n ++ x

    run : T (all Run (body b n))
    run = digits_run (body b n) (body_digits b n)

    accepted : T (integer_ok s)
    unfolding integer_ok
    accepted =
        let p : (c : ℕ) → T (Radixes c) → 48 ≢ c → prefixed c s ≡ false = λ c r z. F_false (prefixed c s) (no_prefix c r z b e) in
        let o = ending_ok x end in
        rw (p 98 tt (λ z. omega arith), p 111 tt (λ z. omega arith), p 120 tt (λ z. omega arith))
        (and_i (begins DEC_DIGIT s) (digits_ok DEC_DIGIT s) (begins_append DEC_DIGIT (body b n) x (body_begins b n))
        (digits_ok_lem DEC_DIGIT (body b n) x run w.apart (begins_any DEC_DIGIT (body b n) (body_begins b n)) o.0 o.1))

    -- no longer beginning is an integer
    most : (q y : List ℕ) → s ≡ q ++ y → INTEGER_PART q → length q ≤ length (body b n)
    most q y i (inl m) =
        subst (λ (u : List ℕ). length q ≤ length u) (ap (take_while Run) (sym i) ∙ (span_only Run (body b n) x run w.apart).0)
        (span_most Run q y (dec_all (dec_open q m)))
    most q y i (inr (inl m)) = absurd (no_prefix 98 tt (λ z. omega arith) b e (radix_prefixed 98 BIN_DIGIT s q y i m))
    most q y i (inr (inr (inl m))) = absurd (no_prefix 111 tt (λ z. omega arith) b e (radix_prefixed 111 OCT_DIGIT s q y i m))
    most q y i (inr (inr (inr m))) = absurd (no_prefix 120 tt (λ z. omega arith) b e (radix_prefixed 120 HEX_DIGIT s q y i m))

    literal : INTEGER_LITERAL s
    literal =
        record {
          part = body b n;
          suffix = x;
          longest = record { split = refl; is = inl (digits_literal (body b n) (body_begins b n) (body_digits b n)); most = most };
          ending = end;
          free = ((integer_iff s).0 accepted).free;
        }

    means : Means s (worth.Worth.integer n) x
    unfolding literal
    means = is_integer literal (ap worth.Worth.integer (sym (value b e))) refl

  pub integer_again : opt SUFFIX_NO_E x → Behind x → Means (form_of (worth.Worth.integer n) x) (worth.Worth.integer n) x
  unfolding form_of integer_form
  integer_again end w = means end w twice refl
