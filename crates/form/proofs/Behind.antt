-- What stands after the part of a number: no digit and no `_`.
-- Assumes nothing.
use mathlib.Core.Path.{◌≡◌, refl, sym, ap, ◌∙◌}
use mathlib.Core.Logic.{◌⊎◌, inl, inr, ⊎_elim}
use mathlib.Core.Bool.{true}
use mathlib.Core.List.{List, [], ◌∷◌, ◌++◌, append_assoc}
use Prim.Native.Nat.{ℕ, ◌≤◌}
use native.Mathlib.Omega.{arith}
use lib.Dec.{T, leb, leb→le}
use lib.ListN.{length, length-append}
use Rattle.grammar.specs.Notation.{Class, Lang, range, begins, ◌∪◌, one, many, opt, text, ◌·◌, Longest}
use Rattle.grammar.specs.Suffixes.{DEC_DIGIT, LOW, E, XID_START, SUFFIX, SUFFIX_NO_E}
use Rattle.grammar.specs.Numbers.{DEC_LITERAL, RADIX_LITERAL, INTEGER_PART, POINT_PART, FRACTION_PART, EXPONENT_PART, INTEGER_LITERAL, FLOAT_LITERAL, FLOAT_EXPONENT, SIGN, BIN_DIGIT, OCT_DIGIT, HEX_DIGIT}
use Rattle.grammar.proofs.Scan.{suffix_ok, Run}
use Rattle.grammar.proofs.Runs.{and_i, or_r, or_e, all_append}
use Rattle.grammar.proofs.Integers.{low_is, range_is, suffix_ok_lem, ending_ok, suffix_start_lem}
use Rattle.form.proofs.Decimals.{dec_is}

-- a letter, and bytes above ASCII
pub start_is : (k : ℕ) → T (XID_START k) → (65 ≤ k) × ((k ≤ 90) ⊎ (97 ≤ k))
unfolding XID_START
start_is k t =
    ⊎_elim (λ h. let g = range_is 97 122 k h in (omega arith, inr g.0))
    (λ h. ⊎_elim (λ h. let g = range_is 65 90 k h in (g.0, inl g.1)) (λ h. let g = leb→le 128 k h in (omega arith, inr (omega arith)))
    (or_e (range 65 90 k) (leb 128 k) h))
    (or_e (range 97 122 k) ((range 65 90 ∪ leb 128) k) t)

pub start_run : (k : ℕ) → T (Run k) → T (XID_START k) → ⊥
start_run k r t =
    let s = start_is k t in
    ⊎_elim (λ d. omega (arith, dec_is k d)) (λ l. let e = low_is k l in ⊎_elim (λ h. omega arith) (λ h. omega arith) s.1)
    (or_e (DEC_DIGIT k) (LOW k) r)

-- a suffix that begins with no digit and no `_` begins with a letter
pub first_letter : (x : List ℕ) → T (suffix_ok x) → (T (begins Run x) → ⊥) → (x ≡ []) ⊎ T (begins XID_START x)
first_letter [] t n = inl refl
first_letter (k ∷ x) t n =
    ⊎_elim (λ h. inr (⊎_elim (λ s. s) (λ l. absurd (n (or_r (DEC_DIGIT k) (LOW k) l))) (or_e (XID_START k) (LOW k) h))) inl (suffix_start_lem (k ∷ x) t)

-- ---- a part that may go on with `_`

module _ (k : ℕ) (low : T (LOW k)) where
  abbrev More : Lang → Type 0
  More A = (s : List ℕ) → A s → A (s ++ (k ∷ []))

  more_seq : (A B : Lang) → More B → More (A · B)
  more_seq A B f s m =
      (m.0, m.1 ++ (k ∷ []), ap (λ (u : List ℕ). u ++ (k ∷ [])) m.2 ∙ append_assoc m.0 m.1 (k ∷ []), m.3, f m.1 m.4)

  more_many : (d : Class) → More (many (d ∪ LOW))
  more_many d s a = all_append (d ∪ LOW) s (k ∷ []) a (and_i ((d ∪ LOW) k) true (or_r (d k) (LOW k) low) tt)

  more_dec : More DEC_LITERAL
  more_dec = more_seq (one DEC_DIGIT) (many (DEC_DIGIT ∪ LOW)) (more_many DEC_DIGIT)

  -- digits with one digit among them
  more_mixed : (d : Class) → More (many (d ∪ LOW) · one d · many (d ∪ LOW))
  more_mixed d = more_seq (many (d ∪ LOW)) (one d · many (d ∪ LOW)) (more_seq (one d) (many (d ∪ LOW)) (more_many d))

  more_radix : (c : ℕ) (d : Class) → More (RADIX_LITERAL c d)
  more_radix c d = more_seq (text (48 ∷ c ∷ [])) (many (d ∪ LOW) · one d · many (d ∪ LOW)) (more_mixed d)

  more_integer : More INTEGER_PART
  more_integer s (inl m) = inl (more_dec s m)
  more_integer s (inr (inl m)) = inr (inl (more_radix 98 BIN_DIGIT s m))
  more_integer s (inr (inr (inl m))) = inr (inr (inl (more_radix 111 OCT_DIGIT s m)))
  more_integer s (inr (inr (inr m))) = inr (inr (inr (more_radix 120 HEX_DIGIT s m)))

  more_fraction : More FRACTION_PART
  more_fraction = more_seq DEC_LITERAL (text (46 ∷ []) · DEC_LITERAL) (more_seq (text (46 ∷ [])) DEC_LITERAL more_dec)

  more_exponent : More EXPONENT_PART
  more_exponent =
      more_seq DEC_LITERAL (opt (text (46 ∷ []) · DEC_LITERAL) · FLOAT_EXPONENT)
      (more_seq (opt (text (46 ∷ []) · DEC_LITERAL)) FLOAT_EXPONENT
      (more_seq (one E) (opt (one SIGN) · many (DEC_DIGIT ∪ LOW) · one DEC_DIGIT · many (DEC_DIGIT ∪ LOW))
      (more_seq (opt (one SIGN)) (many (DEC_DIGIT ∪ LOW) · one DEC_DIGIT · many (DEC_DIGIT ∪ LOW)) (more_mixed DEC_DIGIT))))

-- the longest part that may go on with `_` is not followed by one, and no suffix begins with a digit
stop : (A : Lang) (s p x : List ℕ) → Longest A s p x → T (suffix_ok x) → ((k : ℕ) → T (LOW k) → A (p ++ (k ∷ []))) → T (begins Run x) → ⊥
stop A s p [] l sx m t = t
stop A s p (k ∷ x) l sx m t =
    ⊎_elim (λ d.
    ⊎_elim (λ h. ⊎_elim (λ b. start_run k t b) (λ b. omega (arith, dec_is k d, low_is k b)) (or_e (XID_START k) (LOW k) h))
    (λ e. omega (arith, ap length e))
    (suffix_start_lem (k ∷ x) sx))
    (λ b. let h = l.most (p ++ (k ∷ [])) x (l.split ∙ sym (append_assoc p (k ∷ []) x)) (m k b) in omega (arith, h, length-append p (k ∷ [])))
    (or_e (DEC_DIGIT k) (LOW k) t)

-- what may stand after decimal digits
pub record Behind (x : List ℕ) : Type 0 where
  pub ok : T (suffix_ok x)
  pub apart : T (begins Run x) → ⊥

pub after_integer_lem : (s : List ℕ) → (t : INTEGER_LITERAL s) → Behind t.suffix
after_integer_lem s t =
    let sx = (ending_ok t.suffix t.ending).0 in
    record { ok = sx; apart = stop INTEGER_PART s t.part t.suffix t.longest sx (λ k l. more_integer k l t.part t.longest.is) }

pub after_float : (s : List ℕ) → (t : FLOAT_LITERAL s) → Behind t.suffix
after_float s t = go t.ending
  where
    go : (POINT_PART t.part × text [] t.suffix)
        ⊎ ((FRACTION_PART t.part × opt SUFFIX_NO_E t.suffix) ⊎ (EXPONENT_PART t.part × opt SUFFIX t.suffix))
        → Behind t.suffix
    go (inl m) = rw m.1 (record { ok = tt; apart = λ b. b })
    go (inr (inl m)) =
        let sx = (ending_ok t.suffix m.1).0 in
        record { ok = sx; apart = stop _ s t.part t.suffix t.longest sx (λ k l. inr (inl (more_fraction k l t.part m.0))) }
    go (inr (inr m)) =
        let sx = suffix_ok_lem t.suffix m.1 in
        record { ok = sx; apart = stop _ s t.part t.suffix t.longest sx (λ k l. inr (inr (more_exponent k l t.part m.0))) }
