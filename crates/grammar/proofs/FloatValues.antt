-- The exact value of each shape of a float's part: digits, a period and digits or none, an exponent or none.
-- Assumes nothing.
use mathlib.Core.Path.{◌≡◌}
use mathlib.Core.Logic.{inl, inr, ⊎_elim}
use mathlib.Core.Bool.{true, false}
use mathlib.Core.List.{List, [], ◌∷◌, ◌++◌}
use Prim.Native.Nat.{ℕ}
use lib.Dec.{T}
use Rattle.grammar.specs.Notation.{all, begins, byte, ◌∪◌, one, opt}
use Rattle.grammar.specs.Suffixes.{DEC_DIGIT, LOW, E}
use Rattle.grammar.specs.Numbers.{SIGN}
use Rattle.grammar.specs.Values.{before, after, scaled, powered, float_value}
use Rattle.grammar.proofs.Scan.{Run}
use Rattle.grammar.proofs.Runs.{T_true, F_false, and_l, and_r, and_i, or_l, or_r, or_e, all_append, before_stop, before_none}
use Rattle.grammar.proofs.Integers.{Dec, dec_all, at, e_apart}

-- ---- bytes that lie in one class only

pub sign_run : (c : ℕ) → T (SIGN c) → T (Run c) → ⊥
unfolding SIGN DEC_DIGIT LOW
sign_run c t r = ⊎_elim (λ e. at Run 43 c e r) (λ e. at Run 45 c e r) (or_e (byte 43 c) (byte 45 c) t)

run_point : (k : ℕ) → T (Run k) → T (byte 46 k) → ⊥
unfolding DEC_DIGIT LOW
run_point k r p = at Run 46 k p r

mantissa_e : (k : ℕ) → T ((Run ∪ byte 46) k) → T (E k) → ⊥
unfolding DEC_DIGIT LOW
mantissa_e k m e = e_apart (Run ∪ byte 46) (λ x. x) (λ x. x) k e m

-- ---- what stands before the exponent

pub record Mantissa (m w f : List ℕ) : Type 0 where
  pub chars : T (all (Run ∪ byte 46) m)
  pub whole : before (byte 46) m ≡ w
  pub fraction : after (byte 46) m ≡ f

run_chars : (a : List ℕ) → T (all Run a) → T (all (Run ∪ byte 46) a)
run_chars [] t = tt
run_chars (k ∷ a) t = and_i ((Run ∪ byte 46) k) _ (or_l (Run k) (byte 46 k) (and_l (Run k) (all Run a) t)) (run_chars a (and_r (Run k) (all Run a) t))

pub mantissa_whole : (a : List ℕ) → Dec a → Mantissa a a []
mantissa_whole a d =
    let h = before_none (byte 46) Run run_point a (dec_all d) in
    record { chars = run_chars a (dec_all d); whole = h.0; fraction = h.1 }

pub mantissa_point : (a b : List ℕ) → Dec a → T (all Run b) → Mantissa (a ++ (46 ∷ b)) a b
mantissa_point a b d t =
    let h = before_stop (byte 46) Run run_point a 46 b (dec_all d) tt in
    record {
      chars = all_append (Run ∪ byte 46) a (46 ∷ b) (run_chars a (dec_all d)) (and_i ((Run ∪ byte 46) 46) _ (or_r (Run 46) true tt) (run_chars b t));
      whole = h.0;
      fraction = h.1;
    }

-- ---- the value

pub value_without : (m w f : List ℕ) → Mantissa m w f → float_value m ≡ scaled w f false []
unfolding float_value
value_without m w f n =
    let h = before_none E (Run ∪ byte 46) mantissa_e m n.chars in
    rw (h.0, h.1, n.whole, n.fraction)

-- a sign or none, and digits
powered_is : (w f g z : List ℕ) → opt (one SIGN) g → T (all Run z) → powered w f (g ++ z) ≡ scaled w f (begins (byte 45) g) z
unfolding SIGN
powered_is w f g [] (inl e) t = rw e
powered_is w f g (k ∷ z) (inl e) t =
    let s = F_false (SIGN k) (λ h. sign_run k h (and_l (Run k) (all Run z) t)) in
    let n = F_false (byte 45 k) (λ h. sign_run k (or_r (byte 43 k) (byte 45 k) h) (and_l (Run k) (all Run z) t)) in
    rw (e, s, n)
powered_is w f g z (inr m) t = rw (m.1, T_true (SIGN m.0) m.2)

pub value_powers : (m w f : List ℕ) (k : ℕ) (g z : List ℕ) → Mantissa m w f → T (E k) → opt (one SIGN) g → T (all Run z)
    → float_value (m ++ (k ∷ (g ++ z))) ≡ scaled w f (begins (byte 45) g) z
unfolding float_value
value_powers m w f k g z n e s t =
    let h = before_stop E (Run ∪ byte 46) mantissa_e m k (g ++ z) n.chars e in
    rw (h.0, h.1, n.whole, n.fraction) (powered_is w f g z s t)
