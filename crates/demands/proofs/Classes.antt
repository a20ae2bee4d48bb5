-- The Reference's sets of bytes are litrs's, so that runs, their ends and the digits in them are the same on both sides.
-- Assumes nothing.
use Prim.Native.Nat.{ℕ, suc, ◌≤◌, ◌<◌}
use mathlib.Core.Path.{◌≡◌, refl, sym, ◌∙◌, subst}
use mathlib.Core.Bool.{Bool, true, false, not, ◌||◌, or-false, or_comm}
use mathlib.Core.List.{List, [], ◌∷◌}
use native.Mathlib.Omega.{arith}
use lib.Dec.{T, eqb, ltb, leb}
use lib.ListN.{length}
use borrow.Author.Tests.{eqb-true, ne_eqb, ltb-true, lt-ltb, not-true}
use Rattle.scan.specs.Run.{run, All, Stops}
use Rattle.scan.specs.Sets.{only}
use Rattle.scan.proofs.Cases.{cond_eq, clash}
use Rattle.parse.specs.Class.{class_of}
use Rattle.parse.specs.Sets.{digit, dec_digit, suffix_rest}
use Rattle.suffix.specs.Suffix.{suffix_start}
use Rattle.parse.proofs.Classes.{everywhere, class_above, within_above, class_underscore_is, dec_digit_is, hex_is}
use Rattle.suffix.proofs.Starts.{start_is, rest_is}
use Rattle.grammar.specs.Notation.{Class, range, ◌∪◌, all, begins}
use Rattle.grammar.specs.Suffixes.{DEC_DIGIT, LOW, XID_START, XID_CONTINUE}
use Rattle.grammar.specs.Numbers.{BIN_DIGIT, OCT_DIGIT, HEX_DIGIT}
use Rattle.grammar.specs.Values.{digit_value}
use Rattle.grammar.proofs.Scan.{any}
use Rattle.grammar.proofs.Runs.{T_true, true_T, T_not, and_l, and_r, and_i, or_l, or_r}

pub T_false : (b : Bool) → (T b → ⊥) → b ≡ false
T_false b n = not-true b (T_true (not b) (T_not b n))

-- ---- digits

-- the digits of a base, by their class
abbrev pub DigitsOf : Class → ℕ → Type 0
DigitsOf d base = (c : ℕ) → d c ≡ ltb (class_of c) base

pub bin_is : DigitsOf BIN_DIGIT 2
unfolding BIN_DIGIT class_of
bin_is = everywhere (range 48 49) (λ c. ltb (class_of c) 2) tt (λ c h. rw (class_above c h, within_above 48 49 c (omega arith)))

pub oct_is : DigitsOf OCT_DIGIT 8
unfolding OCT_DIGIT class_of
oct_is = everywhere (range 48 55) (λ c. ltb (class_of c) 8) tt (λ c h. rw (class_above c h, within_above 48 55 c (omega arith)))

pub dec_is : DigitsOf DEC_DIGIT 10
unfolding DEC_DIGIT dec_digit
dec_is c = sym (dec_digit_is c)

pub hex_digit_is : DigitsOf HEX_DIGIT 16
unfolding HEX_DIGIT
hex_digit_is c = sym (hex_is c)

pub decimal_is : (c : ℕ) → DEC_DIGIT c ≡ dec_digit c
unfolding dec_digit
decimal_is c = dec_is c

-- with `_` they are litrs's digits
pub digit_is : (d : Class) (base : ℕ) → DigitsOf d base → (c : ℕ) → (d ∪ LOW) c ≡ digit base c
unfolding LOW digit
digit_is d base h c = rw (h c, class_underscore_is) (or_comm (ltb (class_of c) base) (eqb c 95))

-- a digit is worth its class
pub value_is : (c : ℕ) → class_of c < 16 → digit_value c ≡ class_of c
unfolding digit_value class_of
value_is c h =
    let f : ℕ → Bool = λ c. not (ltb (class_of c) 16) || eqb (digit_value c) (class_of c) in
    let g : f c ≡ true = everywhere f (λ c. true) tt (λ c l. rw (class_above c l)) c in
    eqb-true (digit_value c) (class_of c) (rw (lt-ltb (class_of c) 16 h) at g)

-- ---- suffixes

pub suffix_start_is : (c : ℕ) → (XID_START ∪ LOW) c ≡ suffix_start c
unfolding XID_START LOW
suffix_start_is c = rw start_is (or_comm (range 97 122 c || (range 65 90 c || leb 128 c)) (eqb c 95))

or_turn : (a b c : Bool) → (a || (b || c)) ≡ ((a || c) || b)
or_turn true b c = refl
or_turn false b c = or_comm b c

pub suffix_rest_is : (c : ℕ) → XID_CONTINUE c ≡ suffix_rest c
unfolding XID_CONTINUE
suffix_rest_is c = rw (rest_is c, ← suffix_start_is c, ← decimal_is c) (or_turn (XID_START c) (DEC_DIGIT c) (LOW c))

-- ---- runs of equal sets

module _ {f g : ℕ → Bool} (same : (c : ℕ) → f c ≡ g c) where
  pub all_to : (s : List ℕ) → T (all f s) → All g s
  all_to [] t = tt
  all_to (c ∷ s) t = (sym (same c) ∙ T_true (f c) (and_l (f c) (all f s) t), all_to s (and_r (f c) (all f s) t))

  pub all_from : (s : List ℕ) → All g s → T (all f s)
  all_from [] h = tt
  all_from (c ∷ s) h = and_i (f c) (all f s) (true_T (f c) (same c ∙ h.0)) (all_from s h.1)

  pub stops_to : (s : List ℕ) → (T (begins f s) → ⊥) → Stops g s
  stops_to [] n = tt
  stops_to (c ∷ s) n = sym (same c) ∙ T_false (f c) n

  pub stops_from : (s : List ℕ) → Stops g s → T (begins f s) → ⊥
  stops_from [] h t = t
  stops_from (c ∷ s) h t = clash (T_true (f c) t) (same c ∙ h)

-- ---- a digit among digits and `_`

-- no digit is `_`
pub not_low : (d : Class) (base : ℕ) → DigitsOf d base → base ≤ 16 → T (d 95) → ⊥
unfolding class_of
not_low d base h l t = absurd (omega (arith, ltb-true 16 base (sym (h 95) ∙ T_true (d 95) t)))

-- there is one exactly where the run of `_` is shorter than the whole
pub some_to : (d : Class) (base : ℕ) → DigitsOf d base → base ≤ 16 → (s : List ℕ) → T (any d s) → run (only 95) s < length s
unfolding only
some_to d base h l [] t = absurd t
some_to d base h l (c ∷ s) t =
    cond_eq (λ n. n < suc (length s)) c 95
    (λ e.
    let z : d c ≡ false = T_false (d c) (λ x. not_low d base h l (subst (λ (k : ℕ). T (d k)) e x)) in
    omega (arith, some_to d base h l s (rw z at t)))
    (λ e. omega arith)

pub some_from : (d : Class) (base : ℕ) → DigitsOf d base → (s : List ℕ) → All (digit base) s → run (only 95) s < length s → T (any d s)
unfolding only LOW
some_from d base h [] a = λ l. absurd (omega arith)
some_from d base h (c ∷ s) a =
    cond_eq (λ n. n < suc (length s) → T (d c || any d s)) c 95
    (λ e l. or_r (d c) (any d s) (some_from d base h s a.1 (omega arith)))
    (λ e l. or_l (d c) (any d s) (true_T (d c) (rw (ne_eqb c 95 e, or-false) at (digit_is d base h c ∙ a.0))))
