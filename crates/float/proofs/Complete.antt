-- The parts of a float literal, one after the other, are accepted.
-- Assumes nothing.
use mathlib.Core.Path.{◌≡◌, refl, ap, sym, ◌∙◌}
use mathlib.Core.Logic.{⊎_elim}
use mathlib.Core.Bool.{true, false, and-false}
use mathlib.Core.List.{List, [], ◌∷◌, ◌++◌, append_assoc}
use Prim.Native.Nat.{ℕ, ◌+◌, ◌<◌}
use native.Mathlib.Omega.{arith}
use lib.Dec.{eqb}
use lib.ListN.{length, get_or, drop, length-drop}
use lib.Seq.{drop-append_seam}
use borrow.Author.Tests.{eqb-true, ne_eqb, le-ltb}
use Rattle.err.specs.Outcome.{accepted, ends}
use Rattle.scan.specs.Run.{run, All, Stops}
use Rattle.scan.specs.Sets.{only}
use Rattle.scan.proofs.Cases.{clash}
use Rattle.scan.proofs.Runs.{run_is}
use Rattle.parse.specs.Class.{class_of}
use Rattle.parse.specs.Sets.{digit, dec_digit, starts_e}
use Rattle.suffix.specs.Suffix.{suffix_fault}
use Rattle.parse.proofs.Classes.{either, digit_ten_cases, dec_digit_ends}
use Rattle.parse.proofs.Numbers.{e_after}
use Rattle.float.specs.Float.{bad_fraction, after_fraction, after_integer, float_read}
use Rattle.float.specs.Parts.{Exponent, no_exponent, exponent, Fraction, no_fraction, fraction, FloatParts}
use Rattle.float.proofs.Steps.{is_sign, byte_from, past, exponent_from, fraction_from, no_fraction_from, number_from_lem}

-- ---- what cannot be taken for something else

-- `e` and `E` are no digits, and no period
e_stops : (b : ℕ) → starts_e (b ∷ []) 0 ≡ true → (digit 10 b ≡ false) × (b ≡ 46 → ⊥)
unfolding starts_e digit class_of
e_stops b t =
    ⊎_elim (λ e. let q = eqb-true b 101 e in (rw q, λ y. omega arith)) (λ e. let q = eqb-true b 69 e in (rw q, λ y. omega arith))
    (either (eqb b 101) (eqb b 69) t)

-- digits and `_` are no signs
digit_no_sign : (b : ℕ) → digit 10 b ≡ true → is_sign b ≡ false
digit_no_sign b d =
    ⊎_elim (λ e. rw e) (λ h. let g = dec_digit_ends b h in rw (ne_eqb b 45 (λ e. omega arith), ne_eqb b 43 (λ e. omega arith))) (digit_ten_cases b d)

-- ---- exponent and suffix

pub rest_stops : (ex suf : List ℕ) → Exponent ex → Stops (digit 10) suf → Stops (digit 10) (ex ++ suf)
unfolding starts_e
rest_stops ex suf (no_exponent e) l = rw e l
rest_stops ex suf (exponent letter sign ds e t g d m) l = rw e (e_stops letter (rw e at t)).0

no_sign : (ds suf : List ℕ) → All (digit 10) ds → run (only 95) ds < length ds → is_sign (get_or (ds ++ suf) 0 0) ≡ false
no_sign [] suf d m = absurd (omega arith)
no_sign (b ∷ ds) suf d m = digit_no_sign b d.0

rest_complete : (s : List ℕ) (i f : ℕ) (ex suf : List ℕ) → drop f s ≡ ex ++ suf → Exponent ex → suffix_fault suf ≡ 0 → Stops (digit 10) suf
    → (ex ≡ [] → starts_e suf 0 ≡ false) → (i ≡ f + length ex → ⊥) → after_fraction s i f ≡ accepted 3 (f + length ex) (ends (record { whole = i; fraction = f; end = f + length ex }))
unfolding after_fraction starts_e
rest_complete s i f ex suf h (no_exponent e) o l n m =
    let z : f + length ex ≡ f = omega (arith, ap length e) in
    let w : drop f s ≡ suf = h ∙ rw e in
    rw (← e_after s f, w, n e, z) (number_from_lem s i f f (rw w o) (rw z at m))
rest_complete s i f ex suf h (exponent letter sign ds e t g d some) o l n m =
    let w : drop f s ≡ letter ∷ (sign ++ (ds ++ suf)) = h ∙ rw (e, append_assoc) in
    let q = ap length e in
    let b = past s f ex suf h in
    rw (exponent_from s i f letter sign ds suf w (rw e at t) g (λ y. no_sign ds suf d some) d l, ne_eqb (run (only 95) ds) (length ds) (λ y. omega arith), ← q)
    (number_from_lem s i f (f + length ex) (rw b o) m)

-- ---- fraction

good_fraction : (s : List ℕ) (at : ℕ) (ds rest : List ℕ) → drop at s ≡ ds ++ rest → Stops (only 95) ds → (ds ≡ [] → rest ≡ []) → bad_fraction s at (at + length ds) ≡ false
unfolding bad_fraction only
good_fraction s at [] rest h n m =
    let e = h ∙ m refl in
    rw (byte_from s at [] e, le-ltb at (length s) (omega (arith, length-drop at s, ap length e)), and-false)
good_fraction s at (x ∷ ds) rest h n m = rw (byte_from s at (x ∷ (ds ++ rest)) h, n, ne_eqb (at + length (x ∷ ds)) at (λ e. omega arith))

empty : (l : List ℕ) → length l ≡ 0 → l ≡ []
empty [] e = refl
empty (x ∷ l) e = absurd (omega arith)

module _ {whole frac ex suf : List ℕ} (p : FloatParts whole frac ex suf) where
  -- after the integer part stands a period, or `e` or `E`
  pub whole_longest : Stops (digit 10) (frac ++ (ex ++ suf))
  unfolding digit class_of
  whole_longest = go p.fraction
    where
      go : Fraction frac → Stops (digit 10) (frac ++ (ex ++ suf))
      go (no_fraction e) = rw e (rest_stops ex suf p.exponent p.longest)
      go (fraction ds e d n) = rw e refl

  -- where there is no fraction, no period follows
  pub no_period : frac ≡ [] → get_or (ex ++ suf) 0 0 ≡ 46 → ⊥
  unfolding starts_e
  no_period e = go p.exponent
    where
      go : Exponent ex → get_or (ex ++ suf) 0 0 ≡ 46 → ⊥
      go (no_exponent g) = absurd (p.some e g)
      go (exponent letter sign ds g t s d m) = rw g (e_stops letter (rw g at t)).1

  after_whole_lem : (s : List ℕ) → drop (length whole) s ≡ frac ++ (ex ++ suf)
      → after_integer s (length whole) ≡ accepted 3 (length whole + length frac + length ex) (ends (record { whole = length whole; fraction = length whole + length frac; end = length whole + length frac + length ex }))
  after_whole_lem s h = go p.fraction
    where
      i : ℕ
      i = length whole

      f : ℕ
      f = length whole + length frac

      rest : after_fraction s i f ≡ accepted 3 (f + length ex) (ends (record { whole = i; fraction = f; end = f + length ex }))
      rest =
          rest_complete s i f ex suf (past s i frac (ex ++ suf) h) p.exponent p.suffix p.longest p.no_e
          (λ e. p.some (empty frac (omega arith)) (empty ex (omega arith)))

      go : Fraction frac → after_integer s i ≡ accepted 3 (f + length ex) (ends (record { whole = i; fraction = f; end = f + length ex }))
      go (no_fraction e) =
          let z : f ≡ i = omega (arith, ap length e) in
          no_fraction_from s i (λ y. no_period e (sym (byte_from s i (ex ++ suf) (h ∙ rw e)) ∙ y)) ∙ (ap (after_fraction s i) (sym z) ∙ rest)
      go (fraction ds e d n) =
          let w : drop i s ≡ 46 ∷ (ds ++ (ex ++ suf)) = h ∙ rw e in
          let z : i + 1 + length ds ≡ f = omega (arith, ap length e) in
          fraction_from s i ds (ex ++ suf) w d (rest_stops ex suf p.exponent p.longest) ∙
          rw (good_fraction s (i + 1) ds (ex ++ suf) (past s i (46 ∷ []) (ds ++ (ex ++ suf)) w) n (λ y. let b = p.bare (e ∙ rw y) in rw b.0 b.1), z) rest

pub complete : {whole frac ex suf : List ℕ} → FloatParts whole frac ex suf
    → let i = length whole in
    let f = i + length frac in
    float_read (whole ++ (frac ++ (ex ++ suf))) ≡ accepted 3 (f + length ex) (ends (record { whole = i; fraction = f; end = f + length ex }))
unfolding float_read dec_digit class_of
complete {whole = []} p = clash p.first refl
complete {whole = b ∷ w} {frac} {ex} {suf} p =
    let whole = b ∷ w in
    let r = frac ++ (ex ++ suf) in
    rw (p.first, run_is (digit 10) whole r p.digits (whole_longest p)) (after_whole_lem p (whole ++ r) (drop-append_seam whole r))
