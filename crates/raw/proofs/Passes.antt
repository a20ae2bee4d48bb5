-- A byte that is passed over stands for itself, and where a scan stops at another byte than a quote, or at one that closes, the body ends.
-- Assumes nothing.
use mathlib.Core.Path.{◌≡◌, refl, ap, sym, ◌∙◌}
use mathlib.Core.Bool.{Bool, true, false, cond, not, ◌&&◌, and-false}
use mathlib.Core.List.{List}
use Prim.Native.Nat.{ℕ, zero, suc, ◌+◌, ◌≤◌, ◌<◌}
use native.Mathlib.Nat.{add-zero}
use native.Mathlib.Omega.{arith}
use borrow.Author.Tests.{eqb-true, eqb-false, eq-eqb, ne_eqb}
use lib.Dec.{eqb}
use lib.ListN.{length, get_or, take, drop}
use lib.Seq.{drop-cons, get_or-drop}
use Rattle.std.specs.Int.{from_bool}
use Rattle.scan.specs.Run.{run}
use Rattle.scan.specs.Sets.{only}
use Rattle.scan.proofs.Bytes.{byte_inside}
use Rattle.scan.proofs.Cases.{by_lt, clash}
use Rattle.scan.proofs.Runs.{run_each}
use Rattle.escape.specs.Allows.{unicode, allow_nul}
use Rattle.escape.specs.declared.Allowed.{Allowed}
use Rattle.escape.specs.declared.Unescaped.TheVariants.{Byte}
use Rattle.body.specs.Packed.{Stopped}
use Rattle.body_plain.specs.Plain.{plain_byte}
use Rattle.body.specs.Step.{piece}
use Rattle.body.proofs.Steps.{is_plain}
use Rattle.body.proofs.Bodies.{Passed}
use Rattle.body.proofs.Runs.{plain_stops}
use Rattle.raw.specs.Raw.{raw_step_of}
use Rattle.raw.specs.Scan.{raw_plain, closing_byte, passes, raw_run}
use Rattle.raw.proofs.Steps as steps
use Rattle.raw.proofs.Bodies.{raw_more}
use Rattle.raw.proofs.Flags.{scan_in, scan_past, scan_more, scan_stop}

-- ---- the two tests of a byte

-- a quoted body's test differs at a backslash and a quote only
agrees : (k : Allowed) (b : ℕ) → (b ≡ 92 → ⊥) → (b ≡ 34 → ⊥) → plain_byte k b ≡ raw_plain k b
unfolding plain_byte raw_plain
agrees k b backslash quote = rw (ne_eqb b 92 backslash, ne_eqb b 34 quote)

backslash_plain : (k : Allowed) → raw_plain k 92 ≡ true
unfolding raw_plain
backslash_plain k = refl

-- a byte that passes is plain, and a quote has another byte than the mark h bytes after it
passes_plain : (k : Allowed) (m b far : ℕ) → passes k m b far ≡ true → raw_plain k b ≡ true
unfolding passes
passes_plain k m b far = go (raw_plain k b)
  where
    go : (t : Bool) → cond t (not (eqb b 34 && eqb far m)) false ≡ true → t ≡ true
    go true e = refl
    go false e = clash e refl

passes_quote : (k : Allowed) (m b far : ℕ) → passes k m b far ≡ true → b ≡ 34 → far ≡ m → ⊥
unfolding passes
passes_quote k m b far t e f = go (raw_plain k b) (rw (eq-eqb b 34 e, eq-eqb far m f) at t)
  where
    go : (t : Bool) → cond t false false ≡ true → ⊥
    go true e = clash e refl
    go false e = clash e refl

-- a byte that does not pass, and is no quote, is not plain
stops_plain : (k : Allowed) (m b far : ℕ) → passes k m b far ≡ false → (b ≡ 34 → ⊥) → raw_plain k b ≡ false
unfolding passes
stops_plain k m b far t e = go (raw_plain k b) (rw (ne_eqb b 34 e) at t)
  where
    go : (t : Bool) → cond t true false ≡ false → t ≡ false
    go true e = e
    go false e = refl

-- the tests of a quote and of the mark as a sum
pub both : (k : Allowed) (m b far : ℕ) → from_bool (eqb b 34) + from_bool (eqb far m) ≡ 2 → passes k m b far ≡ false
unfolding passes
both k m b far = go (raw_plain k b) (eqb b 34) (eqb far m)
  where
    go : (t p q : Bool) → from_bool p + from_bool q ≡ 2 → cond t (not (p && q)) false ≡ false
    go true true true e = refl
    go true true false e = absurd (omega arith)
    go true false true e = absurd (omega arith)
    go true false false e = absurd (omega arith)
    go false p q e = refl

pub not_both : (k : Allowed) (m b far : ℕ) → (from_bool (eqb b 34) + from_bool (eqb far m) ≡ 2 → ⊥) → passes k m b far ≡ raw_plain k b
unfolding passes
not_both k m b far = go (raw_plain k b) (eqb b 34) (eqb far m)
  where
    go : (t p q : Bool) → (from_bool p + from_bool q ≡ 2 → ⊥) → cond t (not (p && q)) false ≡ t
    go true true true e = absurd (e (omega arith))
    go true true false e = refl
    go true false q e = refl
    go false p q e = refl

-- ---- a quote that closes

-- where h hashes stand after a quote, the mark stands h bytes after it
marked : (h : ℕ) (s : List ℕ) (i : ℕ) → get_or s i 0 ≡ 34 → h ≤ run (only 35) (drop (i + 1) s) → get_or s (i + h) 0 ≡ closing_byte h
unfolding closing_byte only
marked zero s i e g = ap (λ (n : ℕ). get_or s n 0) (add-zero i) ∙ e
marked (suc n) s i e g =
    let there : i + suc n ≡ i + 1 + n = omega arith in
    ap (λ (n : ℕ). get_or s n 0) there
    ∙ sym (get_or-drop (i + 1) s n 0)
    ∙ eqb-true _ _ (run_each (only 35) (drop (i + 1) s) n (omega arith))
    ∙ rw (ne_eqb (suc n) 0 (λ x. omega arith))

module _ (k : Allowed) (h : ℕ) (s : List ℕ) (i : ℕ) (l : i < length s) where
  -- THE LAW: a byte that is passed over stands for itself.
  passes_step : passes k (closing_byte h) (get_or s i 0) (get_or s (i + h) 0) ≡ true → raw_step_of k h (drop i s) ≡ piece 1 (Byte (get_or s i 0))
  passes_step t = by_quote (eqb (get_or s i 0) 34) refl
    where
      plain : raw_plain k (get_or s i 0) ≡ true
      plain = passes_plain k (closing_byte h) (get_or s i 0) (get_or s (i + h) 0) t

      by_backslash : (get_or s i 0 ≡ 34 → ⊥) → (u : Bool) → eqb (get_or s i 0) 92 ≡ u → raw_step_of k h (drop i s) ≡ piece 1 (Byte (get_or s i 0))
      by_backslash e true f =
          let b : get_or s i 0 ≡ 92 = eqb-true _ _ f in
          sym (steps.raw_plain_lem k h s i l e)
          ∙ sym (rw b (is_plain k 92 (λ x. omega arith) (λ x. omega arith) (and-false (not (allow_nul k))) (and-false (not (unicode k)))))
      by_backslash e false f =
          rw (drop-cons s i 0 l) (steps.raw_plain_step k h (get_or s i 0) (drop (suc i) s) (agrees k (get_or s i 0) (eqb-false _ _ f) e ∙ plain))

      by_quote : (u : Bool) → eqb (get_or s i 0) 34 ≡ u → raw_step_of k h (drop i s) ≡ piece 1 (Byte (get_or s i 0))
      by_quote true f =
          let e : get_or s i 0 ≡ 34 = eqb-true _ _ f in
          let n : ℕ = run (only 35) (drop (i + 1) s) in
          by_lt n h
          (λ g. sym (steps.raw_quote k h s i l e n refl g) ∙ ap (λ (b : ℕ). piece 1 (Byte b)) (sym e))
          (λ g. absurd (passes_quote k (closing_byte h) (get_or s i 0) (get_or s (i + h) 0) t e (marked h s i e g)))
      by_quote false f = by_backslash (eqb-false _ _ f) (eqb (get_or s i 0) 92) refl

  -- a byte that does not pass, and is no quote, ends the body
  stops_step : passes k (closing_byte h) (get_or s i 0) (get_or s (i + h) 0) ≡ false → (get_or s i 0 ≡ 34 → ⊥) → Stopped (raw_step_of k h (drop i s))
  stops_step t e =
      let p = stops_plain k (closing_byte h) (get_or s i 0) (get_or s (i + h) 0) t e in
      let other : get_or s i 0 ≡ 92 → ⊥ = λ x. clash (backslash_plain k) (rw x at p) in
      rw (← (steps.raw_plain_lem k h s i l e)) (plain_stops k (get_or s i 0) (agrees k (get_or s i 0) other e ∙ p) other)

-- ---- a loop over a raw body

module _ (k : Allowed) (h : ℕ) (s : List ℕ) where
  abbrev At : ℕ → Type 0
  At i = Passed (raw_step_of k h) s i (take i s)

  -- the first byte of a run passes
  front : (i : ℕ) → 0 < raw_run k h (closing_byte h) (drop i s) → (i < length s) × (passes k (closing_byte h) (get_or s i 0) (get_or s (i + h) 0) ≡ true)
  front i g =
      let l : i < length s = omega (arith, scan_in k h (closing_byte h) s i) in
      (l, go l (passes k (closing_byte h) (get_or s i 0) (get_or s (i + h) 0)) refl)
    where
      go : i < length s → (t : Bool) → passes k (closing_byte h) (get_or s i 0) (get_or s (i + h) 0) ≡ t → t ≡ true
      go l true e = refl
      go l false e = absurd (omega (arith, scan_stop k h (closing_byte h) s i l e))

  passed_by : (n i : ℕ) → n ≤ raw_run k h (closing_byte h) (drop i s) → At i → At (i + n)
  passed_by zero i g q = rw add-zero q
  passed_by (suc n) i g q =
      let f = front i (omega arith) in
      let there : i + 1 + n ≡ i + suc n = omega arith in
      let more : At (i + 1) = raw_more k h 1 (Byte (get_or s i 0)) q (passes_step k h s i f.0 f.1) in
      rw there at (passed_by n (i + 1) (omega (arith, scan_more k h (closing_byte h) s i f.0 f.1)) more)

  -- it passes what a scan passes over
  pub passed_scan : (i e : ℕ) → e ≡ i + raw_run k h (closing_byte h) (drop i s) → At i → At e
  passed_scan i e g q =
      let there : i + raw_run k h (closing_byte h) (drop i s) ≡ e = omega arith in
      rw there at (passed_by (raw_run k h (closing_byte h) (drop i s)) i (omega arith) q)

  -- the body ends where a quote stands with h hashes after it
  pub scan_closes : (e : ℕ) → get_or s e 0 ≡ 34 → h ≤ run (only 35) (drop (e + 1) s) → Stopped (raw_step_of k h (drop e s))
  scan_closes e quote hashes =
      let l = byte_inside s e 34 quote (omega arith) in
      rw (← (steps.raw_close k h s e l quote (run (only 35) (drop (e + 1) s)) refl hashes)) tt

  -- or where no quote stands
  pub scan_ends : (i e : ℕ) → e ≡ i + raw_run k h (closing_byte h) (drop i s) → (get_or s e 0 ≡ 34 → ⊥) → Stopped (raw_step_of k h (drop e s))
  scan_ends i e g quote =
      by_lt e (length s)
      (λ l. stops_step k h s e l (go l (passes k (closing_byte h) (get_or s e 0) (get_or s (e + h) 0)) refl) quote)
      (λ l. rw (← (steps.raw_end k h s e l)) tt)
    where
      none : raw_run k h (closing_byte h) (drop e s) ≡ 0
      none =
          let p = scan_past k h (closing_byte h) s i (raw_run k h (closing_byte h) (drop i s)) (omega arith) in
          omega (arith, rw (← g) at p)

      go : e < length s → (t : Bool) → passes k (closing_byte h) (get_or s e 0) (get_or s (e + h) 0) ≡ t → t ≡ false
      go l false x = refl
      go l true x = absurd (omega (arith, none, scan_more k h (closing_byte h) s e l x))
