-- A run of bytes that stand for themselves is as many pieces of one byte.
-- Assumes nothing.
use mathlib.Core.Path.{◌≡◌, refl, ap, sym, ◌∙◌}
use mathlib.Core.Bool.{Bool, true, false, cond, not, ◌&&◌, and-false}
use mathlib.Core.List.{List, [], ◌∷◌, ◌++◌}
use Prim.Native.Nat.{ℕ, suc, ◌+◌, ◌-◌, ◌≤◌}
use native.Mathlib.Nat.{zero-add}
use native.Mathlib.Omega.{arith}
use borrow.Author.Tests.{eqb-true, eqb-false, ne_eqb, le-ltb}
use lib.Dec.{eqb, ltb}
use lib.ListN.{length, get_or, take, drop, length-append, length-drop, length-take}
use lib.Seq.{drop-drop, get_or-drop}
use Rattle.err.specs.Outcome.{between}
use Rattle.scan.specs.Run.{run, Stops}
use Rattle.scan.proofs.Cases.{clash}
use Rattle.scan.proofs.Runs.{run_le, run_stops}
use Rattle.escape.specs.Allows.{unicode, allow_nul}
use Rattle.escape.specs.declared.Allowed.{Allowed}
use Rattle.escape.specs.declared.Unescaped.TheVariants.{Byte}
use Rattle.body.specs.Packed.{Stopped}
use Rattle.body_plain.specs.Plain.{plain_byte}
use Rattle.body.specs.Step.{close, refuse, Next, piece, stop, plain_of, step_of}
use Rattle.body.specs.Body.{push, body_by}
use Rattle.body.specs.Pieces.{Char}
use Rattle.body.proofs.Steps as steps
use Rattle.body.proofs.Bodies as bodies

-- ---- a byte that stands for itself is one piece

pub char_step : (k : Allowed) (b : ℕ) (s : List ℕ) → Char k b → step_of k (b ∷ s) ≡ piece 1 (Byte b)
char_step k b s h =
    sym (steps.at_plain k (b ∷ s) 0 (omega arith) h.backslash) ∙ sym (steps.is_plain k b h.cr h.quote h.nul h.ascii)

-- the tests of `plain_byte`; a byte that is 0 is not above 127
tests : (a b c z h n u : Bool) → (z ≡ true → h ≡ false)
    → cond a false (cond b false (cond c false (cond z n (cond h u true)))) ≡ true
    → (a ≡ false) × (b ≡ false) × (c ≡ false) × ((not n && z) ≡ false) × ((not u && h) ≡ false)
tests true b c z h n u f t = clash t refl
tests false true c z h n u f t = clash t refl
tests false false true z h n u f t = clash t refl
tests false false false true h false u f t = clash t refl
tests false false false true h true u f t = (refl, refl, refl, refl, rw (f refl, and-false))
tests false false false false true n false f t = clash t refl
tests false false false false true n true f t = (refl, refl, refl, and-false (not n), refl)
tests false false false false false n u f t = (refl, refl, refl, and-false (not n), and-false (not u))

pub plain_char : (k : Allowed) (b : ℕ) → plain_byte k b ≡ true → Char k b
unfolding plain_byte
plain_char k b t =
    let r = tests (eqb b 92) (eqb b 13) (eqb b 34) (eqb b 0) (ltb 127 b) (allow_nul k) (unicode k)
    (λ e. le-ltb 127 b (omega (arith, eqb-true b 0 e))) t in
    record {
      backslash = eqb-false b 92 r.0;
      quote = eqb-false b 34 r.2;
      cr = eqb-false b 13 r.1;
      nul = r.3;
      ascii = r.4;
    }

pub plain_step : (k : Allowed) (b : ℕ) (s : List ℕ) → plain_byte k b ≡ true → step_of k (b ∷ s) ≡ piece 1 (Byte b)
plain_step k b s t = char_step k b s (plain_char k b t)

-- ---- a byte that does not stand for itself ends the body, or is a backslash

pub plain_stops : (k : Allowed) (b : ℕ) → plain_byte k b ≡ false → (b ≡ 92 → ⊥) → Stopped (plain_of k b)
unfolding plain_byte plain_of
plain_stops k b t other =
    go (eqb b 13) (eqb b 34) (eqb b 0) (ltb 127 b) (allow_nul k) (unicode k) (rw (ne_eqb b 92 other) at t)
  where
    go : (c q z h n u : Bool) → cond c false (cond q false (cond z n (cond h u true))) ≡ false
        → Stopped (cond c (stop (refuse 37 (between 0 1)))
        (cond q (stop close)
        (cond (not n && z) (stop (refuse 36 (between 0 1)))
        (cond (not u && h) (stop (refuse 25 (between 0 1)))
        (piece 1 (Byte b))))))
    go true q z h n u e = tt
    go false true z h n u e = tt
    go false false true h true u e = clash refl e
    go false false true h false u e = tt
    go false false false true true true e = clash refl e
    go false false false true false true e = clash refl e
    go false false false true true false e = tt
    go false false false true false false e = tt
    go false false false false n u e = clash refl e

-- ---- a run of such bytes, for any step and any test

-- where a run ends, the next byte fails
pub after_run : (p : ℕ → Bool) (s : List ℕ) (i e : ℕ) → e ≡ i + run p (drop i s) → Stops p (drop e s)
after_run p s i e h = rw h (rw drop-drop at (run_stops p (drop i s)))

-- where no backslash and no byte that stands for itself is, the body ends
pub run_ends : (k : Allowed) (s : List ℕ) (i : ℕ) → (get_or s i 0 ≡ 92 → ⊥) → Stops (plain_byte k) (drop i s) → Stopped (step_of k (drop i s))
unfolding step_of
run_ends k s i e =
    let z : i ≡ i + 0 = omega arith in
    go (drop i s) (λ x. e (ap (λ (n : ℕ). get_or s n 0) z ∙ sym (get_or-drop i s 0 0) ∙ x))
  where
    go : (t : List ℕ) → (get_or t 0 0 ≡ 92 → ⊥) → Stops (plain_byte k) t → Stopped (step_of k t)
    go [] e h = tt
    go (b ∷ t) e h = rw (ne_eqb b 92 e) (plain_stops k b h e)

pub other_stops : (k : Allowed) (s : List ℕ) (i : ℕ) → (get_or s i 0 ≡ 92 → ⊥) → i ≡ i + run (plain_byte k) (drop i s) → Stopped (step_of k (drop i s))
other_stops k s i e h = run_ends k s i e (after_run (plain_byte k) s i i h)

module _ (step : List ℕ → Next) (p : ℕ → Bool) (law : (b : ℕ) (s : List ℕ) → p b ≡ true → step (b ∷ s) ≡ piece 1 (Byte b)) where
  -- THE LAW: a body is its front run, byte for byte, and the body of what follows.
  pub run_body : (s : List ℕ) → push (run p s) (take (run p s) s) (body_by step (drop (run p s) s)) ≡ body_by step s
  run_body [] = rw zero-add
  run_body (b ∷ s) = by_test (run_body s) (p b) refl
    where
      by_test : push (run p s) (take (run p s) s) (body_by step (drop (run p s) s)) ≡ body_by step s → (t : Bool) → p b ≡ t
          → push (cond t (suc (run p s)) 0) (take (cond t (suc (run p s)) 0) (b ∷ s)) (body_by step (drop (cond t (suc (run p s)) 0) (b ∷ s)))
          ≡ body_by step (b ∷ s)
      by_test h false e = rw zero-add
      by_test h true e =
          let one : suc (run p s) ≡ 1 + run p s = omega arith in
          ap (λ (m : ℕ). push m (b ∷ take (run p s) s) (body_by step (drop (run p s) s))) one
          ∙ sym (bodies.push_push 1 (run p s) (b ∷ []) (take (run p s) s) (body_by step (drop (run p s) s)))
          ∙ ap (push 1 (b ∷ [])) h
          ∙ sym (bodies.body_piece step (b ∷ s) 1 (Byte b) (law b s e) (omega arith) (omega arith))

  -- a loop that stands at i passes the run there at once
  pub passed_run : {s : List ℕ} {i : ℕ} {v : List ℕ} (n : ℕ) → bodies.Passed step s i v → n ≡ run p (drop i s)
      → bodies.Passed step s (i + n) (v ++ take n (drop i s))
  passed_run {s} {i} {v} n q e = record {
    within = omega (arith, bound, length-drop i s, q.within);
    short = simp (length-append, length-take) (omega (arith, q.short));
    is = whole ∙ q.is;
  }
    where
      bound : n ≤ length (drop i s)
      bound = rw e (run_le p (drop i s))

      here : push n (take n (drop i s)) (body_by step (drop n (drop i s))) ≡ body_by step (drop i s)
      here = rw e (run_body (drop i s))

      whole : push (i + n) (v ++ take n (drop i s)) (body_by step (drop (i + n) s)) ≡ push i v (body_by step (drop i s))
      whole = sym (bodies.push_push i n v (take n (drop i s)) (body_by step (drop (i + n) s))) ∙ ap (push i v) (rw drop-drop at here)

  -- for a loop that knows where the run ends
  pub passed_to : {s : List ℕ} {i : ℕ} {v : List ℕ} (e : ℕ) → bodies.Passed step s i v → e ≡ i + run p (drop i s)
      → bodies.Passed step s e (v ++ take (e - i) (drop i s))
  passed_to {s} {i} {v} e q h =
      let back : i + (e - i) ≡ e = omega arith in
      rw back at (passed_run (e - i) q (omega arith))

-- and what a measurer counts
pub counts : (p : ℕ → Bool) (s : List ℕ) (i : ℕ) (v : List ℕ) (e : ℕ) → i ≤ length s → e ≡ i + run p (drop i s)
    → (i ≤ e) × (e ≤ length s) × (length (v ++ take (e - i) (drop i s)) ≡ length v + (e - i))
counts p s i v e l h =
    let bound = run_le p (drop i s) in
    let size = length-drop i s in
    (omega arith, omega arith, simp (length-append, length-take) (omega arith))

-- the run at the front of a quoted body
module _ (k : Allowed) (s : List ℕ) (e : ℕ) (is : e ≡ run (plain_byte k) s) where
  pub front_passed : bodies.Passed (step_of k) s e (take e s)
  front_passed = rw zero-add at (passed_run (step_of k) (plain_byte k) (plain_step k) e (bodies.start (step_of k) s) is)

  pub front_length : e ≡ length (take e s)
  front_length = omega (arith, length-take e s, run_le (plain_byte k) s)
