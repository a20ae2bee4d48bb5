-- One turn of a loop over a quoted body: by the piece that a backslash starts, or by a run of bytes that stand for themselves.
-- Assumes nothing.
use mathlib.Core.Path.{◌≡◌, sym, ◌∙◌}
use mathlib.Core.List.{List, ◌++◌}
use Prim.Native.Nat.{ℕ, ◌+◌, ◌-◌, ◌<◌, ◌≤◌}
use native.Mathlib.Omega.{arith}
use lib.ListN.{length, get_or, take, drop, length-append}
use Rattle.scan.specs.Run.{run}
use Rattle.scan.proofs.Bytes.{byte_inside}
use Rattle.escape.specs.Escape.{bytes_of, Valid}
use Rattle.escape.specs.declared.Allowed.{Allowed}
use Rattle.escape.specs.declared.Unescaped.{Unescaped}
use Rattle.escape_packed.specs.Packed.{packed_len, packed_value}
use Rattle.body_plain.specs.Plain.{plain_byte}
use Rattle.body.specs.Packed.{packed_backslash, Stopped}
use Rattle.body.specs.Step.{piece, step_of}
use Rattle.body.proofs.Steps.{at_quote}
use Rattle.body.proofs.Within.{step_in}
use Rattle.body.proofs.Bodies.{Passed, bounds, more}
use Rattle.body.proofs.Codes.{code_step, code_stops}
use Rattle.body.proofs.Runs.{plain_step, passed_to, counts, other_stops}

-- A loop that stands at i, after bytes that stand for v, goes on to e, and what it passes stands for w.
pub record Turn (k : Allowed) (s : List ℕ) (i e : ℕ) (v w : List ℕ) : Type 0 where
  pub on : i < e
  pub short : i + length w ≤ e
  pub count : length (v ++ w) ≡ length v + length w
  pub passed : Passed (step_of k) s e (v ++ w)

module _ (k : Allowed) {s : List ℕ} {i : ℕ} {v : List ℕ} (p : Passed (step_of k) s i v) where
  -- c is the code of the piece that a backslash starts at i, which has n bytes and stands for u
  module _ (c n : ℕ) (u : Unescaped) (e : c ≡ packed_backslash k (drop i s)) (z : c ≡ 0 → ⊥) (l : n ≡ packed_len c) (w : u ≡ packed_value c) where
    stepped : step_of k (drop i s) ≡ piece n u
    stepped = rw (l, w) (code_step k (drop i s) c e z)

    pub code_turn : Turn k s i (i + n) v (bytes_of u)
    code_turn =
        let b = bounds (step_of k) 1 (step_in k) p n u stepped in
        record {
          on = omega (arith, b.0);
          short = omega (arith, b.2);
          count = length-append v (bytes_of u);
          passed = more (step_of k) 1 (step_in k) p n u stepped;
        }

    pub code_valid : Valid u
    code_valid = (bounds (step_of k) 1 (step_in k) p n u stepped).3

  -- a run of bytes that stand for themselves ends at e
  module _ (e : ℕ) (h : e ≡ i + run (plain_byte k) (drop i s)) where
    pub run_length : length (take (e - i) (drop i s)) ≡ e - i
    run_length = omega (arith, counts (plain_byte k) s i v e p.within h, length-append v (take (e - i) (drop i s)))

    pub run_turn : (e ≡ i → ⊥) → Turn k s i e v (take (e - i) (drop i s))
    run_turn z =
        let b = counts (plain_byte k) s i v e p.within h in
        record {
          on = omega (arith, b.0);
          short = omega (arith, b.0, run_length);
          count = length-append v (take (e - i) (drop i s));
          passed = passed_to (step_of k) (plain_byte k) (plain_step k) e p h;
        }

-- ---- where the loop ends, by the byte b at i

module _ (k : Allowed) (s : List ℕ) (i b : ℕ) (is : b ≡ get_or s i 0) where
  pub code_end : (c : ℕ) → b ≡ 92 → c ≡ packed_backslash k (drop i s) → c ≡ 0 → Stopped (step_of k (drop i s))
  code_end c f e z =
      let at : get_or s i 0 ≡ 92 = sym is ∙ f in
      code_stops k s i (byte_inside s i 92 at (omega arith)) at (sym e ∙ z)

  pub run_end : (e : ℕ) → (b ≡ 92 → ⊥) → e ≡ i + run (plain_byte k) (drop i s) → e ≡ i → Stopped (step_of k (drop i s))
  run_end e f h z = other_stops k s i (λ x. f (is ∙ x)) (sym z ∙ h)

  pub quote_end : b ≡ 34 → Stopped (step_of k (drop i s))
  quote_end f =
      let e : get_or s i 0 ≡ 34 = sym is ∙ f in
      rw (← at_quote k s i (byte_inside s i 34 e (omega arith)) e) tt
