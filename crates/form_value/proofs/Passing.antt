-- How a loop over a quoted body goes on, where it stands at i and what it has passed stands for v: by a piece, by a run, or not at all.
-- The measurer and the writer share this.
-- Assumes nothing.
use Rattle.std.proofs.Common.{◌≡◌, ℕ, ◌+◌, ◌-◌, ◌<◌, ◌≤◌, List, ◌++◌, length, get_or, take, drop, sym, ◌∙◌, arith}
use Rattle.scan.specs.Run.{run}
use Rattle.scan.proofs.Bytes.{byte_inside}
use Rattle.escape.specs.Escape.{bytes_of, Valid}
use Rattle.escape.specs.declared.Allowed.{Allowed}
use Rattle.escape.specs.declared.Unescaped.{Unescaped}
use Rattle.escape_packed.specs.Packed.{packed_len, packed_value}
use Rattle.body_plain.specs.Plain.{plain_byte}
use Rattle.body.specs.Body.{body}
use Rattle.body.specs.Packed.{packed_backslash}
use Rattle.body.specs.Step.{step_of}
use Rattle.body.proofs.Bodies as bodies
use Rattle.body.proofs.Codes as codes
use Rattle.body.proofs.Runs as runs
use Rattle.body.proofs.Within.{step_in}

module _ (k : Allowed) (s : List ℕ) (i : ℕ) (v : List ℕ) (p : bodies.Passed (step_of k) s i v) where
  -- the code of what stands at a backslash
  module _ (c : ℕ) (code : c ≡ packed_backslash k (drop i s)) where
    pub ends_at_code : get_or s i 0 ≡ 92 → c ≡ 0 → v ≡ (body k s).value
    ends_at_code h z =
        bodies.whole _ 1 (step_in _) p (codes.code_stops _ s _ (byte_inside s _ 92 h (omega arith)) h (sym code ∙ z))

    -- the piece that it is the code of
    module _ (some : c ≡ 0 → ⊥) (u : Unescaped) (is : u ≡ packed_value c) where
      pub piece_room : (0 < packed_len c) × (i + packed_len c ≤ length s) × Valid u
      piece_room = let b = bodies.bounds _ 1 (step_in _) p _ _ (codes.code_step _ _ _ code some) in (b.0, b.1, rw is b.3)

      pub piece_passed : bodies.Passed (step_of k) s (i + packed_len c) (v ++ bytes_of u)
      piece_passed = rw is (bodies.more _ 1 (step_in _) p _ _ (codes.code_step _ _ _ code some))

  -- a run of bytes that stand for themselves
  module _ (e : ℕ) (is : e ≡ i + run (plain_byte k) (drop i s)) where
    pub run_passed : bodies.Passed (step_of k) s e (v ++ take (e - i) (drop i s))
    run_passed = runs.passed_to (step_of k) (plain_byte k) (runs.plain_step _) _ p is

    pub run_counts : (i ≤ e) × (e ≤ length s) × (length (v ++ take (e - i) (drop i s)) ≡ length v + (e - i))
    run_counts = runs.counts (plain_byte k) _ _ v _ p.within is

    pub ends_at_run : (get_or s i 0 ≡ 92 → ⊥) → e ≡ i → v ≡ (body k s).value
    ends_at_run h z = bodies.whole _ 1 (step_in _) p (runs.other_stops _ s _ h (sym z ∙ is))
