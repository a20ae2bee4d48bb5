-- Parts of a text whose bytes all pass a test: of one byte, of two parts one after the other, and what they tell of the run at the front; and how a
-- loop over such a part goes on.
-- Assumes nothing.
use mathlib.Core.Path.{◌≡◌, refl, sym, ap, ◌∙◌}
use mathlib.Core.Bool.{Bool, true, false, ◌&&◌}
use mathlib.Core.List.{List}
use Prim.Native.Nat.{ℕ, ◌+◌, ◌-◌, ◌≤◌, ◌<◌}
use native.Mathlib.Omega.{arith}
use lib.ListN.{length, get_or, take, drop, length-drop}
use Rattle.std.proofs.lemmas.List.{get_or-take, length-take}
use lib.Seq.{drop-drop, get_or-drop}
use borrow.Author.Tests.{le-leb, lt-leb, leb-true}
use Rattle.scan.specs.Run.{run}
use Rattle.scan.specs.Windows.{all_in}
use Rattle.scan.proofs.Cases.{by_lt}
use Rattle.scan.proofs.Runs.{run_more, run_stop, run_past, run_each}

module _ (p : ℕ → Bool) (s : List ℕ) where
  whole : (at n : ℕ) → n ≤ run p (drop at s) → all_in p at n s ≡ true
  unfolding all_in
  whole at n h = le-leb n (run p (drop at s)) h

  broken : (at n : ℕ) → run p (drop at s) < n → all_in p at n s ≡ false
  unfolding all_in
  broken at n h = lt-leb n (run p (drop at s)) h

  reached : (at n : ℕ) → all_in p at n s ≡ true → n ≤ run p (drop at s)
  unfolding all_in
  reached at n e = leb-true n (run p (drop at s)) e

  -- and where it reaches a byte that fails, it ends there
  pub all_last : (n : ℕ) → n < length s → n ≤ run p s → p (get_or s n 0) ≡ false → n ≡ run p s
  all_last n h l e = omega (arith, run_stop p s n h e, run_past p n s l)

  pub all_each : (at n i : ℕ) → all_in p at n s ≡ true → i < n → p (get_or s (at + i) 0) ≡ true
  all_each at n i e h = rw (get_or-drop at s i 0) at (run_each p (drop at s) i (omega (arith, reached at n e)))

  all_one : (at : ℕ) → at < length s → all_in p at 1 s ≡ p (get_or s at 0)
  all_one at h = go (p (get_or s at 0)) refl
    where
      go : (t : Bool) → p (get_or s at 0) ≡ t → all_in p at 1 s ≡ t
      go true e = whole at 1 (omega (arith, run_more p s at h e))
      go false e = broken at 1 (omega (arith, run_stop p s at h e))

  all_halves : (at a b : ℕ) → all_in p at (a + b) s ≡ (all_in p at a s && all_in p (at + a) b s)
  all_halves at a b = by_lt (run p (drop at s)) a (λ h. rw (broken at (a + b) (omega arith), broken at a h)) λ h.
      let past : run p (drop at s) ≡ a + run p (drop (at + a) s) = rw (← drop-drop) (run_past p a (drop at s) h) in
      by_lt (run p (drop (at + a) s)) b (λ g. rw (broken at (a + b) (omega arith), whole at a h, broken (at + a) b g))
      (λ g. rw (whole at (a + b) (omega arith), whole at a h, whole (at + a) b g))

  -- two parts one after the other
  pub all_join : (at a b : ℕ) {t u : Bool} → t ≡ all_in p at a s → u ≡ all_in p (at + a) b s → (t && u) ≡ all_in p at (a + b) s
  all_join at a b e f = rw (e, f) (sym (all_halves at a b))

  -- a loop over the n bytes at an offset: before the first of them, and at the one after the first i
  pub all_start : (at : ℕ) → true ≡ all_in p at 0 s
  all_start at = sym (whole at 0 (omega arith))

  pub all_next : (at n i : ℕ) {t u : Bool} → at + n ≤ length s → i < length (take (at + n - at) (drop at s)) → t ≡ all_in p at i s
      → u ≡ p (get_or (take (at + n - at) (drop at s)) i 0) → (t && u) ≡ all_in p at (i + 1) s
  all_next at n i l h e f =
      let inside : i < at + n - at = omega (arith, length-take (at + n - at) (drop at s), length-drop at s) in
      let byte : get_or (take (at + n - at) (drop at s)) i 0 ≡ get_or s (at + i) 0 = rw get_or-take (get_or-drop at s i 0) in
      all_join at i 1 e (f ∙ ap p byte ∙ sym (all_one (at + i) (omega arith)))
