-- Eight bytes by twos, for any test, and the bytes that `eight_plain` tells of: they stand for themselves.
-- Assumes nothing.
use mathlib.Core.Path.{◌≡◌, refl, sym, ◌∙◌}
use mathlib.Core.Bool.{Bool, true, false, cond, not, ◌&&◌}
use mathlib.Core.List.{List}
use Prim.Native.Nat.{ℕ, zero, suc, ◌+◌, ◌≤◌, ◌<◌}
use native.Mathlib.Omega.{arith}
use lib.Dec.{eqb, ltb}
use lib.ListN.{length, get_or, drop}
use borrow.Author.Tests.{ltb-true, le-ltb, le-leb, lt-leb}
use Rattle.scan.specs.Run.{run}
use Rattle.scan.specs.Sets.{ascii}
use Rattle.scan.specs.Windows.{all_in}
use Rattle.scan.proofs.Cases.{clash}
use Rattle.scan.proofs.Runs.{run_more, run_stop, run_reach}
use Rattle.scan.proofs.Windows.{all_each, all_join}
use Rattle.escape.specs.Allows.{unicode, allow_nul}
use Rattle.escape.specs.declared.Allowed.{Allowed}
use Rattle.body_plain.specs.Plain.{plain_byte}
use Rattle.body_plain.specs.PlainInAll.{plain_in_all, eight_plain}

-- one byte that was tested
one_in : (p : ℕ → Bool) (s : List ℕ) (at : ℕ) → at < length s → all_in p at 1 s ≡ p (get_or s at 0)
unfolding all_in
one_in p s at h = go (p (get_or s at 0)) refl
  where
    go : (t : Bool) → p (get_or s at 0) ≡ t → all_in p at 1 s ≡ t
    go true e = le-leb 1 (run p (drop at s)) (omega (arith, run_more p s at h e))
    go false e = lt-leb 1 (run p (drop at s)) (omega (arith, run_stop p s at h e))

-- what was found of two bytes
pub all_pair : (p : ℕ → Bool) (s : List ℕ) (at : ℕ) {t u : Bool} → at + 2 ≤ length s → t ≡ p (get_or s at 0) → u ≡ p (get_or s (at + 1) 0) → (t && u) ≡ all_in p at 2 s
all_pair p s at h d e = all_join p s at 1 1 (d ∙ sym (one_in p s at (omega arith))) (e ∙ sym (one_in p s (at + 1) (omega arith)))

-- what was found of eight bytes by twos
pub all_twos : (p : ℕ → Bool) (s : List ℕ) (at : ℕ) {t u v w : Bool}
    → t ≡ all_in p at 2 s → u ≡ all_in p (at + 2) 2 s → v ≡ all_in p (at + 4) 2 s → w ≡ all_in p (at + 6) 2 s → (t && u && (v && w)) ≡ all_in p at 8 s
all_twos p s at d e f g =
    let six : at + 6 ≡ at + 4 + 2 = omega arith in
    all_join p s at 4 4 (all_join p s at 2 2 d e) (all_join p s (at + 4) 2 2 f (rw six at g))

-- a sure byte stands for itself, where it is ASCII or the kind has other characters
plain_in_all_lem : (k : Allowed) (b : ℕ) → plain_in_all b ≡ true → (unicode k ≡ false → ascii b ≡ true) → plain_byte k b ≡ true
unfolding plain_byte plain_in_all ascii
plain_in_all_lem k b e f = go (eqb b 92) (eqb b 34) (eqb b 13) (eqb b 0) (ltb 127 b) (unicode k) e (λ x. le-ltb 127 b (omega (arith, ltb-true b 128 (f x))))
  where
    go : (backslash quote cr nul high u : Bool) → (not backslash && not quote && (not cr && not nul)) ≡ true → (u ≡ false → high ≡ false)
        → cond backslash false (cond cr false (cond quote false (cond nul (allow_nul k) (cond high u true)))) ≡ true
    go true q c n h u e f = e
    go false true c n h u e f = clash e refl
    go false false true n h u e f = e
    go false false false true h u e f = clash e refl
    go false false false false true true e f = refl
    go false false false false true false e f = sym (f refl)
    go false false false false false u e f = refl

module _ (k : Allowed) (s : List ℕ) (at : ℕ) where
  each : eight_plain k at s ≡ true → (i : ℕ) → i < 8 → plain_byte k (get_or s (at + i) 0) ≡ true
  unfolding eight_plain
  each e i h = by_kind (unicode k) (all_in ascii at 8 s) refl refl e
    where
      by_kind : (u a : Bool) → unicode k ≡ u → all_in ascii at 8 s ≡ a → cond u (all_in plain_in_all at 8 s) (a && all_in plain_in_all at 8 s) ≡ true → plain_byte k (get_or s (at + i) 0) ≡ true
      by_kind true a x y e = plain_in_all_lem k _ (all_each plain_in_all s at 8 i e h) (λ z. clash x z)
      by_kind false true x y e = plain_in_all_lem k _ (all_each plain_in_all s at 8 i e h) (λ z. all_each ascii s at 8 i y h)
      by_kind false false x y e = clash e refl

  -- so that the run goes on after them
  pub eight_passed : at + 8 ≤ length s → at ≤ run (plain_byte k) s → eight_plain k at s ≡ true → at + 8 ≤ run (plain_byte k) s
  eight_passed l h e = go 8 (omega arith)
    where
      go : (n : ℕ) → n ≤ 8 → at + n ≤ run (plain_byte k) s
      go zero g = omega arith
      go (suc n) g = omega (arith, run_reach (plain_byte k) s (at + n) (omega arith) (go n (omega arith)) (each e n (omega arith)))
