-- What is wrong with a text before it is read: 43 exactly above 65,536 bytes, then 44 exactly where it is not UTF-8.
-- Assumes nothing.
use mathlib.Core.Path.{◌≡◌, refl}
use mathlib.Core.Bool.{Bool, true, false, cond}
use mathlib.Core.Logic.{◌⊎◌, inl, inr}
use mathlib.Core.List.{List}
use Prim.Native.Nat.{ℕ, ◌≤◌, ◌<◌}
use native.Mathlib.Omega.{arith}
use borrow.Author.Tests.{leb-true, le-leb, lt-leb}
use lib.Dec.{leb}
use lib.ListN.{length}
use Rattle.scan.proofs.Cases.{cond_in}
use Rattle.utf8.specs.Utf8.{Utf8}
use Rattle.utf8.specs.Valid.{is_utf8}
use Rattle.utf8.proofs.Valid.{is_utf8_right}
use Rattle.text_check.specs.Checks.{text_fault}

module _ (s : List ℕ) where
  pub long_fault : 65536 < length s → text_fault s ≡ 43
  unfolding text_fault
  long_fault h = rw (lt-leb (length s) 65536 h)

  pub utf8_fault : length s ≤ 65536 → (Utf8 s → ⊥) → text_fault s ≡ 44
  unfolding text_fault
  utf8_fault h n = rw (le-leb (length s) 65536 h) (by_test (is_utf8 s) refl)
    where
      by_test : (t : Bool) → is_utf8 s ≡ t → ◌≡◌ {A = ℕ} (cond t 0 44) 44
      by_test true e = absurd (n ((is_utf8_right s).0 e))
      by_test false e = refl

  pub no_fault : length s ≤ 65536 → Utf8 s → text_fault s ≡ 0
  unfolding text_fault
  no_fault h u = rw (le-leb (length s) 65536 h, (is_utf8_right s).1 u)

  -- where nothing is wrong, the text is short and UTF-8; else it is 43 or 44
  fault : (P : ℕ → Type 0) → (length s ≤ 65536 → Utf8 s → P 0) → P 43 → P 44 → P (text_fault s)
  unfolding text_fault
  fault P f l u = cond_in P (leb (length s) 65536) (λ h. cond_in P (is_utf8 s) (λ e. f (leb-true _ _ h) ((is_utf8_right s).0 e)) (λ e. u)) (λ h. l)

  pub fault_passed : text_fault s ≡ 0 → (length s ≤ 65536) × Utf8 s
  fault_passed = fault (λ n. n ≡ 0 → (length s ≤ 65536) × Utf8 s) (λ h u e. (h, u)) (λ e. absurd (omega arith)) (λ e. absurd (omega arith))

  pub fault_is : (text_fault s ≡ 0 → ⊥) → (text_fault s ≡ 43) ⊎ (text_fault s ≡ 44)
  fault_is = fault (λ n. (n ≡ 0 → ⊥) → (n ≡ 43) ⊎ (n ≡ 44)) (λ h u z. absurd (z refl)) (λ z. inl refl) (λ z. inr refl)
