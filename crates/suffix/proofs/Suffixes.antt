-- A suffix's fault by its length, its first byte and the rest, and exactly when there is none.
-- Assumes nothing.
use mathlib.Core.Path.{◌≡◌, refl, sym, ap}
use mathlib.Core.Bool.{Bool, true, ◌&&◌, and-false}
use mathlib.Core.Logic.{◌⊎◌, inl, inr, ⊎_elim}
use mathlib.Core.List.{List, [], ◌∷◌}
use Prim.Native.Nat.{ℕ, suc, ◌≤◌}
use native.Mathlib.Omega.{arith}
use lib.Dec.{eqb}
use lib.ListN.{length, get_or, drop, length-drop}
use lib.Seq.{take-length}
use borrow.Author.Tests.{eq-eqb, ne_eqb}
use Rattle.scan.specs.Run.{run, All}
use Rattle.scan.proofs.Cases.{cond_in, cond_eq}
use Rattle.scan.proofs.Runs.{run_all}
use Rattle.parse.specs.Sets.{suffix_rest}
use Rattle.suffix.specs.Suffix.{suffix_fault, fault_from, suffix_start}

pub fault_none : (s : List ℕ) → length s ≡ 0 → 0 ≡ suffix_fault s
unfolding suffix_fault
fault_none [] h = refl
fault_none (b ∷ s) h = absurd (omega arith)

-- where the suffix would start at the end there is none
pub no_suffix : (s : List ℕ) (e : ℕ) → e ≡ length s → suffix_fault (drop e s) ≡ 0
no_suffix s e h = sym (fault_none (drop e s) (omega (arith, length-drop e s)))

pub fault_some : (s : List ℕ) → (length s ≡ 0 → ⊥) → suffix_fault s ≡ fault_from (get_or s 0 0) (drop 1 s)
unfolding suffix_fault
fault_some [] h = absurd (h refl)
fault_some (b ∷ s) h = refl

-- where every byte passes, the run is the whole
run_whole : (p : ℕ → Bool) (s : List ℕ) → All p s → run p s ≡ length s
run_whole p [] h = refl
run_whole p (b ∷ s) h = rw h.0 (ap suc (run_whole p s h.1))

-- what holds of 39, of 2, and of 0 where both tests pass, holds of the fault
by_tests {ℓ} : (P : ℕ → Type ℓ) (b : ℕ) (s : List ℕ) → P 39 → P 2 → (suffix_start b ≡ true → run suffix_rest s ≡ length s → P 0) → P (suffix_fault (b ∷ s))
unfolding suffix_fault fault_from
by_tests P b s late first none =
    cond_in P (eqb b 95 && eqb (length s) 0) (λ e. late)
    (λ e. cond_in P (suffix_start b) (λ t. cond_eq P (run suffix_rest s) (length s) (none t) (λ e. late)) (λ t. first))

pub fault_cases : (s : List ℕ) → (suffix_fault s ≡ 0) ⊎ ((suffix_fault s ≡ 2) ⊎ (suffix_fault s ≡ 39))
unfolding suffix_fault
fault_cases [] = inl refl
fault_cases (b ∷ s) = by_tests (λ n. (n ≡ 0) ⊎ ((n ≡ 2) ⊎ (n ≡ 39))) b s (inr (inr refl)) (inr (inl refl)) (λ t e. inl refl)

-- none of the answers from 42 on, which are given for a whole text
pub fault_small : (s : List ℕ) → suffix_fault s ≤ 41
fault_small s = ⊎_elim (λ e. omega arith) (⊎_elim (λ e. omega arith) (λ e. omega arith)) (fault_cases s)

-- ---- a suffix is good exactly when its first byte may start one, the others may follow, and it is not `_` alone

pub good_start : (b : ℕ) (s : List ℕ) → suffix_fault (b ∷ s) ≡ 0 → suffix_start b ≡ true
good_start b s = by_tests (λ n. n ≡ 0 → suffix_start b ≡ true) b s (λ h. absurd (omega arith)) (λ h. absurd (omega arith)) (λ t e h. t)

pub good_rest : (b : ℕ) (s : List ℕ) → suffix_fault (b ∷ s) ≡ 0 → All suffix_rest s
good_rest b s = by_tests (λ n. n ≡ 0 → All suffix_rest s) b s (λ h. absurd (omega arith)) (λ h. absurd (omega arith)) (λ t e h. rw (e, take-length) at (run_all suffix_rest s))

pub good_lone : suffix_fault (95 ∷ []) ≡ 0 → ⊥
unfolding suffix_fault fault_from
good_lone h = omega arith

pub good_is : (b : ℕ) (s : List ℕ) → suffix_start b ≡ true → All suffix_rest s → (b ≡ 95 → s ≡ [] → ⊥) → suffix_fault (b ∷ s) ≡ 0
unfolding suffix_fault fault_from
good_is b [] t h n = rw (ne_eqb b 95 (λ e. n e refl), t)
good_is b (x ∷ s) t h n = rw (ne_eqb (length (x ∷ s)) 0 (omega arith), and-false, t, eq-eqb _ _ (run_whole suffix_rest (x ∷ s) h))
