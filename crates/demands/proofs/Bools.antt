-- litrs reads a text as a bool exactly where it is `true` or `false`, with that truth.
-- Assumes nothing.
use Prim.Native.Nat.{ℕ}
use mathlib.Core.Path.{◌≡◌, refl}
use mathlib.Core.Logic.{◌⊎◌, inl, inr}
use mathlib.Core.Bool.{Bool, true, false}
use mathlib.Core.List.{List, []}
use lib.ListN.{length}
use lib.Seq.{drop-length}
use Rattle.err.specs.Outcome.{Values, Outcome, accepted, truth}
use Rattle.scan.specs.Same.{same}
use Rattle.scan.proofs.Cases.{cond_in}
use Rattle.scan.proofs.Sames.{same_eq}
use Rattle.boolean.specs.Bool.{bool_read}
use Rattle.integer.proofs.Suffixed.{never}
use Rattle.grammar.specs.Meaning.{Means, is_true, is_false, bool, true_text, false_text}
use Rattle.demands.specs.Demand1.{Readable}
use Rattle.demands.proofs.Found.{Found}

found : (s : List ℕ) (b : Bool) {k e : ℕ} {vs : Values} → Means s (bool b) [] → accepted 1 (length s) (truth b) ≡ accepted k e vs → Found s k e vs
found s b {k} {e} {vs} m h =
    let q : length s ≡ e = cc in
    record { worth = bool b; suffix = []; means = m; kind = cc; rest = rw (← q) (drop-length s); gives = cc }

-- what litrs reads as a bool is one
pub bool_found : (s : List ℕ) {k e : ℕ} {vs : Values} → Readable s → bool_read s ≡ accepted k e vs → Found s k e vs
unfolding bool_read
bool_found s {k} {e} {vs} f =
    cond_in P (same s false_text) (λ t. found s false (is_false (same_eq s false_text t) refl refl))
    (λ _. cond_in P (same s true_text) (λ t. found s true (is_true (same_eq s true_text t) refl refl)) (λ _. never))
  where
    P : Outcome → Type 0
    P o = o ≡ accepted k e vs → Found s k e vs

-- and `true` and `false` are read
pub bool_read_lem : (s : List ℕ) → (s ≡ true_text) ⊎ (s ≡ false_text) → (e : ℕ) × (vs : Values) × (bool_read s ≡ accepted 1 e vs)
unfolding bool_read
bool_read_lem s (inl h) = (4, truth true, rw h)
bool_read_lem s (inr h) = (5, truth false, rw h)
