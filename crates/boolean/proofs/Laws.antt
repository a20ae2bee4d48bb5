-- What is accepted as a bool is `true` or `false`, which of the two, and what a refusal says.
-- Assumes nothing.
use mathlib.Core.Path.{◌≡◌, refl, subst, ap}
use mathlib.Core.Logic.{◌⊎◌, inl, inr}
use mathlib.Core.Bool.{Bool, true, false}
use mathlib.Core.List.{List}
use Prim.Native.Nat.{ℕ}
use native.Mathlib.Omega.{arith}
use lib.ListN.{length, get_or}
use Rattle.err.specs.Outcome.{Place, Values, Outcome, refused, accepted, truth, RefusedIn, none}
use Rattle.scan.specs.Same.{same}
use Rattle.scan.proofs.Cases.{cond_in}
use Rattle.scan.proofs.Sames.{same_eq, same_ne}
use Rattle.boolean.specs.Bool.{true_text, false_text, bool_read}

-- what holds of a text of which this is the answer
abbrev Answer : List ℕ → Outcome → Type 0
Answer s (refused n p) = RefusedIn (length s) n p
Answer s (accepted k e vs) = ((s ≡ false_text) ⊎ (s ≡ true_text)) × (k ≡ 1) × (e ≡ length s) × (t : Bool) × (vs ≡ truth t)

answer : (s : List ℕ) → Answer s (bool_read s)
unfolding bool_read
answer s =
    cond_in (Answer s) (same s false_text) (λ t. (inl (same_eq s false_text t), refl, refl, false, refl))
    (λ t. cond_in (Answer s) (same s true_text) (λ t. (inr (same_eq s true_text t), refl, refl, true, refl)) (λ t. omega arith))

pub refused_in : (s : List ℕ) {n : ℕ} {p : Place} → bool_read s ≡ refused n p → RefusedIn (length s) n p
refused_in s h = subst (Answer s) h (answer s)

pub sound : (s : List ℕ) {k e : ℕ} {vs : Values} → bool_read s ≡ accepted k e vs
    → ((s ≡ false_text) ⊎ (s ≡ true_text)) × (k ≡ 1) × (e ≡ length s) × (t : Bool) × (vs ≡ truth t)
sound s h = subst (Answer s) h (answer s)

-- what bytes tell that a text is neither word
pub no_bool : (s : List ℕ)
    → (length s ≡ 4 → get_or s 0 0 ≡ 116 → get_or s 1 0 ≡ 114 → get_or s 2 0 ≡ 117 → get_or s 3 0 ≡ 101 → ⊥)
    → (length s ≡ 5 → get_or s 0 0 ≡ 102 → get_or s 1 0 ≡ 97 → get_or s 2 0 ≡ 108 → get_or s 3 0 ≡ 115 → get_or s 4 0 ≡ 101 → ⊥)
    → bool_read s ≡ refused 3 none
unfolding bool_read
no_bool s f g =
    let no_true : same s true_text ≡ false =
    same_ne s true_text (λ e. f (ap length e) (ap (λ l. get_or l 0 0) e) (ap (λ l. get_or l 1 0) e) (ap (λ l. get_or l 2 0) e) (ap (λ l. get_or l 3 0) e)) in
    let no_false : same s false_text ≡ false =
    same_ne s false_text (λ e. g (ap length e) (ap (λ l. get_or l 0 0) e) (ap (λ l. get_or l 1 0) e) (ap (λ l. get_or l 2 0) e) (ap (λ l. get_or l 3 0) e) (ap (λ l. get_or l 4 0) e)) in
    rw (no_false, no_true)
