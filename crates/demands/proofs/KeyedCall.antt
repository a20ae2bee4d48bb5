-- Demand 1, the keyed entry.
-- Assumes nothing.
use mathlib.Core.Path.{◌≡◌, refl}
use mathlib.Core.Logic.{inl, inr}
use mathlib.Core.List.{List, [], ◌∷◌}
use Prim.Native.Nat.{ℕ}
use native.Mathlib.Omega.{arith}
use lib.ListN.{length}
use Rattle.err.specs.Outcome.{Place, Outcome, refused, accepted}
use Rattle.scan.proofs.Cases.{cond_in}
use Rattle.digits.specs.Counts.{digit_counts}
use Rattle.literal.specs.Readings.{read_at}
use Rattle.keyed.specs.Keyed.{overlong, keyed_at}
use Rattle.demands.specs.Demand1.{KeyedAnswered, KeyedAnswers}
use Rattle.demands.proofs.ReadCall.{Coded, coded}

answered : (s : List ℕ) → KeyedAnswered (length s) (keyed_at s)
unfolding keyed_at
answered s =
    cond_in (KeyedAnswered (length s)) (overlong (digit_counts s (read_at 0 s))) (λ t. inr (inr (inr (inl refl)), refl)) (λ t. go (read_at 0 s) (coded (53 ∷ []) 0 s (omega arith)))
  where
    go : (o : Outcome) → Coded (53 ∷ []) (length s) o → KeyedAnswered (length s) o
    go (refused n p) h = h
    go (accepted k e vs) h = h

-- what entry 0 refuses has no counts
own : (s : List ℕ) {n : ℕ} {p : Place} → read_at 0 s ≡ refused n p → keyed_at s ≡ refused n p
unfolding keyed_at
own s h = rw h

pub keyed_answers : KeyedAnswers
keyed_answers = record { answered = answered; own = own }
