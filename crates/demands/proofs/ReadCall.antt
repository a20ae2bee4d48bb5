-- Reading answers every code and every text.
-- Assumes nothing.
use mathlib.Core.Path.{◌≡◌, refl}
use mathlib.Core.Logic.{inl, inr}
use mathlib.Core.List.{List, [], ◌∷◌}
use Prim.Native.Nat.{ℕ, ◌≤◌}
use borrow.Author.Tests.{le-leb}
use lib.ListN.{length}
use Rattle.err.specs.Outcome.{Outcome, refused, accepted}
use Rattle.scan.proofs.Cases.{cond_eq, by_lt}
use Rattle.utf8.specs.Utf8.{Utf8}
use Rattle.text_check.specs.Checks.{text_fault}
use Rattle.text_check.proofs.Checks.{fault_passed}
use Rattle.literal.specs.Readings.{entry_read, read_at}
use Rattle.literal.proofs.Inside.{entry_inside, start_inside}
use Rattle.literal.proofs.Refusals.{entry_refused}
use Rattle.literal.proofs.Answers.{read_bad, read_long, read_not_utf8, read_own, entry_accepted}
use Rattle.demands.specs.Demand1.{Numbered, Answered, ReadAnswers}
use Rattle.demands.proofs.Numbered.{text_refused, or_42}

-- the answers of a code from 0 to 8: no 42. A call that goes on from there adds more
abbrev pub Coded : List ℕ → ℕ → Outcome → Type 0
Coded more m (accepted k e vs) = Answered m (accepted k e vs)
Coded more m (refused n p) = Numbered m (43 ∷ 44 ∷ more) n p

module _ (more : List ℕ) (code : ℕ) (s : List ℕ) (c : code ≤ 8) where
  entry_coded : Utf8 s → Coded more (length s) (entry_read code s)
  entry_coded u = go (entry_read code s) refl
    where
      go : (o : Outcome) → entry_read code s ≡ o → Coded more (length s) o
      go (refused n p) h = inl (entry_refused code s c h)
      go (accepted k e vs) h =
          let a = entry_accepted code s c h in
          let i = entry_inside code s u c h in
          (a.0, a.1, start_inside s e vs i.0, i.2)

  pub coded : Coded more (length s) (read_at code s)
  unfolding read_at
  coded =
      rw (le-leb code 8 c)
      (cond_eq (Coded more (length s)) (text_fault s) 0 (λ z. entry_coded (fault_passed s z).1) (λ z. text_refused (length s) s more z))

answered : (code : ℕ) (s : List ℕ) → Answered (length s) (read_at code s)
answered code s = by_lt 8 code (λ h. rw (read_bad code s h) (inr (inl refl, refl))) (λ c. go (read_at code s) (coded [] code s c))
  where
    go : (o : Outcome) → Coded [] (length s) o → Answered (length s) o
    go (refused n p) h = or_42 (length s) (43 ∷ 44 ∷ []) n p h
    go (accepted k e vs) h = h

pub read_answers : ReadAnswers
read_answers =
    record {
      answered = answered;
      bad_code = read_bad;
      too_long = read_long;
      not_utf8 = read_not_utf8;
      own = λ code s c f. read_own code s c f.short f.utf8;
      own_number = entry_refused;
    }
