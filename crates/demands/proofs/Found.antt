-- What it is that a reading has found: a meaning of its text, of the reading's kind and suffix, that the calls give.
-- Assumes nothing.
use Prim.Native.Nat.{ℕ}
use mathlib.Core.Path.{◌≡◌}
use mathlib.Core.List.{List}
use lib.ListN.{drop}
use Rattle.err.specs.Outcome.{Values}
use Rattle.grammar.specs.Meaning.{Worth, kind_of, Means}
use Rattle.demands.specs.Demand2.{Gives}

-- a reading is that of a meaning
pub record Found (s : List ℕ) (k e : ℕ) (vs : Values) : Type 0 where
  pub worth : Worth
  pub suffix : List ℕ
  pub means : Means s worth suffix
  pub kind : k ≡ kind_of worth
  pub rest : drop e s ≡ suffix
  pub gives : Gives s vs worth
