-- `raw::has_hashes` meets its contract.
-- Assumes nothing.
use borrow.Author.Rules.{rules}
use mathlib.Core.Path.{◌≡◌, refl, sym, ◌∙◌}
use mathlib.Core.Bool.{Bool, true, false, cond, ◌&&◌}
use mathlib.Core.List.{List, [], ◌∷◌}
use Prim.Native.Nat.{ℕ, zero, suc, ◌+◌, ◌-◌, ◌≤◌}
use native.Mathlib.Omega.{arith}
use borrow.Author.Tests.{le-leb, lt-leb}
use lib.Dec.{leb}
use lib.ListN.{length, take, drop, length-drop}
use Rattle.std.specs.List.{list_all}
use Rattle.std.proofs.Common.{tests}
use Rattle.std.proofs.lemmas.Iterator.{YieldsList-from_slice}
use Rattle.std.proofs.lemmas.Iterator.Search.{all_from_yields_List}
use Rattle.scan.specs.Run.{run}
use Rattle.scan.specs.Sets.{only}
use Rattle.scan.proofs.Cases.{by_lt}
use Rattle.scan.proofs.Runs.{run_le}
use Rattle.raw.proofs.has_hashes.Goals as goal

-- the first h bytes all pass where the run is as long
all_run : (p : ℕ → Bool) (h : ℕ) (s : List ℕ) → h ≤ length s → list_all p (take h s) ≡ leb h (run p s)
all_run p zero [] l = refl
all_run p zero (b ∷ s) l = sym (le-leb 0 (run p (b ∷ s)) (omega arith))
all_run p (suc h) [] l = absurd (omega arith)
all_run p (suc h) (b ∷ s) l = by_test (p b) (all_run p h s (omega arith))
  where
    by_test : (t : Bool) → list_all p (take h s) ≡ leb h (run p s) → (t && list_all p (take h s)) ≡ leb (suc h) (cond t (suc (run p s)) 0)
    by_test true e =
        by_lt (run p s) h (λ g. e ∙ lt-leb h (run p s) g ∙ sym (lt-leb (suc h) (suc (run p s)) (omega arith)))
        (λ g. e ∙ le-leb h (run p s) g ∙ sym (le-leb (suc h) (suc (run p s)) (omega arith)))
    by_test false e = sym (lt-leb (suc h) 0 (omega arith))

pub returns-then-s-from : goal.returns-then-s-from
returns-then-s-from c =
    let a = c.args in
    sym (lt-leb a.h (run (only 35) (drop a.from a.s.now)) (omega (arith, run_le (only 35) (drop a.from a.s.now), length-drop a.from a.s.now, c.if-s-from.true)))

pub returns : goal.returns
unfolding only
returns c =
    let a = c.args in
    let s = drop a.from a.s.now in
    let h : a.from + a.h - a.from ≡ a.h = omega arith in
    let e = all_from_yields_List (only 35) _ _ _ c.all.ensures.ran (YieldsList-from_slice (take (a.from + a.h - a.from) s) cc) (λ x b q k. search (rules, tests)) in
    rw h at e ∙ all_run (only 35) a.h s (omega (arith, length-drop a.from a.s.now))
