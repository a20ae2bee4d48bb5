-- How far a run of bytes goes from the front of a list, as Rust's `position` of the first byte outside a set finds it; and how many bytes pass a test.
-- Assumes nothing.
use Rattle.std.specs.Prelude.{ℕ, suc, ◌+◌, ◌≡◌, Bool, true, false, cond, List, [], ◌∷◌}

-- how many bytes at the front pass the test
abbrev pub run : (ℕ → Bool) → List ℕ → ℕ
run p [] = 0
run p (b ∷ s) = cond (p b) (suc (run p s)) 0

-- how many bytes of the list pass the test
abbrev pub count : (ℕ → Bool) → List ℕ → ℕ
count p [] = 0
count p (b ∷ s) = cond (p b) 1 0 + count p s

-- how many fail it
abbrev pub count_not : (ℕ → Bool) → List ℕ → ℕ
count_not p [] = 0
count_not p (b ∷ s) = cond (p b) 0 1 + count_not p s

-- every byte passes
abbrev pub All : (ℕ → Bool) → List ℕ → Type 0
All p [] = Unit {0}
All p (b ∷ s) = (p b ≡ true) × All p s

-- the first byte, if there is one, fails
abbrev pub Stops : (ℕ → Bool) → List ℕ → Type 0
Stops p [] = Unit {0}
Stops p (b ∷ s) = p b ≡ false
