-- What is wrong with a suffix (01, Suffix and digits), in litrs's order of tests, by the refusal's number; 0 where nothing is.
-- Assumes nothing.
use Rattle.std.specs.Prelude.{ℕ, Bool, cond, not, ◌&&◌, List, [], ◌∷◌, eqb, ltb, length}
use Rattle.scan.specs.Run.{run}
use Rattle.parse.specs.Class.{class_of}
use Rattle.parse.specs.Sets.{suffix_rest}

-- an ASCII letter or `_`, or a byte above 127
unfoldable pub suffix_start : ℕ → Bool
suffix_start b = not (ltb (class_of b) 10) && suffix_rest b

-- "`_` alone is 39; a first ASCII character other than letter or `_` is 2; a later ASCII character other than letter, digit or
-- `_` is 39"
-- 95 is `_`
unfoldable pub fault_from : ℕ → List ℕ → ℕ
fault_from b s =
    cond (eqb b 95 && eqb (length s) 0) 39
    (cond (suffix_start b)
    (cond (eqb (run suffix_rest s) (length s)) 0 39)
    2)

-- "Empty is fine"
unfoldable pub suffix_fault : List ℕ → ℕ
suffix_fault [] = 0
suffix_fault (b ∷ s) = fault_from b s
