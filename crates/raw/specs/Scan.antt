-- The bytes of a raw body that a scan passes over without counting hashes. For contracts between functions, no sentence of a document: law
-- `passes_step` says that each is a step of `raw_step_of`.
-- Assumes nothing.
use Rattle.std.specs.Prelude.{ℕ, Bool, true, false, cond, not, ◌&&◌, List, [], ◌∷◌, eqb, ltb, get_or, drop}
use Rattle.scan.specs.Run.{run}
use Rattle.scan.specs.Sets.{only}
use Rattle.escape.specs.Allows.{unicode, allow_nul}
use Rattle.escape.specs.declared.Allowed.{Allowed}

-- a byte that a raw body may hold: no CR, and no NUL or byte above 127 where the kind has none
-- 13 is CR
unfoldable pub raw_plain : Allowed → ℕ → Bool
raw_plain k b = cond (eqb b 13) false (cond (eqb b 0) (allow_nul k) (cond (ltb 127 b) (unicode k) true))

-- what stands h bytes after a quote that closes: with no hashes the quote itself, else the last hash
-- 34 is `"`, 35 is `#`
unfoldable pub closing_byte : ℕ → ℕ
closing_byte h = cond (eqb h 0) 34 35

-- a byte b is passed over, unless it is a quote and the byte `far`, h bytes after it, is m, the last byte of what closes the string
-- 34 is `"`
unfoldable pub passes : Allowed → ℕ → ℕ → ℕ → Bool
passes k m b far = cond (raw_plain k b) (not (eqb b 34 && eqb far m)) false

-- byte by byte 1 where it is passed over and else 0; t starts h bytes after s
abbrev pub flags : Allowed → ℕ → List ℕ → List ℕ → List ℕ
flags k m [] t = []
flags k m (b ∷ s) t = cond (passes k m b (get_or t 0 0)) 1 0 ∷ flags k m s (drop 1 t)

-- how many bytes at the front are passed over, where there are h hashes
abbrev pub raw_run : Allowed → ℕ → ℕ → List ℕ → ℕ
raw_run k h m s = run (only 1) (flags k m s (drop h s))
