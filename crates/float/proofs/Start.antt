-- What reading a float comes to, by the first byte or none.
-- Assumes nothing.
use mathlib.Core.Path.{◌≡◌, refl}
use mathlib.Core.Bool.{cond}
use mathlib.Core.List.{List, [], ◌∷◌}
use Prim.Native.Nat.{ℕ, ◌<◌}
use native.Mathlib.Omega.{arith}
use lib.ListN.{length, get_or}
use Rattle.err.specs.Outcome.{refused, none, between}
use Rattle.scan.specs.Run.{run}
use Rattle.parse.specs.Sets.{digit, dec_digit}
use Rattle.float.specs.Float.{after_integer, float_read}

pub read_nothing : (s : List ℕ) → length s ≡ 0 → refused 1 none ≡ float_read s
unfolding float_read
read_nothing [] h = refl
read_nothing (b ∷ s) h = absurd (omega arith)

pub read_byte : (s : List ℕ) → 0 < length s → float_read s ≡ cond (dec_digit (get_or s 0 0)) (after_integer s (run (digit 10) s)) (refused 4 (between 0 1))
unfolding float_read
read_byte [] h = absurd (omega arith)
read_byte (b ∷ s) h = refl
