-- What stands between the quotes of a quoted string, piece by piece, with the bytes that the pieces stand for.
-- Assumes nothing.
use Rattle.std.specs.Prelude.{ℕ, ◌≡◌, false, not, ◌&&◌, List, [], ◌∷◌, ◌++◌, eqb, ltb}
use Rattle.scan.specs.Run.{All, Stops}
use Rattle.parse.specs.Sets.{blank}
use Rattle.escape.specs.Allows.{unicode, allow_nul}
use Rattle.escape.specs.Escape.{bytes_of}
use Rattle.escape.specs.Pieces.{Esc}
use Rattle.escape.specs.declared.Allowed.{Allowed}
use Rattle.escape.specs.declared.Unescaped.{Unescaped}

-- a byte that stands for itself: no backslash, quote or CR, and no NUL or byte above 127 where the kind has none
-- 92 is `\`, 34 is `"`, 13 is CR
pub record Char (k : Allowed) (b : ℕ) : Type 0 where
  pub backslash : b ≡ 92 → ⊥
  pub quote : b ≡ 34 → ⊥
  pub cr : b ≡ 13 → ⊥
  pub nul : (not (allow_nul k) && eqb b 0) ≡ false
  pub ascii : (not (unicode k) && ltb 127 b) ≡ false

-- What stands between the quotes, and its value: bytes that stand for themselves, escapes, and dropped line breaks, each of which drops
-- every space, tab and LF that follows. Law `exact` of `body_value` shows that `body` reads exactly this.
-- 92 is `\`, 10 is LF
pub data Content (k : Allowed) : List ℕ → List ℕ → Type 0 where
  none : Content k [] []
  char : {s v : List ℕ} (b : ℕ) → Char k b → Content k s v → Content k (b ∷ s) (b ∷ v)
  escape : {t s v c w : List ℕ} {u : Unescaped} → Esc k t u → Content k s v → c ≡ t ++ s → w ≡ bytes_of u ++ v → Content k c w
  continue : {s v c : List ℕ} (ws : List ℕ) → All blank ws → Stops blank s → Content k s v → c ≡ 92 ∷ 10 ∷ (ws ++ s) → Content k c v
