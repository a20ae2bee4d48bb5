-- An escape in its parts, with what it stands for. `proofs/Exact` shows that `escape_of` reads exactly this.
-- Assumes nothing.
use Rattle.std.specs.Prelude.{ℕ, ◌+◌, ◌*◌, ◌≤◌, ◌<◌, ◌≡◌, true, false, not, ◌&&◌, List, [], ◌∷◌, ◌++◌, eqb, ltb}
use Rattle.scan.specs.Run.{All}
use Rattle.scan.specs.Sets.{only}
use Rattle.parse.specs.Class.{class_of}
use Rattle.escape.specs.Allows.{unicode, byte_escapes, allow_nul}
use Rattle.escape.specs.Escape.{simple_escape_of, is_scalar}
use Rattle.escape.specs.declared.Allowed.{Allowed}
use Rattle.escape.specs.declared.Unescaped.{Unescaped}
use Rattle.escape.specs.declared.Unescaped.TheVariants.{Byte, Unicode}

-- n hex digits, each with any number of `_` after it, and their number
-- 95 is `_`
pub data Hexes : ℕ → List ℕ → ℕ → Type 0 where
  one : {d : List ℕ} {v : ℕ} (b : ℕ) (us : List ℕ) → class_of b < 16 → All (only 95) us → d ≡ b ∷ us → v ≡ class_of b → Hexes 1 d v
  more : {n : ℕ} {d e : List ℕ} {v w : ℕ} (b : ℕ) (us : List ℕ) → Hexes n d v → class_of b < 16 → All (only 95) us
      → e ≡ d ++ (b ∷ us) → w ≡ 16 * v + class_of b → Hexes (n + 1) e w

-- an escape and its value: one letter, `\0`, `\x` with two digits, `\u{}` with one to six digits of a scalar value
-- 92 is `\`, 48 is `0`, 120 is `x`, 117 is `u`, 123 is `{`, 125 is `}`
pub data Esc (k : Allowed) : List ℕ → Unescaped → Type 0 where
  letter : (b : ℕ) → (simple_escape_of b ≡ 0 → ⊥) → Esc k (92 ∷ b ∷ []) (Byte (simple_escape_of b))
  nul : allow_nul k ≡ true → Esc k (92 ∷ 48 ∷ []) (Byte 0)
  hex : (a b : ℕ) → class_of a < 16 → class_of b < 16
      → (not (byte_escapes k) && ltb 127 (class_of b + 16 * class_of a)) ≡ false
      → (not (allow_nul k) && eqb (class_of b + 16 * class_of a) 0) ≡ false
      → Esc k (92 ∷ 120 ∷ a ∷ b ∷ []) (Byte (class_of b + 16 * class_of a))
  uni : {n : ℕ} {d t : List ℕ} {v : ℕ} → unicode k ≡ true → Hexes n d v → n ≤ 6
      → (not (allow_nul k) && eqb v 0) ≡ false → is_scalar v ≡ true
      → t ≡ 92 ∷ 117 ∷ 123 ∷ (d ++ (125 ∷ [])) → Esc k t (Unicode v)
