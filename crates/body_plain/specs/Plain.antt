-- The bytes that stand for themselves in a quoted body (litrs's escape.rs, `unescape_string`).
-- Assumes nothing.
use Rattle.std.specs.Prelude.{ℕ, Bool, true, false, cond, eqb, ltb}
use Rattle.escape.specs.Allows.{unicode, allow_nul}
use Rattle.escape.specs.declared.Allowed.{Allowed}
use Rattle.body_plain.specs.declared.Plain.{Plain}

-- the last arm of `unescape_string`'s loop, `_ => i += 1`: a byte that stands for itself (in a quoted body: `body`, proofs/Runs; in a raw one: law `raw_plain_step` of `raw`)
-- 92 is `\`, 13 is CR, 34 is `"`
unfoldable pub plain_byte : Allowed → ℕ → Bool
plain_byte k b =
    cond (eqb b 92) false
    (cond (eqb b 13) false
    (cond (eqb b 34) false
    (cond (eqb b 0) (allow_nul k) (cond (ltb 127 b) (unicode k) true))))

-- the set as the code has it
abbrev pub in_plain : Plain → ℕ → Bool
in_plain p = plain_byte p.0
