-- What literal uses of the laws of characters and strings: where an accepted one ends, and what its values are.
-- Assumes nothing.
use mathlib.Core.Path.{◌≡◌}
use mathlib.Core.List.{List}
use Prim.Native.Nat.{ℕ, ◌-◌, ◌≤◌, ◌<◌}
use native.Mathlib.Omega.{arith}
use lib.ListN.{length, get_or}
use Rattle.err.specs.Outcome.{Values, accepted, Rawness, not_raw, raw, value, decoded}
use Rattle.escape.specs.declared.Allowed.{Allowed}
use Rattle.character_quote.specs.declared.Quote.{Quote}
use Rattle.character_quote.specs.declared.Quote.TheVariants.{Char, Byte}
use Rattle.character.specs.Single.{char_read, byte_read}
use Rattle.character.specs.Parts.{Tiled}
use Rattle.character.proofs.Exact.{char_sound, byte_sound, tiled_ascii}
use Rattle.string.specs.String.{string_read, string_value}
use Rattle.string.specs.Parts as string
use Rattle.string.proofs.Sound.{sound}
use Rattle.string.proofs.Values.{ends_ascii, value_short}

-- it ends inside the text, after an ASCII byte
abbrev pub Closed : List ℕ → ℕ → Type 0
Closed s e = (1 ≤ e) × (e ≤ length s) × (get_or s (e - 1) 0 < 128)

quote_closed : (q : Quote) (s : List ℕ) {e v : ℕ} → Tiled q s e v → Closed s e
quote_closed q s t = let a = tiled_ascii q s t in (a.0, a.1, omega arith)

pub char_closed : (s : List ℕ) {k e : ℕ} {vs : Values} → char_read s ≡ accepted k e vs → Closed s e × (v : ℕ) × (vs ≡ value v)
char_closed s h = let t = char_sound s h in (quote_closed Char s t.3, t.0, t.2)

pub byte_closed : (s : List ℕ) {k e : ℕ} {vs : Values} → byte_read s ≡ accepted k e vs → Closed s e × (v : ℕ) × (vs ≡ value v)
byte_closed s h = let t = byte_sound s h in (quote_closed Byte s t.3, t.0, t.2)

pub string_closed : (k : Allowed) (s : List ℕ) {kind e : ℕ} {vs : Values} → string_read k s ≡ accepted kind e vs
    → Closed s e × (r : Rawness) × (n : ℕ) × (vs ≡ decoded (record { hashes = r; len = n })) × (n ≤ length s)
string_closed k s {kind} {e} {vs} h = let v = by_parts tiled in (ends_ascii k s (string_value k s) tiled, v.0, v.1, v.2, v.3)
  where
    tiled : string.Tiled k s (string_value k s) e vs
    tiled = (sound k s h).1

    by_parts : string.Tiled k s (string_value k s) e vs → (r : Rawness) × (n : ℕ) × (vs ≡ decoded (record { hashes = r; len = n })) × (n ≤ length s)
    by_parts (string.as_quoted content suf p q is) = (not_raw, length (string_value k s), is, value_short k s h)
    by_parts (string.as_raw suf hs p q is) = (raw hs, length (string_value k s), is, value_short k s h)
