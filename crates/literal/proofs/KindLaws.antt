-- The kind of an accepted reading is that of the `parse` that gave it.
-- Assumes nothing.
use mathlib.Core.Path.{◌≡◌}
use mathlib.Core.List.{List}
use Prim.Native.Nat.{ℕ}
use Rattle.err.specs.Outcome.{Values, accepted}
use Rattle.boolean.specs.Bool.{bool_read}
use Rattle.boolean.proofs.Laws as boolean
use Rattle.escape.specs.declared.Allowed.{Allowed}
use Rattle.integer.specs.Integer.{integer_read}
use Rattle.integer.proofs.Parts as integer
use Rattle.float.specs.Float.{float_read}
use Rattle.float.proofs.Sound as float
use Rattle.character.specs.Single.{char_read, byte_read}
use Rattle.character.proofs.Exact.{char_sound, byte_sound}
use Rattle.string.specs.String.{string_kind, string_read}
use Rattle.string.proofs.Sound as string

pub bool_kind : (s : List ℕ) {k e : ℕ} {vs : Values} → bool_read s ≡ accepted k e vs → k ≡ 1
bool_kind s h = (boolean.sound s h).1

pub integer_kind : (s : List ℕ) {k e : ℕ} {vs : Values} → integer_read s ≡ accepted k e vs → k ≡ 2
integer_kind s h = (integer.sound s _ _ _ h).kind

pub float_kind : (s : List ℕ) {k e : ℕ} {vs : Values} → float_read s ≡ accepted k e vs → k ≡ 3
float_kind s h = (float.sound s _ _ _ h).kind

pub char_kind : (s : List ℕ) {k e : ℕ} {vs : Values} → char_read s ≡ accepted k e vs → k ≡ 4
char_kind s h = (char_sound s h).1

pub byte_kind : (s : List ℕ) {k e : ℕ} {vs : Values} → byte_read s ≡ accepted k e vs → k ≡ 6
byte_kind s h = (byte_sound s h).1

pub string_kind_lem : (k : Allowed) (s : List ℕ) {kind e : ℕ} {vs : Values} → string_read k s ≡ accepted kind e vs → kind ≡ string_kind k
string_kind_lem k s h = (string.sound k s h).0
