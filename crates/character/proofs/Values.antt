-- An accepted char's value is a scalar value, an accepted byte's a byte: litrs's `unwrap_char` and `unwrap_byte` cannot panic.
-- Assumes nothing.
use mathlib.Core.Path.{◌≡◌, refl, sym, subst}
use mathlib.Core.Logic.{inl}
use mathlib.Core.List.{List, [], ◌++◌}
use Prim.Native.Nat.{ℕ, ◌<◌}
use native.Mathlib.Omega.{arith}
use Rattle.err.specs.Outcome.{accepted, value}
use Rattle.scan.proofs.Cases.{clash}
use Rattle.utf8.specs.Utf8.{Scalar}
use Rattle.utf8.specs.Cut.{continuation}
use Rattle.escape.specs.Pieces.{Esc}
use Rattle.escape.specs.declared.Allowed.{Allowed}
use Rattle.escape.specs.declared.Unescaped.{Unescaped}
use Rattle.escape.specs.declared.Unescaped.TheVariants as unescaped
use Rattle.escape.proofs.Values.{Unwraps, EscapeUnwraps, escape_unwraps}
use Rattle.escape.proofs.Exact.{escaped}
use Rattle.character_quote.specs.Quote.{allowed_in, ValueFits}
use Rattle.character_quote.specs.declared.Quote.{Quote}
use Rattle.character_quote.specs.declared.Quote.TheVariants.{Char, Byte}
use Rattle.character.specs.Single.{scalar_of, char_read, byte_read, read_by}
use Rattle.character.specs.Parts.{Content, char, byte, escape}
use Rattle.character.proofs.Exact.{no_kind, char_sound, byte_sound}

unwraps : (k : Allowed) {t : List ℕ} {u : Unescaped} → Esc k t u → Unwraps k u
unfolding continuation
unwraps k {t} x = subst (EscapeUnwraps k) (escaped k [] x refl) (escape_unwraps k (t ++ []))

of_char : {c : List ℕ} {v : ℕ} → Content Char c v → Scalar v
of_char (char q sc p is) = sc
of_char (byte q h p is) = absurd (no_kind q)
of_char (escape u x is) = rw is (worth u (unwraps (allowed_in Char) x))
  where
    worth : (u : Unescaped) → Unwraps (allowed_in Char) u → Scalar (scalar_of u)
    worth unescaped.Nothing h = absurd h
    worth (unescaped.Byte b) h = inl (omega (arith, h.1 refl))
    worth (unescaped.Unicode c) h = h.0

of_byte : {c : List ℕ} {v : ℕ} → Content Byte c v → v < 256
of_byte (char q sc p is) = absurd (no_kind (sym q))
of_byte (byte q h p is) = omega arith
of_byte (escape u x is) = rw is (worth u (unwraps (allowed_in Byte) x))
  where
    worth : (u : Unescaped) → Unwraps (allowed_in Byte) u → scalar_of u < 256
    worth unescaped.Nothing h = absurd h
    worth (unescaped.Byte b) h = h.0
    worth (unescaped.Unicode c) h = clash h.1 refl

pub char_value : (s : List ℕ) {k start v : ℕ} → char_read s ≡ accepted k start (value v) → Scalar v
char_value s {v = v} e =
    let (w, k, is, t) = char_sound s e in
    let same : v ≡ w = cc in
    rw same (of_char t.is)

pub byte_value : (s : List ℕ) {k start v : ℕ} → byte_read s ≡ accepted k start (value v) → v < 256
byte_value s {v = v} e =
    let (w, k, is, t) = byte_sound s e in
    let same : v ≡ w = cc in
    rw same (of_byte t.is)

-- so it fits its kind
pub value_fits : (q : Quote) (s : List ℕ) {k start v : ℕ} → read_by q s ≡ accepted k start (value v) → ValueFits q v
value_fits Char s e = tt
value_fits Byte s e = byte_value s e
