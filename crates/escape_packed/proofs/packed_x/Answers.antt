-- `escape_packed::packed_x` meets its contract.
-- Assumes nothing.
use Rattle.std.proofs.Common.{◌≡◌, sym, ap, ◌∙◌, arith, ℕ, ◌+◌, ◌*◌, true, false, not, ◌&&◌, eqb, ltb}
use Rattle.parse.proofs.Classes.{hex_class}
use Rattle.escape.specs.Allows.{byte_escapes, allow_nul}
use Rattle.escape.specs.declared.Allowed.{Allowed}
use Rattle.escape.specs.declared.Unescaped.TheVariants.{Byte}
use Rattle.escape.specs.Escape.{x_byte}
use Rattle.escape_packed.specs.Packed.{packed_piece, packed_escape}
use Rattle.escape.proofs.Escapes as laws
use Rattle.escape_packed.proofs.packed_x.Goals.{then-s-lt4-via-then-s-lt4, then-s-lt4-via-else-s-lt4+then-not-is_boundary}
use Rattle.escape_packed.proofs.packed_x.Goals as goal

pub returns-then-s-lt4 : goal.returns-then-s-lt4
returns-then-s-lt4 c =
    elim c.then-s-lt4.branch [
      | then-s-lt4-via-then-s-lt4 w ↦ ap packed_escape (laws.x_short _ _ w.if-s-lt4.true)
      | then-s-lt4-via-else-s-lt4+then-not-is_boundary w ↦ ap packed_escape (laws.x_cut _ _ (cc))
    ]

pub returns-in_default : goal.returns-in_default
returns-in_default c = ap packed_escape (laws.x_first _ _ (cc) (cc))

pub returns-in_default-hex_digit_value : goal.returns-in_default-hex_digit_value
returns-in_default-hex_digit_value c = ap packed_escape (laws.x_second _ _ (cc) c.in-Some.a (cc) (cc))

pub overflow_mul-v : goal.overflow_mul-v
overflow_mul-v c =
    omega (arith, hex_class _ _ (sym c.hex_digit_value.ensures ∙ c.in-Some.is), hex_class _ _ (sym c.hex_digit_value-2.ensures ∙ c.in-Some-hex_digit_value.is))

pub overflow_add-v : goal.overflow_add-v
overflow_add-v c =
    omega (arith, hex_class _ _ (sym c.hex_digit_value.ensures ∙ c.in-Some.is), hex_class _ _ (sym c.hex_digit_value-2.ensures ∙ c.in-Some-hex_digit_value.is))

-- the code of an escape by its number
refused_high : (k : Allowed) (v : ℕ) → (not (byte_escapes k) && ltb 127 v) ≡ true → 0 ≡ packed_escape (x_byte k v)
unfolding x_byte
refused_high k v h = rw h

refused_nul : (k : Allowed) (v : ℕ) → (not (byte_escapes k) && ltb 127 v) ≡ false → (not (allow_nul k) && eqb v 0) ≡ true → 0 ≡ packed_escape (x_byte k v)
unfolding x_byte
refused_nul k v h n = rw (h, n)

taken : (k : Allowed) (v : ℕ) → (not (byte_escapes k) && ltb 127 v) ≡ false → (not (allow_nul k) && eqb v 0) ≡ false
    → packed_piece 4 (Byte v) ≡ packed_escape (x_byte k v)
unfolding x_byte
taken k v h n = rw (h, n)

pub returns-then-bars : goal.returns-then-bars
returns-then-bars c =
    refused_high _ (c.in-Some-hex_digit_value.b + 16 * c.in-Some.a) (cc)
    ∙ ap packed_escape (laws.x_value _ _ (cc) c.in-Some.a (cc) c.in-Some-hex_digit_value.b (cc))

pub returns-then-bars-2 : goal.returns-then-bars-2
returns-then-bars-2 c =
    refused_nul _ (c.in-Some-hex_digit_value.b + 16 * c.in-Some.a) (cc) (cc)
    ∙ ap packed_escape (laws.x_value _ _ (cc) c.in-Some.a (cc) c.in-Some-hex_digit_value.b (cc))

pub returns : goal.returns
returns c =
    c.packed_byte.ensures
    ∙ taken _ (c.in-Some-hex_digit_value.b + 16 * c.in-Some.a) (cc) (cc)
    ∙ ap packed_escape (laws.x_value _ _ (cc) c.in-Some.a (cc) c.in-Some-hex_digit_value.b (cc))
