-- The parts of an accepted reading and its suffix follow one another inside the text, on character boundaries, and its decoded value is no
-- longer than the text.
-- Assumes nothing.
use mathlib.Core.Path.{◌≡◌, refl, sym, ◌∙◌}
use mathlib.Core.List.{List, ◌++◌, append_assoc}
use Prim.Native.Nat.{ℕ, zero, suc, ◌+◌, ◌-◌, ◌≤◌}
use native.Mathlib.Omega.{arith}
use lib.ListN.{length, length-append}
use Rattle.err.specs.Outcome.{Values, accepted, truth, digits, ends, value, decoded}
use Rattle.scan.proofs.Runs.{all_append}
use Rattle.utf8.specs.Utf8.{Utf8, Boundary}
use Rattle.utf8.proofs.Text.{ascii_next, boundary_end, boundary_le}
use Rattle.boolean.specs.Bool.{bool_read}
use Rattle.boolean.proofs.Laws as boolean
use Rattle.escape.specs.declared.Allowed.{Allowed}
use Rattle.escape.specs.declared.Allowed.TheVariants.{Text, Bytes, C}
use Rattle.integer.specs.Integer.{integer_read}
use Rattle.integer.specs.Parts.{dec}
use Rattle.integer.proofs.Parts as integer
use Rattle.float.specs.Float.{float_read}
use Rattle.float.proofs.Sound as float
use Rattle.character.specs.Single.{char_read, byte_read}
use Rattle.string.specs.String.{string_read}
use Rattle.literal.specs.Inside.{offsets, OnBoundaries, Rising, NoLonger}
use Rattle.literal.specs.Readings.{entry_read}
use Rattle.literal.proofs.Quoted.{Closed, char_closed, byte_closed, string_closed}
use Rattle.literal.proofs.Entries.{by_code, own_entry}
use Rattle.literal.proofs.Lows.{low, low_boundary, low_digits, low_prefix, low_fraction, low_exponent}

-- all that is said of the offsets and the value of a reading
abbrev pub Inside : List ℕ → ℕ → Values → Type 0
Inside s e vs = OnBoundaries s (offsets e vs) × Rising (offsets e vs) × NoLonger (length s) vs

-- after an ASCII byte
closed_boundary : (s : List ℕ) (e : ℕ) → Utf8 s → Closed s e → Boundary s e
closed_boundary s e u c =
    let q : suc (e - 1) ≡ e = omega arith in
    rw q at (ascii_next s u (e - 1) (omega arith) c.2)

module _ (s : List ℕ) (u : Utf8 s) {k e : ℕ} {vs : Values} where
  bool_inside : bool_read s ≡ accepted k e vs → Inside s e vs
  bool_inside h = let t = boolean.sound s h in rw (t.4, t.2) ((boundary_end s u, tt), tt, tt)

  integer_inside : integer_read s ≡ accepted k e vs → Inside s e vs
  integer_inside h =
      let t = integer.sound s k e vs h in
      let p = low_prefix t.parts.prefix in
      let m = low_digits t.parts.prefix t.main t.parts.digits in
      let a : Boundary s (length t.pre) = low_boundary s t.pre (t.main ++ t.suf) u t.text p refl in
      let z : Boundary s e =
      low_boundary s (t.pre ++ t.main) t.suf u (t.text ∙ sym (append_assoc t.pre t.main t.suf)) (all_append low t.pre t.main p m)
      (length-append t.pre t.main ∙ sym t.end) in
      rw t.values ((a, (z, (z, tt))), (omega (arith, t.end), (omega arith, tt)), tt)

  float_inside : float_read s ≡ accepted k e vs → Inside s e vs
  float_inside h =
      let t = float.sound s k e vs h in
      let w = low_digits dec t.whole t.parts.digits in
      let f = all_append low t.whole t.frac w (low_fraction t.frac t.parts.fraction) in
      let x = all_append low (t.whole ++ t.frac) t.ex f (low_exponent t.ex t.parts.exponent) in
      let l = length-append t.whole t.frac in
      let q = t.text ∙ sym (append_assoc t.whole t.frac (t.ex ++ t.suf)) in
      let i : Boundary s (length t.whole) = low_boundary s t.whole (t.frac ++ (t.ex ++ t.suf)) u t.text w refl in
      let j : Boundary s (length t.whole + length t.frac) = low_boundary s (t.whole ++ t.frac) (t.ex ++ t.suf) u q f l in
      let z : Boundary s e =
      low_boundary s ((t.whole ++ t.frac) ++ t.ex) t.suf u (q ∙ sym (append_assoc (t.whole ++ t.frac) t.ex t.suf)) x
      (length-append (t.whole ++ t.frac) t.ex ∙ omega (arith, t.start)) in
      rw t.values ((i, (j, (z, (z, tt)))), (omega arith, (omega (arith, t.start), (omega arith, tt))), tt)

  char_inside : char_read s ≡ accepted k e vs → Inside s e vs
  char_inside h = let c = char_closed s h in rw c.2 ((closed_boundary s e u c.0, tt), tt, tt)

  byte_inside : byte_read s ≡ accepted k e vs → Inside s e vs
  byte_inside h = let c = byte_closed s h in rw c.2 ((closed_boundary s e u c.0, tt), tt, tt)

  string_inside : (kind : Allowed) → string_read kind s ≡ accepted k e vs → Inside s e vs
  string_inside kind h = let c = string_closed kind s h in rw c.3 ((closed_boundary s e u c.0, tt), tt, c.4)

  kind_inside : (code : ℕ) → 1 ≤ code → code ≤ 8 → entry_read code s ≡ accepted k e vs → Inside s e vs
  unfolding entry_read
  kind_inside =
      by_code (λ c. entry_read c s ≡ accepted k e vs → Inside s e vs)
      bool_inside integer_inside float_inside char_inside (string_inside Text) byte_inside (string_inside Bytes) (string_inside C)

-- THE LAW: of what an entry accepts in a UTF-8 text
pub entry_inside : (code : ℕ) (s : List ℕ) {k e : ℕ} {vs : Values} → Utf8 s → code ≤ 8 → entry_read code s ≡ accepted k e vs → Inside s e vs
unfolding entry_read
entry_inside zero s {k} u l h = let o = own_entry s h in kind_inside s u k o.0 o.1 o.2
entry_inside (suc code) s u l h = kind_inside s u (suc code) (omega arith) l h

-- the suffix starts inside the text
pub start_inside : (s : List ℕ) (e : ℕ) (vs : Values) → OnBoundaries s (offsets e vs) → e ≤ length s
start_inside s e (truth t) b = boundary_le s e b.0
start_inside s e (digits d) b = boundary_le s e b.1.1.0
start_inside s e (ends z) b = boundary_le s e b.1.1.1.0
start_inside s e (value v) b = boundary_le s e b.0
start_inside s e (decoded v) b = boundary_le s e b.0
