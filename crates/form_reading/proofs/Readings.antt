-- What an accepted reading says of its text: it is short and UTF-8, the kind's own entry accepts it, and its parts stand inside it.
-- Assumes nothing.
use mathlib.Core.Path.{◌≡◌, sym}
use mathlib.Core.Bool.{Bool, true, false}
use mathlib.Core.List.{List}
use Prim.Native.Nat.{ℕ, ◌≤◌}
use native.Mathlib.Omega.{arith}
use lib.ListN.{length}
use Rattle.std.specs.Prelude.{Ok}
use Rattle.err.specs.Outcome.{Values, Outcome, accepted, truth}
use Rattle.err.specs.Reading.{values_of_string, outcome_of}
use Rattle.err.specs.declared.BoolLit.{BoolLit}
use Rattle.err.specs.declared.IntegerLit.{IntegerLit}
use Rattle.err.specs.declared.FloatLit.{FloatLit}
use Rattle.err.specs.declared.CharLit.{CharLit}
use Rattle.err.specs.declared.StringLit.{StringLit}
use Rattle.err.specs.declared.Literal.TheVariants as literal
use Rattle.scan.specs.Same.{same}
use Rattle.scan.proofs.Cases.{cond_in}
use Rattle.scan.proofs.Sames.{same_eq}
use Rattle.utf8.specs.Utf8.{Utf8, Scalar}
use Rattle.escape.specs.declared.Allowed.{Allowed}
use Rattle.escape.specs.declared.Allowed.TheVariants.{Text, Bytes, C}
use Rattle.grammar.specs.Meaning as worth
use Rattle.form.specs.Form.{bare_form}
use Rattle.boolean.specs.Bool.{bool_read, true_text, false_text}
use Rattle.integer.proofs.Suffixed.{never}
use Rattle.integer.proofs.Parts.{read_ends}
use Rattle.float.specs.Float.{float_read}
use Rattle.character.proofs.Values.{char_value}
use Rattle.string.specs.String.{string_kind, string_read}
use Rattle.literal.specs.Readings.{entry_read, read_at}
use Rattle.literal.proofs.Answers.{read_passed, entry_accepted}
use Rattle.literal.proofs.Inside.{entry_inside, start_inside}

-- ---- of every accepted reading

module _ (s : List ℕ) {k e : ℕ} {vs : Values} (is : accepted k e vs ≡ read_at 0 s) where
  pub short : length s ≤ 65536
  short = (read_passed 0 s (sym is)).1

  pub utf8 : Utf8 s
  utf8 = (read_passed 0 s (sym is)).2

  -- the kind's own entry gives it
  pub own : entry_read k s ≡ accepted k e vs
  own = (entry_accepted 0 s (omega arith) (read_passed 0 s (sym is)).3).4

  -- the suffix starts inside the text
  pub start : e ≤ length s
  start = start_inside s e vs (entry_inside 0 s utf8 (omega arith) (read_passed 0 s (sym is)).3).0

-- ---- by kind

-- the three kinds with decoded bytes
abbrev pub string_in : Allowed → StringLit → Outcome
string_in k lit = accepted (string_kind k) lit.start_suffix (values_of_string lit)

-- the text of a bool is its form
bool_form : (s x : List ℕ) (t : Bool) {k e : ℕ} → bool_read s ≡ accepted k e (truth t) → bare_form (worth.bool t) x ≡ s
unfolding bool_read
bool_form s x t {k} {e} =
    cond_in P (same s false_text) (λ q h. let z : t ≡ false = cc in rw (z, same_eq s false_text q))
    (λ q. cond_in P (same s true_text) (λ q h. let z : t ≡ true = cc in rw (z, same_eq s true_text q)) (λ q. never))
  where
    P : Outcome → Type 0
    P o = o ≡ accepted k e (truth t) → bare_form (worth.bool t) x ≡ s

module _ (s : List ℕ) where
  pub bool_text : (lit : BoolLit) (x : List ℕ) → outcome_of (Ok (literal.Bool lit)) ≡ read_at 0 s → bare_form (worth.bool lit.value) x ≡ s
  unfolding entry_read
  bool_text lit x is = bool_form s x lit.value (own s is)

  -- the digits of an integer stand inside the text
  pub integer_ends : (lit : IntegerLit) → outcome_of (Ok (literal.Integer lit)) ≡ read_at 0 s
      → (lit.start_main_part ≤ lit.end_main_part) × (lit.end_main_part ≤ length s)
  unfolding entry_read
  integer_ends lit is = read_ends s (own s is)

  pub float_read_lem : (lit : FloatLit) → outcome_of (Ok (literal.Float lit)) ≡ read_at 0 s → float_read s ≡ outcome_of (Ok (literal.Float lit))
  unfolding entry_read
  float_read_lem lit is = own s is

  pub char_scalar : (lit : CharLit) → outcome_of (Ok (literal.Char lit)) ≡ read_at 0 s → Scalar lit.value
  unfolding entry_read
  char_scalar lit is = char_value s (own s is)

  pub string_read_lem : (k : Allowed) (lit : StringLit) → string_in k lit ≡ read_at 0 s → string_in k lit ≡ string_read k s
  unfolding entry_read
  string_read_lem Text lit is = sym (own s is)
  string_read_lem Bytes lit is = sym (own s is)
  string_read_lem C lit is = sym (own s is)
