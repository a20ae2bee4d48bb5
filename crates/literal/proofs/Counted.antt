-- A reading that is no number has no counts of digits.
-- Assumes nothing.
use mathlib.Core.Path.{◌≡◌, refl, ap, sym, ◌∙◌}
use mathlib.Core.List.{List, []}
use Prim.Native.Nat.{ℕ, ◌<◌}
use mathlib.Core.Logic.{◌⊎◌, inl, inr}
use native.Mathlib.Omega.{arith}
use Rattle.err.specs.Outcome.{Place, Values, Outcome, refused, accepted}
use Rattle.std.specs.Prelude.{Ok, Err}
use Rattle.err.specs.Reading.{Reading, outcome_of}
use Rattle.err.specs.Counts.{no_counts, counts_of}
use Rattle.err.specs.declared.Literal.TheVariants as literal
use Rattle.digits.specs.Counts.{digit_counts}
use Rattle.boolean.specs.Bool.{bool_read}
use Rattle.escape.specs.declared.Allowed.{Allowed}
use Rattle.escape.specs.declared.Allowed.TheVariants.{Text, Bytes, C}
use Rattle.character_quote.specs.declared.Quote.{Quote}
use Rattle.character_quote.specs.declared.Quote.TheVariants.{Char, Byte}
use Rattle.character.specs.Single.{read_by}
use Rattle.string.specs.String.{string_kind, string_read}
use Rattle.integer.proofs.Suffixed.{never}
use Rattle.literal.proofs.KindLaws.{bool_kind, char_kind, byte_kind, string_kind_lem}

-- a kind of no number
abbrev NoNumber : ℕ → Type 0
NoNumber k = (k ≡ 1) ⊎ (3 < k)

no_number : {P : Type 0} {k : ℕ} → NoNumber k → (k ≡ 2) ⊎ (k ≡ 3) → P
no_number (inl a) (inl b) = absurd (omega arith)
no_number (inl a) (inr b) = absurd (omega arith)
no_number (inr a) (inl b) = absurd (omega arith)
no_number (inr a) (inr b) = absurd (omega arith)

by_case : (r : Reading) (s : List ℕ) → ((k e : ℕ) (vs : Values) → outcome_of r ≡ accepted k e vs → NoNumber k) → counts_of r ≡ digit_counts s (outcome_of r)
by_case (Err x) s h = refl
by_case (Ok (literal.Bool l)) s h = refl
by_case (Ok (literal.Integer l)) s h = no_number (h _ _ _ refl) (inl refl)
by_case (Ok (literal.Float l)) s h = no_number (h _ _ _ refl) (inr refl)
by_case (Ok (literal.Char l)) s h = refl
by_case (Ok (literal.String l)) s h = refl
by_case (Ok (literal.Byte l)) s h = refl
by_case (Ok (literal.ByteString l)) s h = refl
by_case (Ok (literal.CString l)) s h = refl

-- of what a text is read as
uncounted : (r : Reading) (s : List ℕ) (o : Outcome) → ((k e : ℕ) (vs : Values) → o ≡ accepted k e vs → NoNumber k) → outcome_of r ≡ o → counts_of r ≡ digit_counts s o
uncounted r s o h e = by_case r s (λ k f vs g. h k f vs (sym e ∙ g)) ∙ ap (digit_counts s) e

pub refused_counts : (r : Reading) {n : ℕ} {p : Place} → outcome_of r ≡ refused n p → counts_of r ≡ no_counts
refused_counts r {n} {p} e = uncounted r [] (refused n p) (λ k f vs. never) e

pub bool_counts : (r : Reading) (s : List ℕ) → outcome_of r ≡ bool_read s → counts_of r ≡ digit_counts s (bool_read s)
bool_counts r s = uncounted r s (bool_read s) (λ k e vs h. inl (bool_kind s h))

pub quote_counts : (q : Quote) (r : Reading) (s : List ℕ) → outcome_of r ≡ read_by q s → counts_of r ≡ digit_counts s (read_by q s)
quote_counts Char r s = uncounted r s (read_by Char s) (λ k e vs h. inr (omega (arith, char_kind s h)))
quote_counts Byte r s = uncounted r s (read_by Byte s) (λ k e vs h. inr (omega (arith, byte_kind s h)))

string_high : (k : Allowed) → 3 < string_kind k
string_high Text = omega arith
string_high Bytes = omega arith
string_high C = omega arith

pub string_counts : (k : Allowed) (r : Reading) (s : List ℕ) → outcome_of r ≡ string_read k s → counts_of r ≡ digit_counts s (string_read k s)
string_counts k r s = uncounted r s (string_read k s) (λ kind e vs h. inr (omega (arith, string_kind_lem k s h, string_high k)))
