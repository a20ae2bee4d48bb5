-- `literal::entry` meets its contract.
-- Assumes nothing.
use borrow.Author.Rules.{rules}
use mathlib.Core.Path.{◌≡◌, refl, ap, sym, ◌∙◌}
use Rattle.std.specs.Prelude.{Result, Ok, Err}
use mathlib.Core.List.{List}
use mathlib.Core.Logic.{◌⊎◌, inl, inr}
use Prim.Native.Nat.{ℕ}
use Rattle.err.specs.declared.Kind.{Kind}
use Rattle.err.specs.declared.Kind.TheVariants as kind
use Rattle.digits.specs.Counts.{digit_counts}
use Rattle.character.specs.Single.{read_by}
use Rattle.string.specs.String.{string_read}
use Rattle.literal.specs.Readings.{quote_in, allowed_in}
use Rattle.escape.specs.declared.Allowed.{Allowed}
use Rattle.escape.specs.declared.Allowed.TheVariants.{Text, Bytes, C}
use Rattle.character_quote.specs.declared.Quote.{Quote}
use Rattle.character_quote.specs.declared.Quote.TheVariants.{Char, Byte}
use Rattle.err.specs.Counts.{counts_of}
use Rattle.err.specs.Reading.{Reading, outcome_of}
use Rattle.err.specs.declared.Literal.TheVariants as literal
use Rattle.literal.proofs.Counted.{bool_counts, quote_counts, string_counts}
use Rattle.literal.proofs.Dispatch.{by_kind, kind_read, kind_known}
use Rattle.literal.proofs.entry.Goals as goal

pub returns-in_default-clause-outcome : goal.returns-in_default-clause-outcome
returns-in_default-clause-outcome c =
    c.perr_nowhere.ensures ∙ (ap (λ (k : Result Kind ℕ). by_kind k c.args.text.now) (sym c.in_default.is) ∙ kind_read _ _ c.args.text.now c.requires.0 c.chosen.ensures.number c.chosen.ensures.none)

pub returns-in_default-clause-counts : goal.returns-in_default-clause-counts
returns-in_default-clause-counts c =
    rw (← kind_read _ _ c.args.text.now c.requires.0 c.chosen.ensures.number c.chosen.ensures.none, c.in_default.is) refl

-- char and byte: what the one call for both kinds reads is what the kind that was chosen reads
quoted : (k : Kind) (s : List ℕ) (r : Reading) → (k ≡ kind.Char) ⊎ (k ≡ kind.Byte) → outcome_of r ≡ read_by (quote_in k) s
    → (outcome_of r ≡ by_kind (Ok k) s) × (counts_of r ≡ digit_counts s (by_kind (Ok k) s))
quoted k s r (inl e) h = let h' : outcome_of r ≡ read_by Char s = rw e at h in rw e (h', quote_counts Char r s h')
quoted k s r (inr e) h = let h' : outcome_of r ≡ read_by Byte s = rw e at h in rw e (h', quote_counts Byte r s h')

-- string, byte string and C string likewise
stringed : (k : Kind) (s : List ℕ) (r : Reading) → (k ≡ kind.String) ⊎ ((k ≡ kind.ByteString) ⊎ (k ≡ kind.CString)) → outcome_of r ≡ string_read (allowed_in k) s
    → (outcome_of r ≡ by_kind (Ok k) s) × (counts_of r ≡ digit_counts s (by_kind (Ok k) s))
stringed k s r (inl e) h = let h' : outcome_of r ≡ string_read Text s = rw e at h in rw e (h', string_counts Text r s h')
stringed k s r (inr (inl e)) h = let h' : outcome_of r ≡ string_read Bytes s = rw e at h in rw e (h', string_counts Bytes r s h')
stringed k s r (inr (inr e)) h = let h' : outcome_of r ≡ string_read C s = rw e at h in rw e (h', string_counts C r s h')

pub returns-in_err-parse-in-Bool-clause-outcome : goal.returns-in_err-parse-in-Bool-clause-outcome
returns-in_err-parse-in-Bool-clause-outcome c =
    let gone : c.from_residual.result ≡ Err c.in_err-parse-in-Bool.field-0.0 = search rules in
    rw gone (c.in_err-parse-in-Bool.ensures ∙ kind_known _ _ _ c.args.text.now c.requires.0 c.chosen.ensures.number c.chosen.ensures.none (c.in-Ok.is ∙ ap Ok c.in-Bool.is))

pub returns-in_err-parse-in-Bool-clause-counts : goal.returns-in_err-parse-in-Bool-clause-counts
returns-in_err-parse-in-Bool-clause-counts c =
    let gone : c.from_residual.result ≡ Err c.in_err-parse-in-Bool.field-0.0 = search rules in
    rw (gone, ← kind_known _ _ _ c.args.text.now c.requires.0 c.chosen.ensures.number c.chosen.ensures.none (c.in-Ok.is ∙ ap Ok c.in-Bool.is)) (bool_counts (Err c.in_err-parse-in-Bool.field-0.0) _ c.in_err-parse-in-Bool.ensures)

pub returns-in_ok-parse-in-Bool-clause-outcome : goal.returns-in_ok-parse-in-Bool-clause-outcome
returns-in_ok-parse-in-Bool-clause-outcome c = c.in_ok-parse-in-Bool.ensures ∙ kind_known _ _ _ c.args.text.now c.requires.0 c.chosen.ensures.number c.chosen.ensures.none (c.in-Ok.is ∙ ap Ok c.in-Bool.is)

pub returns-in_ok-parse-in-Bool-clause-counts : goal.returns-in_ok-parse-in-Bool-clause-counts
returns-in_ok-parse-in-Bool-clause-counts c =
    rw (← kind_known _ _ _ c.args.text.now c.requires.0 c.chosen.ensures.number c.chosen.ensures.none (c.in-Ok.is ∙ ap Ok c.in-Bool.is)) (bool_counts (Ok (literal.Bool c.in_ok-parse-in-Bool.field-0)) _ c.in_ok-parse-in-Bool.ensures)

pub returns-in_err-parse-in-Integer : goal.returns-in_err-parse-in-Integer
returns-in_err-parse-in-Integer c =
    let gone : c.from_residual-in_err-parse-in-Integer.result ≡ Err c.in_err-parse-in-Integer.field-0.0 = search rules in
    rw (gone, ← kind_known _ _ _ c.args.text.now c.requires.0 c.chosen.ensures.number c.chosen.ensures.none (c.in-Ok.is ∙ ap Ok c.in-Integer.is)) c.in_err-parse-in-Integer.ensures

pub returns-in_ok-parse-in-Integer : goal.returns-in_ok-parse-in-Integer
returns-in_ok-parse-in-Integer c =
    rw (← kind_known _ _ _ c.args.text.now c.requires.0 c.chosen.ensures.number c.chosen.ensures.none (c.in-Ok.is ∙ ap Ok c.in-Integer.is)) c.in_ok-parse-in-Integer.ensures

pub returns-in_err-parse-in-Float : goal.returns-in_err-parse-in-Float
returns-in_err-parse-in-Float c =
    let gone : c.from_residual-in_err-parse-in-Float.result ≡ Err c.in_err-parse-in-Float.field-0.0 = search rules in
    rw (gone, ← kind_known _ _ _ c.args.text.now c.requires.0 c.chosen.ensures.number c.chosen.ensures.none (c.in-Ok.is ∙ ap Ok c.in-Float.is)) c.in_err-parse-in-Float.ensures

pub returns-in_ok-parse-in-Float : goal.returns-in_ok-parse-in-Float
returns-in_ok-parse-in-Float c =
    rw (← kind_known _ _ _ c.args.text.now c.requires.0 c.chosen.ensures.number c.chosen.ensures.none (c.in-Ok.is ∙ ap Ok c.in-Float.is)) c.in_ok-parse-in-Float.ensures

pub returns-in-Char-clause-outcome : goal.returns-in-Char-clause-outcome
returns-in-Char-clause-outcome c =
    let s = c.args.text.now in
    (quoted c.in-Ok.kind s _ c.in-Char.is (c.parse-in-Char.ensures ∙ ap (λ (q : Quote). read_by q s) c.quote_of.ensures)).0
    ∙ kind_known _ _ _ s c.requires.0 c.chosen.ensures.number c.chosen.ensures.none c.in-Ok.is

pub returns-in-Char-clause-counts : goal.returns-in-Char-clause-counts
returns-in-Char-clause-counts c =
    let s = c.args.text.now in
    rw (← kind_known _ _ _ s c.requires.0 c.chosen.ensures.number c.chosen.ensures.none c.in-Ok.is)
    (quoted c.in-Ok.kind s _ c.in-Char.is (c.parse-in-Char.ensures ∙ ap (λ (q : Quote). read_by q s) c.quote_of.ensures)).1

pub returns-in-String-clause-outcome : goal.returns-in-String-clause-outcome
returns-in-String-clause-outcome c =
    let s = c.args.text.now in
    (stringed c.in-Ok.kind s _ c.in-String.is (c.parse-in-String.ensures ∙ ap (λ (k : Allowed). string_read k s) c.allowed_of.ensures)).0
    ∙ kind_known _ _ _ s c.requires.0 c.chosen.ensures.number c.chosen.ensures.none c.in-Ok.is

pub returns-in-String-clause-counts : goal.returns-in-String-clause-counts
returns-in-String-clause-counts c =
    let s = c.args.text.now in
    rw (← kind_known _ _ _ s c.requires.0 c.chosen.ensures.number c.chosen.ensures.none c.in-Ok.is)
    (stringed c.in-Ok.kind s _ c.in-String.is (c.parse-in-String.ensures ∙ ap (λ (k : Allowed). string_read k s) c.allowed_of.ensures)).1
