-- What the value call and decoding return, by the reading of their entry.
-- Assumes nothing.
use mathlib.Core.Path.{◌≡◌, refl, sym, ap, ◌∙◌}
use mathlib.Core.Logic.{◌⊎◌, inl, inr, ⊎_elim}
use mathlib.Core.Bool.{Bool, true, false, cond}
use mathlib.Core.List.{List}
use Prim.Native.Nat.{ℕ, ◌≤◌, ◌<◌}
use native.Mathlib.Omega.{arith}
use borrow.Author.Tests.{le-leb}
use lib.Dec.{eqb}
use lib.ListN.{length}
use lib.Seq.{slice}
use Rattle.std.specs.Prelude.{Option, Some, Ok}
use Rattle.err.specs.Outcome.{Place, IntegerValues, Values, digits, Outcome, refused, accepted, none}
use Rattle.err.specs.Reading.{values_of_string, outcome_of}
use Rattle.err.specs.declared.IntegerLit.{IntegerLit}
use Rattle.err.specs.declared.Literal.{Literal}
use Rattle.err.specs.declared.Literal.TheVariants as literal
use Rattle.err.specs.declared.StringLit.{StringLit}
use Rattle.scan.proofs.Cases.{cond_eq}
use Rattle.escape.specs.declared.Allowed.{Allowed}
use Rattle.escape.specs.declared.Allowed.TheVariants.{Text, Bytes, C}
use Rattle.integer.specs.Integer.{base_at, main_part, integer_read}
use Rattle.integer.proofs.Parts.{read_ends}
use Rattle.integer_value.specs.Value.{number, bounded, integer_lit_value}
use Rattle.integer_value.specs.Value as value
use Rattle.integer_value.proofs.Values.{read_value}
use Rattle.string.specs.String.{string_kind, string_read, string_value}
use Rattle.string.specs.Decode.{string_decoded, buffer_of, buffer_after}
use Rattle.string.specs.Decode as decode
use Rattle.types.specs.Types.{integer_coded}
use Rattle.text_check.specs.Checks.{text_fault}
use Rattle.text_check.proofs.Checks.{no_fault}
use Rattle.literal.specs.Readings.{entry_read, read_at}
use Rattle.literal.specs.Values.{checked_value, largest_in, value_at}
use Rattle.literal.specs.Decodes.{checked_decode, checked_buffer, kind_coded, decode_at, decode_buffer}
use Rattle.literal.proofs.Answers.{read_passed, read_kind}

-- what is made of a reading, by the checks
checked : {A : Type 0} (f : Outcome → A) (code : ℕ) (s : List ℕ) → code ≤ 8
    → cond (eqb (text_fault s) 0) (f (entry_read code s)) (f (refused (text_fault s) none)) ≡ f (read_at code s)
unfolding read_at
checked f code s l = rw (le-leb code 8 l) (by_test (eqb (text_fault s) 0))
  where
    by_test : (t : Bool) → cond t (f (entry_read code s)) (f (refused (text_fault s) none)) ≡ f (cond t (entry_read code s) (refused (text_fault s) none))
    by_test true = refl
    by_test false = refl

-- ---- the value call

-- entry 2 reads integers alone
pub integer_alone : (s : List ℕ) (l : Literal) → outcome_of (Ok l) ≡ read_at 2 s → ((i : IntegerLit) → l ≡ literal.Integer i → ⊥) → ⊥
integer_alone s (literal.Bool l) h o = absurd (omega (arith, read_kind 2 s (omega arith) (sym h)))
integer_alone s (literal.Integer l) h o = o l refl
integer_alone s (literal.Float l) h o = absurd (omega (arith, read_kind 2 s (omega arith) (sym h)))
integer_alone s (literal.Char l) h o = absurd (omega (arith, read_kind 2 s (omega arith) (sym h)))
integer_alone s (literal.String l) h o = absurd (omega (arith, read_kind 2 s (omega arith) (sym h)))
integer_alone s (literal.Byte l) h o = absurd (omega (arith, read_kind 2 s (omega arith) (sym h)))
integer_alone s (literal.ByteString l) h o = absurd (omega (arith, read_kind 2 s (omega arith) (sym h)))
integer_alone s (literal.CString l) h o = absurd (omega (arith, read_kind 2 s (omega arith) (sym h)))

-- a code that stands for a type with a largest value
pub value_typed : (code limit : ℕ) (s : List ℕ) → Some limit ≡ largest_in (integer_coded code) → value_at code s ≡ checked_value limit s
unfolding value_at
value_typed code limit s e = rw (← e) refl

module _ (limit : ℕ) (s : List ℕ) where
  -- the reading's refusal comes through
  pub value_read : checked_value limit s ≡ value.of_reading (read_at 2 s) (bounded limit (number (base_at s) (main_part s)))
  unfolding checked_value integer_lit_value entry_read
  value_read = checked (λ o. value.of_reading o (bounded limit (number (base_at s) (main_part s)))) 2 s (omega arith)

  pub value_refused : {n : ℕ} {p : Place} → refused n p ≡ read_at 2 s → value.refusal n p ≡ checked_value limit s
  value_refused h = rw (value_read, ← h) refl

  module _ {k n : ℕ} {d : IntegerValues} (is : read_at 2 s ≡ accepted k n (digits d)) where
    integer_is : integer_read s ≡ accepted k n (digits d)
    unfolding entry_read
    integer_is = (read_passed 2 s is).3

    -- the digits stand inside the text
    pub value_ends : (d.start ≤ d.end) × (d.end ≤ length s)
    value_ends = read_ends s integer_is

    -- and give the value
    pub value_given : bounded limit (number d.base (slice d.start d.end s)) ≡ checked_value limit s
    unfolding checked_value
    value_given = let p = read_passed 2 s is in rw (no_fault s p.1 p.2) (read_value limit s integer_is)

-- ---- decoding

-- the code of a kind with decoded bytes is the kind's number
kind_coded_lem : (code : ℕ) (k : Allowed) → kind_coded code ≡ Some k → code ≡ string_kind k
unfolding kind_coded
kind_coded_lem code k =
    cond_eq P code 5 (is Text) λ _.
    cond_eq P code 7 (is Bytes) λ _.
    cond_eq P code 8 (is C) λ _ h. let z : ◌≡◌ {A = ℕ} 0 1 = cc in absurd (omega arith)
  where
    P : Option Allowed → Type 0
    P f = f ≡ Some k → code ≡ string_kind k

    is : (j : Allowed) → code ≡ string_kind j → P (Some j)
    is j e h = let z : j ≡ k = cc in rw (← z) e

kind_entry : (k : Allowed) (s : List ℕ) → (1 ≤ string_kind k) × (string_kind k ≤ 8) × (entry_read (string_kind k) s ≡ string_read k s)
unfolding entry_read
kind_entry Text s = (omega arith, omega arith, refl)
kind_entry Bytes s = (omega arith, omega arith, refl)
kind_entry C s = (omega arith, omega arith, refl)

-- it is 5, 7 or 8
kind_number : (k : Allowed) → (5 ≤ string_kind k) × (string_kind k ≡ 6 → ⊥)
kind_number Text = (omega arith, λ e. absurd (omega arith))
kind_number Bytes = (omega arith, λ e. absurd (omega arith))
kind_number C = (omega arith, λ e. absurd (omega arith))

module _ (code : ℕ) (k : Allowed) (s : List ℕ) (coded : kind_coded code ≡ Some k) where
  own : (1 ≤ code) × (code ≤ 8) × (entry_read code s ≡ string_read k s)
  own = rw (kind_coded_lem code k coded) (kind_entry k s)

  -- its reading is of the kind
  no_other : {n e : ℕ} {vs : Values} → accepted n e vs ≡ read_at code s → (n < 5) ⊎ (n ≡ 6) → ⊥
  no_other h o =
      let n-is = read_kind code s own.0 (sym h) in
      let five = kind_number k in
      let is = kind_coded_lem code k coded in
      ⊎_elim (λ l. absurd (omega (arith, five.0))) (λ six. five.1 (sym is ∙ sym n-is ∙ six)) o

  -- so it holds a string
  pub string_alone : (l : Literal) → outcome_of (Ok l) ≡ read_at code s → ((x : StringLit) → l ≡ literal.String x → ⊥)
      → ((x : StringLit) → l ≡ literal.ByteString x → ⊥) → ((x : StringLit) → l ≡ literal.CString x → ⊥) → ⊥
  string_alone (literal.Bool l) h t b z = no_other h (inl (omega arith))
  string_alone (literal.Integer l) h t b z = no_other h (inl (omega arith))
  string_alone (literal.Float l) h t b z = no_other h (inl (omega arith))
  string_alone (literal.Char l) h t b z = no_other h (inl (omega arith))
  string_alone (literal.String l) h t b z = t l refl
  string_alone (literal.Byte l) h t b z = no_other h (inr refl)
  string_alone (literal.ByteString l) h t b z = b l refl
  string_alone (literal.CString l) h t b z = z l refl

  of_kind : {n e : ℕ} {vs : Values} → accepted n e vs ≡ read_at code s → accepted (string_kind k) e vs ≡ read_at code s
  of_kind {n} {e} {vs} h = ap (λ (j : ℕ). accepted j e vs) (sym (kind_coded_lem code k coded) ∙ sym (read_kind code s own.0 (sym h))) ∙ h

  pub string_holds : (l : Literal) (x : StringLit) → outcome_of (Ok l) ≡ read_at code s
      → (l ≡ literal.String x) ⊎ ((l ≡ literal.ByteString x) ⊎ (l ≡ literal.CString x))
      → accepted (string_kind k) x.start_suffix (values_of_string x) ≡ read_at code s
  string_holds l x h (inl e) = of_kind (rw e at h)
  string_holds l x h (inr (inl e)) = of_kind (rw e at h)
  string_holds l x h (inr (inr e)) = of_kind (rw e at h)

  -- the reading's refusal comes through
  pub decode_read : (have : ℕ) → decode_at code s have ≡ decode.of_reading (read_at code s) (string_value k s) have
  unfolding decode_at checked_decode string_decoded
  decode_read have = rw (coded, ← own.2) (checked (λ o. decode.of_reading o (string_value k s) have) code s own.1)

  pub buffer_read : (buf : List ℕ) → decode_buffer code s buf ≡ buffer_of (read_at code s) (string_value k s) buf
  unfolding decode_buffer checked_buffer buffer_after
  buffer_read buf = rw (coded, ← own.2) (checked (λ o. buffer_of o (string_value k s) buf) code s own.1)

  pub decode_refused : (buf : List ℕ) {n : ℕ} {p : Place} → refused n p ≡ read_at code s
      → (decode.refusal n p ≡ decode_at code s (length buf)) × (buf ≡ decode_buffer code s buf)
  decode_refused buf h = rw (decode_read (length buf), buffer_read buf, ← h) (refl, refl)

  module _ {e : ℕ} {vs : Values} (is : accepted (string_kind k) e vs ≡ read_at code s) where
    pub string_short : length s ≤ 65536
    string_short = (read_passed code s (sym is)).1

    -- the text is a literal of the kind
    pub string_is : accepted (string_kind k) e vs ≡ string_read k s
    string_is = sym (read_passed code s (sym is)).3 ∙ own.2

    -- and is decoded as one
    pub string_decoded_lem : (have : ℕ) → string_decoded k s have ≡ decode_at code s have
    unfolding decode_at checked_decode
    string_decoded_lem have = let p = read_passed code s (sym is) in rw (coded, no_fault s p.1 p.2)

    pub string_buffer : (buf : List ℕ) → buffer_after k s buf ≡ decode_buffer code s buf
    unfolding decode_buffer checked_buffer
    string_buffer buf = let p = read_passed code s (sym is) in rw (coded, no_fault s p.1 p.2)
