-- A value, a decoding or a settling that is refused with one of litrs's numbers is refused as a reading is; from 42 on there is no span.
-- Assumes nothing.
use mathlib.Core.Path.{◌≡◌, refl, sym, ◌∙◌, subst}
use mathlib.Core.Logic.{◌⊎◌, inl, inr}
use mathlib.Core.List.{List}
use Prim.Native.Nat.{ℕ, ◌+◌, ◌≤◌}
use native.Mathlib.Omega.{arith}
use lib.Dec.{leb}
use lib.ListN.{length, drop}
use Rattle.std.specs.Prelude.{Option, Some, None}
use Rattle.err.specs.Outcome.{Place, none, Outcome, refused, accepted}
use Rattle.err.specs.Answer.{Answer, returned, refusal}
use Rattle.scan.proofs.Cases.{cond_in, cond_eq}
use Rattle.types.specs.Types.{integer_coded}
use Rattle.escape.specs.declared.Allowed.{Allowed}
use Rattle.escape.specs.declared.Allowed.TheVariants.{Text, Bytes, C}
use Rattle.integer.specs.Integer.{base_at, main_part, integer_read}
use Rattle.integer_value.specs.Value.{number, bounded, integer_lit_value}
use Rattle.integer_value.specs.Value as valued
use Rattle.string.specs.String.{string_kind, string_read, string_value}
use Rattle.string.specs.Decode.{of_reading, string_decoded}
use Rattle.grammar.specs.Meaning.{Worth}
use Rattle.grammar.specs.Meaning as worth
use Rattle.form.specs.Form.{form_of, fault_of}
use Rattle.form.specs.Reduced.{reduce}
use Rattle.text_check.specs.Checks.{text_fault}
use Rattle.text_check.proofs.Checks.{fault_passed, fault_is}
use Rattle.literal.specs.Readings.{entry_read, read_at}
use Rattle.digits.specs.Counts.{digit_counts}
use Rattle.keyed.specs.Keyed.{overlong, keyed_at}
use Rattle.literal.specs.Values.{checked_value, largest_in, value_within, value_at}
use Rattle.literal.specs.Decodes.{checked_decode, kind_coded, decode_by, decode_at}
use Rattle.literal.proofs.Answers.{read_own}
use Rattle.form_reading.specs.Worths.{worth_of}
use Rattle.settle.specs.Settled.{FormAnswer, measured, measure_of, measure_at, fitted, settle_at}
use Rattle.demands.specs.Demand1.{Answered, SpanBy, SpanAnswers}
use Rattle.demands.proofs.ReadCall.{read_answers}

-- ---- what a call returns has its span by reading with the code

abbrev Spanned : {A : Type 0} → ℕ → List ℕ → Answer A → Type 0
Spanned code s (returned a) = Unit {0}
Spanned code s (refusal n p) = SpanBy code s n p

module _ (code : ℕ) (s : List ℕ) where
  -- a number that litrs has not
  added : {n : ℕ} → 42 ≤ n → SpanBy code s n none
  added h = ((λ l. absurd (omega arith)), λ _. refl)

  read_none : {n : ℕ} {p : Place} → read_at code s ≡ refused n p → 42 ≤ n → p ≡ none
  read_none {n} {p} h l = go (subst (Answered (length s)) h (read_answers.answered code s))
    where
      go : Answered (length s) (refused n p) → p ≡ none
      go (inl r) = absurd (omega (arith, r.1))
      go (inr r) = r.1

  -- a refusal of the reading itself
  known : {n : ℕ} {p : Place} → read_at code s ≡ refused n p → SpanBy code s n p
  known h = ((λ _. h), read_none h)

  -- 43 and 44
  unread : (text_fault s ≡ 0 → ⊥) → SpanBy code s (text_fault s) none
  unread z = added (go (fault_is s z))
    where
      go : {n : ℕ} → (n ≡ 43) ⊎ (n ≡ 44) → 42 ≤ n
      go (inl e) = omega arith
      go (inr e) = omega arith

  -- what is read is the entry's
  own : code ≤ 8 → text_fault s ≡ 0 → {n : ℕ} {p : Place} → entry_read code s ≡ refused n p → SpanBy code s n p
  own c z h = let f = fault_passed s z in known (read_own code s c f.0 f.1 ∙ h)

-- ---- the value call

value_spanned : (largest : ℕ) (s : List ℕ) → text_fault s ≡ 0 → Spanned 2 s (integer_lit_value largest s)
unfolding integer_lit_value entry_read
value_spanned largest s z = go (integer_read s) refl
  where
    n : ℕ
    n = number (base_at s) (main_part s)

    go : (o : Outcome) → integer_read s ≡ o → Spanned 2 s (valued.of_reading o (bounded largest n))
    go (refused m p) h = own 2 s (omega arith) z h
    go (accepted k e vs) h = cond_in (Spanned {A = ℕ} 2 s) (leb n largest) (λ t. tt) (λ t. added 2 s (omega arith))

value_at_lem : (code : ℕ) (s : List ℕ) → Spanned 2 s (value_at code s)
unfolding value_at checked_value
value_at_lem code s = go (largest_in (integer_coded code))
  where
    go : (l : Option ℕ) → Spanned 2 s (value_within l s)
    go (Some largest) = cond_eq (Spanned {A = ℕ} 2 s) (text_fault s) 0 (value_spanned largest s) (unread 2 s)
    go None = added 2 s (omega arith)

-- ---- decoding

string_entry : (k : Allowed) (s : List ℕ) → (string_kind k ≤ 8) × (entry_read (string_kind k) s ≡ string_read k s)
unfolding entry_read
string_entry Text s = (omega arith, refl)
string_entry Bytes s = (omega arith, refl)
string_entry C s = (omega arith, refl)

string_spanned : (k : Allowed) (s : List ℕ) (room : ℕ) → text_fault s ≡ 0 → Spanned (string_kind k) s (string_decoded k s room)
unfolding string_decoded
string_spanned k s room z = go (string_read k s) refl
  where
    v : List ℕ
    v = string_value k s

    go : (o : Outcome) → string_read k s ≡ o → Spanned (string_kind k) s (of_reading o v room)
    go (refused m p) h = let e = string_entry k s in own (string_kind k) s e.0 z (e.1 ∙ h)
    go (accepted kind e vs) h = cond_in (Spanned {A = ℕ} (string_kind k) s) (leb (length v) room) (λ t. tt) (λ t. added (string_kind k) s (omega arith))

checked_spanned : (k : Allowed) (s : List ℕ) (room : ℕ) → Spanned (string_kind k) s (checked_decode k s room)
unfolding checked_decode
checked_spanned k s room = cond_eq (Spanned {A = ℕ} (string_kind k) s) (text_fault s) 0 (string_spanned k s room) (unread (string_kind k) s)

decode_at_lem : (code : ℕ) (s : List ℕ) (room : ℕ) → Spanned code s (decode_at code s room)
unfolding decode_at kind_coded
decode_at_lem code s room =
    cond_eq P code 5 (of Text) λ _.
    cond_eq P code 7 (of Bytes) λ _.
    cond_eq P code 8 (of C) λ _. added code s (omega arith)
  where
    P : Option Allowed → Type 0
    P f = Spanned code s (decode_by f s room)

    of : (k : Allowed) → code ≡ string_kind k → Spanned code s (checked_decode k s room)
    of k e = subst (λ (c : ℕ). Spanned c s (checked_decode k s room)) (sym e) (checked_spanned k s room)

-- ---- settling

-- 45 or 46
fault_most : (w : Worth) → (fault_of w ≡ 0 → ⊥) → 42 ≤ fault_of w
fault_most = go
  where
    P : ℕ → Type 0
    P f = (f ≡ 0 → ⊥) → 42 ≤ f

    go : (w : Worth) → P (fault_of w)
    go (worth.integer n) = cond_in P (leb n 18446744073709551615) (λ e z. absurd (z refl)) (λ e z. omega arith)
    go (worth.float d) = cond_in P (leb ((reduce d).up + (reduce d).down) 1000000) (λ e z. absurd (z refl)) (λ e z. omega arith)
    go (worth.bool b) = λ z. absurd (z refl)
    go (worth.char c) = λ z. absurd (z refl)
    go (worth.string v) = λ z. absurd (z refl)
    go (worth.byte b) = λ z. absurd (z refl)
    go (worth.byte_string v) = λ z. absurd (z refl)
    go (worth.c_string v) = λ z. absurd (z refl)

measured_spanned : (s : List ℕ) (k : ℕ) (w : Worth) (x : List ℕ) → Spanned 0 s (measured k w x)
unfolding measured
measured_spanned s k w x =
    let P : FormAnswer → Type 0 = Spanned 0 s in
    cond_eq P (fault_of w) 0
    (λ z. cond_in P (leb (length (form_of w x)) 65536) (λ t. tt) (λ t. added 0 s (omega arith)))
    (λ z. added 0 s (fault_most w z))

measure_at_lem : (s : List ℕ) → Spanned 0 s (measure_at s)
unfolding measure_at
measure_at_lem s = go (read_at 0 s) refl
  where
    go : (o : Outcome) → read_at 0 s ≡ o → Spanned 0 s (measure_of s o)
    go (refused n p) h = known 0 s h
    go (accepted k e vs) h = measured_spanned s k (worth_of k s vs) (drop e s)

settle_at_lem : (s : List ℕ) (room : ℕ) → Spanned 0 s (settle_at s room)
unfolding settle_at
settle_at_lem s room = go (measure_at s) (measure_at_lem s)
  where
    go : (r : FormAnswer) → Spanned 0 s r → Spanned 0 s (fitted room r)
    go (returned (k, n)) h = cond_in (Spanned {A = ℕ × ℕ} 0 s) (leb n room) (λ t. tt) (λ t. added 0 s (omega arith))
    go (refusal n p) h = h

-- ---- all calls

-- the keyed entry: entry 0's refusal, with its span, or 53 without one
keyed_at_lem : (s : List ℕ) {n : ℕ} {p : Place} → keyed_at s ≡ refused n p → SpanBy 0 s n p
unfolding keyed_at
keyed_at_lem s {n} {p} =
    cond_in (λ (o : Outcome). o ≡ refused n p → SpanBy 0 s n p) (overlong (digit_counts s (read_at 0 s)))
    (λ t h. let q : n ≡ 53 = cc in let r : p ≡ none = cc in (λ l. absurd (omega arith), λ l. r))
    (λ t h. (λ l. h, read_none 0 s h))

pub span_answers : SpanAnswers
span_answers =
    record {
      value = λ code s h. subst (Spanned {A = ℕ} 2 s) h (value_at_lem code s);
      decode = λ code room s h. subst (Spanned {A = ℕ} code s) h (decode_at_lem code s room);
      settle = λ room s h. subst (Spanned {A = ℕ × ℕ} 0 s) h (settle_at_lem s room);
      read = read_none;
      keyed = λ s. keyed_at_lem s;
    }
