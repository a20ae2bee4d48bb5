-- Decoding answers every code, every text and every buffer, and touches no buffer that it refuses.
-- Assumes nothing.
use mathlib.Core.Path.{◌≡◌, refl, subst}
use mathlib.Core.Bool.{Bool, true, false, cond}
use mathlib.Core.Logic.{inl, inr}
use mathlib.Core.List.{List, [], ◌∷◌}
use Prim.Native.Nat.{ℕ, ◌≤◌, ◌<◌}
use native.Mathlib.Omega.{arith}
use borrow.Author.Tests.{leb-true, le-leb, lt-leb}
use lib.Dec.{eqb, leb}
use lib.ListN.{length}
use Rattle.std.specs.Prelude.{Option, Some, None}
use Rattle.err.specs.Outcome.{Place, none, Values, Outcome, refused, accepted}
use Rattle.buffer.specs.Buffer.{over}
use Rattle.scan.proofs.Cases.{cond_in, cond_eq}
use Rattle.utf8.specs.Utf8.{Utf8}
use Rattle.escape.specs.declared.Allowed.{Allowed}
use Rattle.escape.specs.declared.Allowed.TheVariants.{Text, Bytes, C}
use Rattle.string.specs.String.{string_kind, string_read, string_value}
use Rattle.string.specs.Decode.{Decode, returned, written, refusal, of_reading, string_decoded, buffer_of, buffer_after}
use Rattle.string.proofs.Refused.{refused_in}
use Rattle.string.proofs.Values.{value_short}
use Rattle.text_check.specs.Checks.{text_fault}
use Rattle.text_check.proofs.Checks.{long_fault, utf8_fault, no_fault, fault_passed}
use Rattle.literal.specs.Decodes.{checked_decode, checked_buffer, kind_coded, decode_by, decode_buffer_by, decode_at, decode_buffer}
use Rattle.demands.specs.Demand1.{Readable, Decodes, DecodeAnswered, DecodeAnswers}
use Rattle.demands.proofs.Numbered.{text_refused, or_42}

-- ---- codes

pub coded : (k : Allowed) → kind_coded (string_kind k) ≡ Some k
unfolding kind_coded
coded Text = refl
coded Bytes = refl
coded C = refl

uncoded : (code : ℕ) → (Decodes code → ⊥) → kind_coded code ≡ None
unfolding kind_coded
uncoded code n =
    cond_eq P code 5 (λ e. absurd (n (Text, e))) λ _.
    cond_eq P code 7 (λ e. absurd (n (Bytes, e))) λ _.
    cond_eq P code 8 (λ e. absurd (n (C, e))) λ _. refl
  where
    P : Option Allowed → Type 0
    P f = f ≡ None

-- ---- every call is answered

decode_answered : (k : Allowed) (room : ℕ) (s : List ℕ) → length s ≤ 65536 → DecodeAnswered (length s) room (string_decoded k s room)
unfolding string_decoded
decode_answered k room s l = go (string_read k s) refl
  where
    v : List ℕ
    v = string_value k s

    go : (o : Outcome) → string_read k s ≡ o → DecodeAnswered (length s) room (of_reading o v room)
    go (refused n p) h = inl (refused_in k s h)
    go (accepted kind e vs) h =
        cond_in (DecodeAnswered (length s) room) (leb (length v) room) (λ t. (leb-true (length v) room t, value_short k s h, omega (arith, value_short k s h)))
        (λ t. inr (inr (inr (inr (inl refl))), refl))

checked_answered : (k : Allowed) (room : ℕ) (s : List ℕ) → DecodeAnswered (length s) room (checked_decode k s room)
unfolding checked_decode
checked_answered k room s =
    cond_eq (DecodeAnswered (length s) room) (text_fault s) 0 (λ z. decode_answered k room s (fault_passed s z).0)
    (λ z. or_42 (length s) (43 ∷ 44 ∷ 48 ∷ []) (text_fault s) none (text_refused (length s) s (48 ∷ []) z))

answered : (code room : ℕ) (s : List ℕ) → DecodeAnswered (length s) room (decode_at code s room)
unfolding decode_at
answered code room s = go (kind_coded code)
  where
    go : (f : Option Allowed) → DecodeAnswered (length s) room (decode_by f s room)
    go (Some k) = checked_answered k room s
    go None = inr (inl refl, refl)

-- ---- how

bad_code : (code room : ℕ) (s : List ℕ) → (Decodes code → ⊥) → decode_at code s room ≡ refusal 42 none
unfolding decode_at
bad_code code room s n = rw (uncoded code n)

module _ (k : Allowed) (room : ℕ) (s : List ℕ) where
  too_long : 65536 < length s → decode_at (string_kind k) s room ≡ refusal 43 none
  unfolding decode_at checked_decode
  too_long h = rw (coded k, long_fault s h)

  not_utf8 : length s ≤ 65536 → (Utf8 s → ⊥) → decode_at (string_kind k) s room ≡ refusal 44 none
  unfolding decode_at checked_decode
  not_utf8 h n = rw (coded k, utf8_fault s h n)

  pub fine_decode : Readable s → decode_at (string_kind k) s room ≡ string_decoded k s room
  unfolding decode_at checked_decode
  fine_decode f = rw (coded k, no_fault s f.short f.utf8)

  own : {n : ℕ} {p : Place} → Readable s → string_read k s ≡ refused n p → decode_at (string_kind k) s room ≡ refusal n p
  unfolding string_decoded
  own f h = rw (fine_decode f, h)

  module _ {kind e : ℕ} {vs : Values} (f : Readable s) (h : string_read k s ≡ accepted kind e vs) where
    too_small : room < length (string_value k s) → decode_at (string_kind k) s room ≡ refusal 48 none
    unfolding string_decoded
    too_small l = rw (fine_decode f, h, lt-leb (length (string_value k s)) room l)

    decoded : length (string_value k s) ≤ room → decode_at (string_kind k) s room ≡ written (length (string_value k s))
    unfolding string_decoded
    decoded l = rw (fine_decode f, h, le-leb (length (string_value k s)) room l)

pub fine_buffer : (k : Allowed) (s buf : List ℕ) → Readable s → decode_buffer (string_kind k) s buf ≡ buffer_after k s buf
unfolding decode_buffer checked_buffer
fine_buffer k s buf f = rw (coded k, no_fault s f.short f.utf8)

-- ---- the buffer: as it came where the answer is a refusal, else the value over its front

abbrev Held : List ℕ → List ℕ → Decode → List ℕ → Type 0
Held v buf (returned n) after = after ≡ over v buf
Held v buf (refusal n p) after = after ≡ buf

held_reading : (o : Outcome) (v buf : List ℕ) → Held v buf (of_reading o v (length buf)) (buffer_of o v buf)
held_reading (refused n p) v buf = refl
held_reading (accepted kind e vs) v buf = by_test (leb (length v) (length buf))
  where
    by_test : (t : Bool) → Held v buf (cond t (written (length v)) (refusal 48 none)) (cond t (over v buf) buf)
    by_test true = refl
    by_test false = refl

held_checked : (k : Allowed) (s buf : List ℕ) → Held (string_value k s) buf (checked_decode k s (length buf)) (checked_buffer k s buf)
unfolding checked_decode checked_buffer string_decoded buffer_after
held_checked k s buf = by_test (eqb (text_fault s) 0)
  where
    v : List ℕ
    v = string_value k s

    o : Outcome
    o = string_read k s

    by_test : (t : Bool) → Held v buf (cond t (of_reading o v (length buf)) (refusal (text_fault s) none)) (cond t (buffer_of o v buf) buf)
    by_test true = held_reading o v buf
    by_test false = refl

untouched : (code : ℕ) (s buf : List ℕ) {n : ℕ} {p : Place} → decode_at code s (length buf) ≡ refusal n p → decode_buffer code s buf ≡ buf
unfolding decode_at decode_buffer
untouched code s buf {n} {p} = go (kind_coded code)
  where
    go : (f : Option Allowed) → decode_by f s (length buf) ≡ refusal n p → decode_buffer_by f s buf ≡ buf
    go (Some k) h = subst (λ (d : Decode). Held (string_value k s) buf d (checked_buffer k s buf)) h (held_checked k s buf)
    go None h = refl

filled : (k : Allowed) (s buf : List ℕ) {n : ℕ} → decode_at (string_kind k) s (length buf) ≡ written n → decode_buffer (string_kind k) s buf ≡ over (string_value k s) buf
unfolding decode_at decode_buffer
filled k s buf h =
    rw (coded k) (subst (λ (d : Decode). Held (string_value k s) buf d (checked_buffer k s buf)) (rw (coded k) at h) (held_checked k s buf))

pub decode_answers : DecodeAnswers
decode_answers =
    record {
      answered = answered;
      bad_code = bad_code;
      too_long = too_long;
      not_utf8 = not_utf8;
      own = own;
      too_small = too_small;
      decoded = decoded;
      untouched = untouched;
      filled = filled;
    }
