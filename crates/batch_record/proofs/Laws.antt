-- What a decoding or a settling into a lent buffer wrote ends inside it, and is the form.
-- Assumes nothing.
use mathlib.Core.Path.{◌≡◌, sym}
use mathlib.Core.List.{List}
use Rattle.std.specs.Prelude.{Option, Some, None}
use Prim.Native.Nat.{ℕ, ◌≤◌}
use native.Mathlib.Omega.{arith}
use borrow.Author.Tests.{leb-true}
use lib.Dec.{eqb, leb}
use lib.ListN.{length, take, drop}
use lib.Seq.{take_at}
use Rattle.err.specs.Outcome.{Place, Outcome, refused, accepted}
use Rattle.scan.proofs.Cases.{cond_in}
use Rattle.buffer.specs.Buffer.{over}
use Rattle.form.specs.Form.{fault_of}
use Rattle.form_reading.specs.Worths.{worth_of}
use Rattle.text_check.specs.Checks.{text_fault}
use Rattle.string.specs.String.{string_read, string_value}
use Rattle.string.specs.Decode.{Decode, written, refusal, of_reading, string_decoded}
use Rattle.literal.specs.Readings.{read_at}
use Rattle.literal.specs.Decodes.{checked_decode, kind_coded, decode_by, decode_at}
use Rattle.settle.specs.Settled as settled
use Rattle.settle.proofs.Forms.{no_form, same_form}

-- ---- decoding

no_written {ℓ} : {A : Type ℓ} {n m : ℕ} {p : Place} → refusal m p ≡ written n → A
no_written e = let z : ◌≡◌ {A = ℕ} 0 1 = cc in absurd (omega arith)

pub decoded_fits : (code : ℕ) (s : List ℕ) (room : ℕ) {n : ℕ} → decode_at code s room ≡ written n → n ≤ room
unfolding decode_at checked_decode string_decoded
decoded_fits code s room {n} = by_kind (kind_coded code)
  where
    P : Decode → Type 0
    P d = d ≡ written n → n ≤ room

    by_reading : (o : Outcome) (v : List ℕ) → P (of_reading o v room)
    by_reading (refused m p) v = no_written
    by_reading (accepted k e vs) v = cond_in P (leb (length v) room) (λ t e. let z : length v ≡ n = cc in omega (arith, leb-true (length v) room t)) (λ t. no_written)

    by_kind : (f : Option _) → P (decode_by f s room)
    by_kind (Some k) = cond_in P (eqb (text_fault s) 0) (λ t. by_reading (string_read k s) (string_value k s)) (λ t. no_written)
    by_kind None = no_written

-- ---- settling

-- a form that was written has the length that is told, and fits
abbrev RefusedWithin : ℕ → List ℕ → settled.FormAnswer → ℕ → ℕ → Type 0
RefusedWithin room form a k n = a ≡ settled.formed k n → (n ≤ room) × (n ≡ length form)

settled_is : (s : List ℕ) (room k n : ℕ) → RefusedWithin room (settled.form_at s) (settled.settle_at s room) k n
unfolding settled.settle_at settled.measure_at settled.measured settled.form_at
settled_is s room k n = by_reading (read_at 0 s)
  where
    by_reading : (o : Outcome) → RefusedWithin room (settled.form_by s o) (settled.fitted room (settled.measure_of s o)) k n
    by_reading (refused m p) = no_form
    by_reading (accepted kind e vs) =
        cond_in P (eqb (fault_of (worth_of kind s vs)) 0)
        (λ _. cond_in P (leb (length f) 65536)
        (λ _. cond_in Q (leb (length f) room) (λ t (z : settled.formed kind (length f) ≡ settled.formed k n). let g = (same_form z).1 in (omega (arith, g, leb-true (length f) room t), sym g)) (λ _. no_form)) (λ _. no_form))
        (λ _. no_form)
      where
        f : List ℕ
        f = settled.form_by s (accepted kind e vs)

        Q : settled.FormAnswer → Type 0
        Q a = RefusedWithin room f a k n

        P : settled.FormAnswer → Type 0
        P a = Q (settled.fitted room a)

pub settled_fits : (s : List ℕ) (room : ℕ) {k n : ℕ} → settled.settle_at s room ≡ settled.formed k n → n ≤ room
settled_fits s room {k} {n} e = (settled_is s room k n e).0

-- the form is what was written
pub form_written : (s buf : List ℕ) {k n : ℕ} → settled.settle_at s (length buf) ≡ settled.formed k n → take n (settled.settle_buffer s buf) ≡ settled.form_at s
unfolding settled.settle_buffer over
form_written s buf {k} {n} e = rw e (take_at (settled.form_at s) (drop (length (settled.form_at s)) buf) n (sym (settled_is s (length buf) k n e).1))
