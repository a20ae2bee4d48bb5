-- Settling, measuring and the entry for C answer every text.
-- Assumes nothing.
use mathlib.Core.Path.{◌≡◌, refl, ap, ◌∙◌, sym}
use mathlib.Core.Logic.{inl, inr}
use mathlib.Core.List.{List, [], ◌∷◌}
use Prim.Native.Nat.{ℕ, ◌+◌, ◌≤◌}
use native.Mathlib.Omega.{arith}
use borrow.Author.Tests.{leb-true, le-leb}
use lib.Dec.{leb}
use lib.ListN.{length, drop}
use Rattle.err.specs.Outcome.{Place, none, Outcome, refused, accepted}
use Rattle.scan.proofs.Cases.{cond_in, cond_eq}
use Rattle.buffer.specs.Buffer.{over}
use Rattle.grammar.specs.Meaning.{Worth}
use Rattle.grammar.specs.Meaning as worth
use Rattle.form.specs.Form.{form_of, fault_of}
use Rattle.form.specs.Reduced.{reduce}
use Rattle.literal.specs.Readings.{read_at}
use Rattle.digits.specs.Counts.{digit_counts}
use Rattle.form_reading.specs.Worths.{worth_of}
use Rattle.settle.proofs.Forms.{same_form}
use Rattle.settle.specs.Settled.{FormAnswer, returned, formed, refusal, measured, measure_of, measure_at, fitted, settle_at, form_by, form_at, settle_buffer}
use Rattle.integer_value.specs.Value.{Valued}
use Rattle.numbers.specs.Numbers.{reading_numbers}
use Rattle.c_api.specs.ReturnValue.{return_value, value_after}
use Rattle.demands.specs.Demand1.{SettleAnswered, SettleAnswers, NumberAnswers}
use Rattle.demands.proofs.ReadCall.{Coded, coded}

-- ---- the measure

-- what a measure says of a text of m bytes with the form f
abbrev Measure : ℕ → List ℕ → FormAnswer → Type 0
Measure m f (returned (k, n)) = (1 ≤ k) × (k ≤ 8) × (n ≤ 65536) × (n ≡ length f)
Measure m f (refusal n p) = SettleAnswered m 0 (refusal n p)

-- 45 or 46
fault_is : (m : ℕ) (w : Worth) → (fault_of w ≡ 0 → ⊥) → SettleAnswered m 0 (refusal (fault_of w) none)
fault_is m = go
  where
    P : ℕ → Type 0
    P f = (f ≡ 0 → ⊥) → SettleAnswered m 0 (refusal f none)

    go : (w : Worth) → P (fault_of w)
    go (worth.integer n) = cond_in P (leb n 18446744073709551615) (λ e z. absurd (z refl)) (λ e z. inr (inr (inr (inl refl)), refl))
    go (worth.float d) =
        cond_in P (leb ((reduce d).up + (reduce d).down) 1000000) (λ e z. absurd (z refl)) (λ e z. inr (inr (inr (inr (inl refl))), refl))
    go (worth.bool b) = λ z. absurd (z refl)
    go (worth.char c) = λ z. absurd (z refl)
    go (worth.string v) = λ z. absurd (z refl)
    go (worth.byte b) = λ z. absurd (z refl)
    go (worth.byte_string v) = λ z. absurd (z refl)
    go (worth.c_string v) = λ z. absurd (z refl)

measured_is : (m k : ℕ) (w : Worth) (x : List ℕ) → 1 ≤ k → k ≤ 8 → Measure m (form_of w x) (measured k w x)
unfolding measured
measured_is m k w x a b =
    let P : FormAnswer → Type 0 = Measure m (form_of w x) in
    cond_eq P (fault_of w) 0
    (λ z. cond_in P (leb (length (form_of w x)) 65536) (λ t. (a, b, leb-true (length (form_of w x)) 65536 t, refl))
    (λ t. inr (inr (inr (inr (inr (inl refl)))), refl)))
    (fault_is m w)

measure_is : (s : List ℕ) → Measure (length s) (form_at s) (measure_at s)
unfolding measure_at form_at
measure_is s = go (read_at 0 s) (coded more 0 s (omega arith))
  where
    more : List ℕ
    more = 45 ∷ 46 ∷ 47 ∷ 48 ∷ []

    go : (o : Outcome) → Coded more (length s) o → Measure (length s) (form_by s o) (measure_of s o)
    go (refused n p) h = h
    go (accepted k e vs) h = measured_is (length s) k (worth_of k s vs) (drop e s) h.0 h.1

-- ---- settling

answered : (room : ℕ) (s : List ℕ) → SettleAnswered (length s) room (settle_at s room)
unfolding settle_at
answered room s = go (measure_at s) (measure_is s)
  where
    go : (x : FormAnswer) → Measure (length s) (form_at s) x → SettleAnswered (length s) room (fitted room x)
    go (returned (k, n)) h =
        cond_in (SettleAnswered (length s) room) (leb n room) (λ t. (h.0, h.1, leb-true n room t, h.2))
        (λ t. inr (inr (inr (inr (inr (inr (inl refl))))), refl))
    go (refusal n p) h = h

own : (room : ℕ) (s : List ℕ) {n : ℕ} {p : Place} → read_at 0 s ≡ refused n p → settle_at s room ≡ refusal n p
unfolding settle_at measure_at
own room s h = rw h

untouched : (s buf : List ℕ) {n : ℕ} {p : Place} → settle_at s (length buf) ≡ refusal n p → settle_buffer s buf ≡ buf
unfolding settle_buffer
untouched s buf h = rw h

filled : (s buf : List ℕ) {k n : ℕ} → settle_at s (length buf) ≡ formed k n → (settle_buffer s buf ≡ over (form_at s) buf) × (n ≡ length (form_at s))
unfolding settle_buffer settle_at
filled s buf {k} {n} h = (rw h, go (measure_at s) (measure_is s) h)
  where
    go : (x : FormAnswer) → Measure (length s) (form_at s) x → fitted (length buf) x ≡ formed k n → n ≡ length (form_at s)
    go (returned (l, m)) i e =
        cond_in (λ (y : FormAnswer). y ≡ formed k n → n ≡ length (form_at s)) (leb m (length buf))
        (λ t e. sym (same_form e).1 ∙ i.3)
        (λ t e. absurd (let z : ◌≡◌ {A = ℕ} 0 1 = cc in omega arith)) e
    go (refusal m p) i e = absurd (let z : ◌≡◌ {A = ℕ} 0 1 = cc in omega arith)

measured_by : (s : List ℕ) → measure_at s ≡ settle_at s 65536
unfolding settle_at
measured_by s = go (measure_at s) (measure_is s)
  where
    go : (x : FormAnswer) → Measure (length s) (form_at s) x → x ≡ fitted 65536 x
    go (returned (k, n)) h = rw (le-leb n 65536 h.2)
    go (refusal n p) h = refl

pub settle_answers : SettleAnswers
settle_answers =
    record {
      answered = answered;
      own = own;
      untouched = untouched;
      filled = filled;
      measured = measured_by;
    }

-- ---- the entries for C

-- a reading's eight numbers
abbrev pub numbers : List ℕ → Outcome → List ℕ
numbers s o = reading_numbers o (digit_counts s o)

pub number_answers : NumberAnswers
number_answers =
    record {
      reading = λ code s h. ap (numbers s) h;
      no_reading = λ code s h. ap (numbers s) h;
      keyed = λ s h. ap (numbers s) h;
      no_keyed = λ s h. ap (numbers s) h;
      value = λ code s h. (ap (return_value (λ v. 0)) h, λ before. ap (λ (v : Valued). value_after v before) h);
      no_value = λ code s h. (ap (return_value (λ v. 0)) h, λ before. ap (λ (v : Valued). value_after v before) h);
      bytes = λ code room s h. ap (return_value (λ n. n)) h;
      no_bytes = λ code room s h. ap (return_value (λ n. n)) h;
      form = λ room s h. ap (return_value (λ form. form.1)) h;
      no_form = λ room s h. ap (return_value (λ form. form.1)) h;
    }
