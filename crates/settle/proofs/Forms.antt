-- Measure, form and buffer of a reading, by the form without its suffix.
-- Assumes nothing.
use mathlib.Core.Path.{◌≡◌, refl, sym, ap, ◌∙◌}
use mathlib.Core.Bool.{Bool, true, false, cond}
use mathlib.Core.List.{List, ◌++◌}
use Prim.Native.Nat.{ℕ, ◌+◌, ◌-◌, ◌≤◌, ◌<◌}
use native.Mathlib.Omega.{arith}
use borrow.Author.Tests.{le-leb, lt-leb}
use lib.Dec.{eqb, leb}
use lib.ListN.{length, drop, length-append, length-drop}
use Rattle.std.specs.Prelude.{Ok, Err}
use Rattle.err.specs.Numbers.{number_of}
use Rattle.err.specs.Outcome.{Place, none, Outcome, refused, accepted}
use Rattle.err.specs.Reading.{place_of, refusal_of, outcome_of, kind_in, suffix_in}
use Rattle.err.specs.declared.Literal.{Literal}
use Rattle.err.specs.declared.ParseError.{ParseError}
use Rattle.buffer.specs.Buffer.{over}
use Rattle.grammar.specs.Meaning.{Worth}
use Rattle.form.specs.Form.{bare_form, form_of, fault_of}
use Rattle.literal.specs.Readings.{read_at}
use Rattle.form_reading.proofs.Readings.{short, start}
use Rattle.form_reading.specs.Worths.{worth_of}
use Rattle.form_reading.proofs.Lengths.{no_len}
use Rattle.form_reading.specs.Bare.{len, bad, bare_len, bare_by, bare_form_by, Roomy}
use Rattle.form_bound.specs.Bound.{fits_by_bound}
use Rattle.form_bound.proofs.ByBound.{by_bound}
use Rattle.settle.specs.Settled.{FormAnswer, returned, formed, refusal, settled_of, measured, measure_of, measure_at, settle_at, form_by, form_at, settle_buffer, Fits}

-- a form is no refusal
pub no_form {ℓ} : {A : Type ℓ} {k n m : ℕ} {p : Place} → refusal m p ≡ formed k n → A
no_form e = let z : ◌≡◌ {A = ℕ} 0 1 = cc in absurd (omega arith)

-- the kind and the length that a form is given with
pub same_form : {k j m n : ℕ} → formed k m ≡ formed j n → (k ≡ j) × (m ≡ n)
same_form e = (ap kind e, ap size e)
  where
    kind : FormAnswer → ℕ
    kind (returned (k, n)) = k
    kind (refusal n p) = 0

    size : FormAnswer → ℕ
    size (returned (k, n)) = n
    size (refusal n p) = 0

-- an error with no span, as a refusal
pub refusing : (m : ℕ) (e : ParseError) → refusal_of e ≡ refused m none → settled_of (Err e) ≡ refusal m none
refusing m e h = let z : number_of e.kind ≡ m = cc in let y : place_of e.span ≡ none = cc in rw (z, y) refl

-- ---- of a worth w, before a suffix x

module _ (w : Worth) (x : List ℕ) where
  bare_bad : (k : ℕ) {m : ℕ} {p : Place} → bare_len w x ≡ bad m p → measured k w x ≡ refusal m p
  unfolding bare_len measured
  bare_bad k {m} {p} = by_test (eqb (fault_of w) 0) _
    where
      by_test : (t : Bool) (a : FormAnswer) → cond t (len (length (bare_form w x))) (bad (fault_of w) none) ≡ bad m p
          → cond t a (refusal (fault_of w) none) ≡ refusal m p
      by_test true a e = no_len (sym e)
      by_test false a e = cc

  -- a form is there
  bare_len_lem : {n : ℕ} → bare_len w x ≡ len n → (eqb (fault_of w) 0 ≡ true) × (n ≡ length (bare_form w x))
  unfolding bare_len
  bare_len_lem {n} = by_test (eqb (fault_of w) 0)
    where
      by_test : (t : Bool) → cond t (len (length (bare_form w x))) (bad (fault_of w) none) ≡ len n → (t ≡ true) × (n ≡ length (bare_form w x))
      by_test true e = (refl, cc)
      by_test false e = no_len e

  measured_by : (k : ℕ) → eqb (fault_of w) 0 ≡ true
      → measured k w x ≡ cond (leb (length (form_of w x)) 65536) (formed k (length (form_of w x))) (refusal 47 none)
  unfolding measured
  measured_by k e = rw e

  -- what is measured is the form's length
  formed_by : {k j n : ℕ} → measured k w x ≡ formed j n → (bare_len w x ≡ len (length (bare_form w x))) × (n ≡ length (form_of w x)) × (j ≡ k)
  unfolding measured bare_len
  formed_by {k} {j} {n} = by_test (eqb (fault_of w) 0) (leb (length (form_of w x)) 65536)
    where
      by_test : (t u : Bool) → cond t (cond u (formed k (length (form_of w x))) (refusal 47 none)) (refusal (fault_of w) none) ≡ formed j n
          → (cond t (len (length (bare_form w x))) (bad (fault_of w) none) ≡ len (length (bare_form w x))) × (n ≡ length (form_of w x)) × (j ≡ k)
      by_test true true e = let z = same_form e in (refl, sym z.1, sym z.0)
      by_test true false e = no_form e
      by_test false u e = no_form e

-- ---- the measure of a reading o

-- its form is measured, and a buffer of `room` bytes has room for it
abbrev pub Ready : List ℕ → Outcome → ℕ → Type 0
Ready s o room = Fits s o room × (formed (kind_in o) (length (form_by s o)) ≡ measure_of s o)

module _ (s : List ℕ) where
  pub measure_refused : (o : Outcome) {m : ℕ} {p : Place} → bare_by s o ≡ bad m p → measure_of s o ≡ refusal m p
  measure_refused (refused n q) e = cc
  measure_refused (accepted k at vs) e = bare_bad (worth_of k s vs) (drop at s) k e

  -- its form is the form without suffix, and the suffix
  pub form_split : (o : Outcome) {n : ℕ} → bare_by s o ≡ len n → form_by s o ≡ bare_form_by s o ++ drop (suffix_in o) s
  unfolding form_of
  form_split (refused n q) e = no_len e
  form_split (accepted k at vs) e = refl

  bare_count : (o : Outcome) {n : ℕ} → bare_by s o ≡ len n → n ≡ length (bare_form_by s o)
  bare_count (refused n q) e = no_len e
  bare_count (accepted k at vs) e = (bare_len_lem (worth_of k s vs) (drop at s) e).1

  form_count : (o : Outcome) {n : ℕ} → bare_by s o ≡ len n → n + (length s - suffix_in o) ≡ length (form_by s o)
  form_count o {n} e = rw (form_split o e, length-append, length-drop) (omega (arith, bare_count o e))

  measure_by : (o : Outcome) {n : ℕ} → bare_by s o ≡ len n
      → measure_of s o ≡ cond (leb (length (form_by s o)) 65536) (formed (kind_in o) (length (form_by s o))) (refusal 47 none)
  measure_by (refused n q) e = no_len e
  measure_by (accepted k at vs) e = let w = worth_of k s vs in measured_by w (drop at s) k (bare_len_lem w (drop at s) e).0

  module _ (o : Outcome) {n : ℕ} (e : bare_by s o ≡ len n) where
    pub measure_long : 65536 < n + (length s - suffix_in o) → measure_of s o ≡ refusal 47 none
    measure_long h = measure_by o e ∙ rw (lt-leb (length (form_by s o)) 65536 (omega (arith, form_count o e)))

    pub measure_formed : n + (length s - suffix_in o) ≤ 65536 → measure_of s o ≡ formed (kind_in o) (n + (length s - suffix_in o))
    measure_formed h =
        measure_by o e ∙ rw (le-leb (length (form_by s o)) 65536 (omega (arith, form_count o e))) (ap (formed (kind_in o)) (sym (form_count o e)))

  -- what is measured can be written into a buffer that is as long
  pub formed_fits : (o : Outcome) {k n room : ℕ} → measure_of s o ≡ formed k n → n ≤ room → Ready s o room
  formed_fits (refused m q) e h = no_form e
  formed_fits (accepted k at vs) e h =
      let f = formed_by (worth_of k s vs) (drop at s) e in
      (record { form = f.0; fits = omega (arith, f.1) }, rw (e, f.1, f.2))

  pub fits_both : (o : Outcome) {room : ℕ} → Fits s o room → length (bare_form_by s o) + length (drop (suffix_in o) s) ≤ room
  fits_both o f = omega (arith, length-append (bare_form_by s o) (drop (suffix_in o) s), ap length (form_split o f.form), f.fits)

  pub roomy : (o : Outcome) {room : ℕ} → Fits s o room → Roomy s o room
  roomy o f = record { form = f.form; fits = omega (arith, fits_both o f) }

-- where there is a form, the suffix starts inside the text, which is short
pub form_inside : (s : List ℕ) (o : Outcome) {n : ℕ} → o ≡ read_at 0 s → bare_by s o ≡ len n → (suffix_in o ≤ length s) × (length s ≤ 65536)
form_inside s (refused n q) is e = no_len e
form_inside s (accepted k e vs) is f = (start s is, short s is)

-- ---- what settling returns, and the buffer at exit

abbrev pub Answers : List ℕ → List ℕ → FormAnswer → List ℕ → Type 0
Answers s buf a after = (a ≡ settle_at s (length buf)) × (after ≡ settle_buffer s buf)

module _ (s buf : List ℕ) (o : Outcome) (is : o ≡ read_at 0 s) where
  measure_at_lem : {a : FormAnswer} → a ≡ measure_of s o → measure_at s ≡ a
  unfolding measure_at
  measure_at_lem e = rw (← is) (sym e)

  -- the reading's refusal, 45, 46 and 47 come through
  pub settle_refused : {m : ℕ} {p : Place} → refusal m p ≡ measure_of s o → Answers s buf (refusal m p) buf
  unfolding settle_at settle_buffer
  settle_refused e = rw (measure_at_lem e) (refl, refl)

  -- a shorter buffer is 48, and keeps every byte
  pub settle_small : {k n : ℕ} → formed k n ≡ measure_of s o → length buf < n → Answers s buf (refusal 48 none) buf
  unfolding settle_at settle_buffer
  settle_small {k} {n} e h = rw (measure_at_lem e, lt-leb n (length buf) h) (refl, refl)

  -- else the form is written over its front
  pub settle_written : {k n : ℕ} → formed k n ≡ measure_of s o → n ≤ length buf → Answers s buf (formed k n) (over (form_by s o) buf)
  unfolding settle_at settle_buffer form_at
  settle_written {k} {n} e h = rw (measure_at_lem e, le-leb n (length buf) h, ← is) (refl, refl)

-- ---- strings that fit by the bound

-- neither 47 nor 48 comes
pub bound_ready : (s : List ℕ) (room : ℕ) (found : Literal) → let o = outcome_of (Ok found) in o ≡ read_at 0 s → fits_by_bound s o room ≡ true → Ready s o room
bound_ready s room found is e =
    let o = outcome_of (Ok found) in
    let f = by_bound s room found is e in
    formed_fits s o (measure_formed s o f.form f.short) f.fits

-- a text that is not read is refused as it is there, and the buffer is as it came
pub read_refused : (s : List ℕ) {n : ℕ} {p : Place} → read_at 0 s ≡ refused n p
    → (measure_at s ≡ refusal n p) × ((room : ℕ) → settle_at s room ≡ refusal n p) × ((buf : List ℕ) → settle_buffer s buf ≡ buf)
unfolding measure_at settle_at settle_buffer
read_refused s e = (rw e refl, λ room. rw e refl, λ buf. rw e refl)
