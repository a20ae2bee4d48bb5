-- What measuring and settling answer of an accepted text, by its worth and its suffix, and which of the four reasons withholds its form.
-- Assumes nothing.
use Prim.Native.Nat.{ℕ, ◌+◌, ◌≤◌, ◌<◌}
use mathlib.Core.Path.{◌≡◌, refl, sym, ap, ◌∙◌}
use mathlib.Core.List.{List}
use native.Mathlib.Omega.{arith}
use lib.Dec.{leb}
use lib.ListN.{length, drop}
use borrow.Author.Tests.{le-leb, lt-leb, leb-true, leb-false, ne_eqb}
use Rattle.err.specs.Outcome.{none, Outcome, refused, accepted}
use Rattle.buffer.specs.Buffer.{over}
use Rattle.scan.proofs.Cases.{cond_in, cond_eq, by_lt}
use Rattle.grammar.specs.Meaning.{Worth, kind_of, Means}
use Rattle.grammar.specs.Meaning as worth
use Rattle.form.specs.Form.{form_of, fault_of}
use Rattle.form.specs.Reduced.{reduce}
use Rattle.form.proofs.Reduce.{too_far}
use Rattle.literal.specs.Readings.{read_at}
use Rattle.form_reading.specs.Worths.{worth_of}
use Rattle.settle.proofs.Forms.{same_form}
use Rattle.settle.specs.Settled.{FormAnswer, returned, formed, refusal, measured, measure_of, measure_at, fitted, settle_at, form_at, settle_buffer}
use Rattle.demands.specs.Demand3.{Accepts, Given, TooLarge, PowerTooFar, TooLong, TooSmall}
use Rattle.demands.proofs.Reference.{demand_2_reference}
use Rattle.demands.proofs.Worths.{own_read, worth_is, over_unique}

-- ---- the first two reasons, by the worth

large_kind : (w : Worth) → TooLarge w → kind_of w ≡ 2
large_kind w t = ap kind_of t.1

far_kind : (w : Worth) → PowerTooFar w → kind_of w ≡ 3
far_kind w t = ap kind_of t.1

-- a worth of another kind is neither too large nor too far
other_kind : {P : Type 0} (w : Worth) → (kind_of w ≡ 2 → ⊥) → (kind_of w ≡ 3 → ⊥) → ((TooLarge w → ⊥) → (PowerTooFar w → ⊥) → P) → P
other_kind w a b f = f (λ t. a (large_kind w t)) (λ t. b (far_kind w t))

-- a worth is too large, or too far, or neither
pub by_fault : {P : Type 0} (w : Worth) → (TooLarge w → P) → (PowerTooFar w → P) → ((TooLarge w → ⊥) → (PowerTooFar w → ⊥) → P) → P
by_fault (worth.integer n) f g h =
    by_lt 18446744073709551615 n (λ l. f (n, refl, l))
    (λ l. h (λ t. let e : n ≡ t.0 = let q = t.1 in cc in omega (arith, t.2)) (λ t. let k = far_kind (worth.integer n) t in omega arith))
by_fault (worth.float d) f g h =
    by_lt 1000000 ((reduce d).up + (reduce d).down) (λ l. g (d, refl, (too_far d).1 l))
    (λ l. h (λ t. let k = large_kind (worth.float d) t in omega arith)
    (λ t. let e : d ≡ t.0 = let q = t.1 in cc in omega (arith, rw (← e) at ((too_far t.0).0 t.2))))
by_fault (worth.bool b) f g h = other_kind (worth.bool b) (λ e. omega arith) (λ e. omega arith) h
by_fault (worth.char c) f g h = other_kind (worth.char c) (λ e. omega arith) (λ e. omega arith) h
by_fault (worth.string v) f g h = other_kind (worth.string v) (λ e. omega arith) (λ e. omega arith) h
by_fault (worth.byte b) f g h = other_kind (worth.byte b) (λ e. omega arith) (λ e. omega arith) h
by_fault (worth.byte_string v) f g h = other_kind (worth.byte_string v) (λ e. omega arith) (λ e. omega arith) h
by_fault (worth.c_string v) f g h = other_kind (worth.c_string v) (λ e. omega arith) (λ e. omega arith) h

pub large_fault : (w : Worth) → TooLarge w → fault_of w ≡ 45
large_fault w t = rw (t.1, lt-leb t.0 18446744073709551615 t.2)

pub far_fault : (w : Worth) → PowerTooFar w → fault_of w ≡ 46
far_fault w t = rw (t.1, lt-leb _ 1000000 ((too_far t.0).0 t.2))

pub no_fault : (w : Worth) → (TooLarge w → ⊥) → (PowerTooFar w → ⊥) → fault_of w ≡ 0
no_fault (worth.integer n) a b =
    cond_in (λ (f : ℕ). f ≡ 0) (leb n 18446744073709551615) (λ e. refl) (λ e. absurd (a (n, refl, leb-false n 18446744073709551615 e)))
no_fault (worth.float d) a b =
    cond_in (λ (f : ℕ). f ≡ 0) (leb ((reduce d).up + (reduce d).down) 1000000) (λ e. refl)
    (λ e. absurd (b (d, refl, (too_far d).1 (leb-false ((reduce d).up + (reduce d).down) 1000000 e))))
no_fault (worth.bool b) _ _ = refl
no_fault (worth.char c) _ _ = refl
no_fault (worth.string v) _ _ = refl
no_fault (worth.byte b) _ _ = refl
no_fault (worth.byte_string v) _ _ = refl
no_fault (worth.c_string v) _ _ = refl

-- ---- an accepted text and its meaning

module _ {s x : List ℕ} {k : ℕ} {w : Worth} (a : Accepts s k) (m : Means s w x) where
  pub kind_is : k ≡ kind_of w
  kind_is = (worth_is s x a.2 m).2

  measure_is : measure_at s ≡ measured k w x
  unfolding measure_at
  measure_is = let h = worth_is s x a.2 m in rw (a.2, h.0, h.1)

  pub form_is : form_at s ≡ form_of w x
  unfolding form_at
  form_is = let h = worth_is s x a.2 m in rw (a.2, h.0, h.1)

  -- by the worth's fault, then by the form's length
  measure_fault : (n : ℕ) → fault_of w ≡ n → 0 < n → measure_at s ≡ refusal n none
  unfolding measured
  measure_fault n e p = measure_is ∙ rw (e, ne_eqb n 0 (λ z. omega arith))

  measure_long : fault_of w ≡ 0 → TooLong w x → measure_at s ≡ refusal 47 none
  unfolding measured
  measure_long e l = measure_is ∙ rw (e, lt-leb _ 65536 l)

  measure_given : fault_of w ≡ 0 → length (form_of w x) ≤ 65536 → measure_at s ≡ formed k (length (form_of w x))
  unfolding measured
  measure_given e l = measure_is ∙ rw (e, le-leb _ 65536 l)

  -- settling, in the order of the reasons
  module _ (room : ℕ) where
    pub settle_large : TooLarge w → settle_at s room ≡ refusal 45 none
    unfolding settle_at
    settle_large t = rw (measure_fault 45 (large_fault w t) (omega arith))

    pub settle_far : PowerTooFar w → settle_at s room ≡ refusal 46 none
    unfolding settle_at
    settle_far t = rw (measure_fault 46 (far_fault w t) (omega arith))

    pub settle_long : fault_of w ≡ 0 → TooLong w x → settle_at s room ≡ refusal 47 none
    unfolding settle_at
    settle_long e l = rw (measure_long e l)

    pub settle_small : fault_of w ≡ 0 → length (form_of w x) ≤ 65536 → TooSmall w x room → settle_at s room ≡ refusal 48 none
    unfolding settle_at
    settle_small e l h = rw (measure_given e l, lt-leb _ room h)

    pub settle_given : fault_of w ≡ 0 → length (form_of w x) ≤ 65536 → length (form_of w x) ≤ room → settle_at s room ≡ formed k (length (form_of w x))
    unfolding settle_at
    settle_given e l h = rw (measure_given e l, le-leb _ room h)

  -- else the form is given
  pub given_form : (buf : List ℕ) → fault_of w ≡ 0 → length (form_of w x) ≤ 65536 → length (form_of w x) ≤ length buf → Given s buf k (form_of w x)
  unfolding settle_buffer
  given_form buf e l h = let r = settle_given (length buf) e l h in record { answer = r; bytes = rw (r, form_is) }

-- one of the four reasons holds, or none
pub by_reason : {P : Type 0} (w : Worth) (x : List ℕ) (room : ℕ) → (TooLarge w → P) → (PowerTooFar w → P) → (fault_of w ≡ 0 → TooLong w x → P)
    → (fault_of w ≡ 0 → length (form_of w x) ≤ 65536 → TooSmall w x room → P)
    → (fault_of w ≡ 0 → length (form_of w x) ≤ 65536 → length (form_of w x) ≤ room → P) → P
by_reason w x room f g long small fits =
    by_fault w f g λ a b.
    let e = no_fault w a b in
    by_lt 65536 (length (form_of w x)) (long e) λ l.
    by_lt room (length (form_of w x)) (small e l) (fits e l)

-- ---- a form that is given

-- by the measure, and it fits
pub given_measure : (s : List ℕ) {k room n : ℕ} → settle_at s room ≡ formed k n → (measure_at s ≡ formed k n) × (n ≤ room)
unfolding settle_at
given_measure s {k} {room} {n} = go (measure_at s)
  where
    go : (r : FormAnswer) → fitted room r ≡ formed k n → (r ≡ formed k n) × (n ≤ room)
    go (refusal i p) = λ h. absurd (let z : ◌≡◌ {A = ℕ} 0 1 = cc in omega arith)
    go (returned (j, i)) =
        cond_in (λ (r : FormAnswer). r ≡ formed k n → (formed j i ≡ formed k n) × (n ≤ room)) (leb i room)
        (λ e h. (h, omega (arith, (same_form h).1, leb-true i room e)))
        (λ e h. absurd (let z : ◌≡◌ {A = ℕ} 0 1 = cc in omega arith))

-- the worth then has no fault, and the form is not too long
measured_given : (j : ℕ) (w : Worth) (x : List ℕ) {k n : ℕ} → measured j w x ≡ formed k n
    → (j ≡ k) × (n ≡ length (form_of w x)) × (fault_of w ≡ 0) × (length (form_of w x) ≤ 65536)
unfolding measured
measured_given j w x {k} {n} =
    cond_eq P (fault_of w) 0
    (λ e. cond_in P (leb (length (form_of w x)) 65536) (λ l h. let z = same_form h in (z.0, sym z.1, e, leb-true _ 65536 l))
    (λ _ h. absurd (let z : ◌≡◌ {A = ℕ} 0 1 = cc in omega arith)))
    (λ _ h. absurd (let z : ◌≡◌ {A = ℕ} 0 1 = cc in omega arith))
  where
    P : FormAnswer → Type 0
    P r = r ≡ formed k n → (j ≡ k) × (n ≡ length (form_of w x)) × (fault_of w ≡ 0) × (length (form_of w x) ≤ 65536)

measure_accepts : (s : List ℕ) {k n : ℕ} → measure_at s ≡ formed k n → Accepts s k
unfolding measure_at
measure_accepts s {k} {n} = go (read_at 0 s) refl
  where
    go : (o : Outcome) → read_at 0 s ≡ o → measure_of s o ≡ formed k n → Accepts s k
    go (refused i p) e h = absurd (let z : ◌≡◌ {A = ℕ} 0 1 = cc in omega arith)
    go (accepted j z vs) e h = let q = (measured_given j (worth_of j s vs) (drop z s) h).0 in (z, vs, rw q at e)

pub given_accepts : {s buf f : List ℕ} {k : ℕ} → Given s buf k f → Accepts s k
given_accepts {s} g = measure_accepts s (given_measure s g.answer).0

-- a text that is accepted has a meaning
pub accepts_means : {s : List ℕ} {k : ℕ} → Accepts s k → (w : Worth) × (x : List ℕ) × Means s w x
accepts_means {s} {k} (e, vs, h) =
    let r = (demand_2_reference.accepted_exactly 0 s (omega arith) (own_read s h).0).0 (k, e, vs, h) in
    (r.0, r.1, r.2)

-- all that is known of a form that is given
pub record Known (f buf x : List ℕ) (w : Worth) : Type 0 where
  pub is : f ≡ form_of w x
  pub fault : fault_of w ≡ 0
  pub short : length f ≤ 65536
  pub room : length f ≤ length buf

pub given_known : {s buf f x : List ℕ} {k : ℕ} {w : Worth} → Given s buf k f → Means s w x → Known f buf x w
unfolding settle_buffer
given_known {s} {buf} {f} {x} {k} {w} g m =
    let a = given_accepts g in
    let q = given_measure s g.answer in
    let r = measured_given k w x (sym (measure_is a m) ∙ q.0) in
    let b : settle_buffer s buf ≡ over (form_of w x) buf = rw (g.answer, form_is a m) in
    let e = over_unique f (form_of w x) buf r.1 (sym g.bytes ∙ b) in
    record { is = e; fault = r.2; short = omega (arith, r.1, r.3); room = q.1 }
