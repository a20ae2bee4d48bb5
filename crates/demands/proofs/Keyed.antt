-- Request d: what readings count, and when the keyed entry refuses what entry 0 accepts.
-- Assumes nothing.
use Prim.Native.Nat.{ℕ, ◌+◌, ◌≤◌, ◌<◌}
use mathlib.Core.Path.{◌≡◌, refl, sym, ap, subst, ◌∙◌}
use mathlib.Core.Bool.{Bool, true, cond}
use mathlib.Core.Logic.{◌⊎◌, inl, inr, ◌↔◌}
use mathlib.Core.List.{List, [], ◌∷◌}
use native.Mathlib.Omega.{arith}
use lib.Dec.{ltb}
use lib.ListN.{length, take, drop}
use borrow.Author.Tests.{lt-ltb, ltb-true}
use Rattle.err.specs.Outcome.{Place, none, IntegerValues, FloatValues, Values, truth, digits, ends, value, decoded, Outcome, refused, accepted}
use Rattle.err.specs.Counts.{no_counts}
use Rattle.scan.proofs.Cases.{cond_in, clash}
use Rattle.scan.specs.Run.{run, All, Stops}
use Rattle.scan.proofs.Runs.{run_all, run_stops}
use Rattle.parse.specs.Sets.{digit}
use Rattle.parse.specs.Digits.{is_digit, digit_count, DigitScan}
use Rattle.parse.specs.declared.DigitRun.{DigitRun}
use Rattle.digits.specs.Counts.{part_counts, digit_counts}
use Rattle.integer.specs.Integer.{integer_read}
use Rattle.integer.proofs.Parts as integers
use Rattle.float.specs.Float.{float_read}
use Rattle.float.proofs.Sound as floats
use Rattle.literal.specs.Readings.{entry_read, read_at}
use Rattle.literal.proofs.Answers.{read_passed}
use Rattle.grammar.specs.Values.{plain}
use Rattle.grammar.specs.Meaning.{Worth, kind_of}
use Rattle.grammar.specs.Meaning as worth
use Rattle.keyed.specs.Keyed.{overlong, keyed_at}
use Rattle.demands.specs.Demand1.{Numbered}
use Rattle.demands.specs.Demand2.{Gives}
use Rattle.demands.specs.ByteClasses.{listed}
use Rattle.demands.proofs.ByteClasses.{byte_classes}
use Rattle.demands.specs.Keyed.{DigitCounts, ReadingCounts, EightNumbers, TooManyDigits, AlikeButUnderscores, KeyedEntry, Keyed}
use Rattle.demands.proofs.ReadCall.{Coded, coded}
use Rattle.demands.proofs.SettleCall.{numbers}
use Rattle.demands.proofs.Demand2.{demand_2_transcribed}
use Rattle.demands.proofs.Reference.{demand_2_reference}
use Rattle.demands.proofs.Worths.{own_read}
use Rattle.demands.proofs.Underscores.{digits_plain, integer_plain, integers_alike, floats_alike}

-- ---- the kind of a reading with counts

-- values of a number belong to its kind
abbrev NumberKind : ℕ → Values → Type 0
NumberKind k (truth t) = Unit {0}
NumberKind k (digits d) = k ≡ 2
NumberKind k (ends z) = k ≡ 3
NumberKind k (value v) = Unit {0}
NumberKind k (decoded v) = Unit {0}

by_worth : (s : List ℕ) (k : ℕ) (vs : Values) (w : Worth) → k ≡ kind_of w → Gives s vs w → NumberKind k vs
by_worth s k vs (worth.bool b) q g = rw g tt
by_worth s k vs (worth.integer n) q g = rw g.values q
by_worth s k vs (worth.float d) q g = rw g.values q
by_worth s k vs (worth.char v) q g = rw g tt
by_worth s k vs (worth.string v) q g = rw g.values tt
by_worth s k vs (worth.byte v) q g = rw g tt
by_worth s k vs (worth.byte_string v) q g = rw g.values tt
by_worth s k vs (worth.c_string v) q g = rw g.values tt

number_kind : (s : List ℕ) {k e : ℕ} {vs : Values} → read_at 0 s ≡ accepted k e vs → NumberKind k vs
number_kind s {k} {e} {vs} h =
    let (w, x, m, t) = (demand_2_reference.accepted_exactly 0 s (omega arith) (own_read s h).0).0 (k, e, vs, h) in
    let (q, y, g) = demand_2_reference.worth 0 k e s x vs w h m in
    by_worth s k vs w q g

-- the kind's own reading
integer_own : (code : ℕ) (s : List ℕ) {e : ℕ} {d : IntegerValues} → read_at code s ≡ accepted 2 e (digits d) → integer_read s ≡ accepted 2 e (digits d)
unfolding entry_read
integer_own code s {e} {d} h = (read_passed 2 s (demand_2_transcribed.readings s code 2 e (digits d) h).own).3

float_own : (s : List ℕ) {e : ℕ} {z : FloatValues} → read_at 0 s ≡ accepted 3 e (ends z) → float_read s ≡ accepted 3 e (ends z)
unfolding entry_read
float_own s h = (own_read s h).1

-- values of another kind have no counts
uncounted : (s : List ℕ) (k : ℕ) (vs : Values) → NumberKind k vs → (k ≡ 2 → ⊥) → (k ≡ 3 → ⊥) → part_counts s vs ≡ no_counts
uncounted s k (truth t) q a b = refl
uncounted s k (digits d) q a b = absurd (a q)
uncounted s k (ends z) q a b = absurd (b q)
uncounted s k (value v) q a b = refl
uncounted s k (decoded v) q a b = refl

no_counts_lem : (code : ℕ) (s : List ℕ) {k e : ℕ} {vs : Values} → read_at code s ≡ accepted k e vs → (k ≡ 2 → ⊥) → (k ≡ 3 → ⊥) → digit_counts s (read_at code s) ≡ no_counts
no_counts_lem code s {k} {e} {vs} h a b = ap (digit_counts s) h ∙ uncounted s k vs (number_kind s (demand_2_transcribed.readings s code k e vs h).any) a b

reading_counts : ReadingCounts
reading_counts =
    record {
      integer = λ code s h. (ap (digit_counts s) h, integer_plain s (integer_own code s h));
      float = λ code s h. ap (digit_counts s) h;
      others = no_counts_lem;
    }

eight_numbers : EightNumbers
eight_numbers =
    record {
      integer = λ code s h. ap (numbers s) h;
      float = λ code s h. ap (numbers s) h;
      others = λ code s h a b. rw (no_counts_lem code s h a b, h) refl;
    }

-- ---- the bytes that are digits

one_more : (base b : ℕ) (s : List ℕ) → b < 256 → digit_count base (b ∷ s) ≡ cond (ltb (listed b) base) 1 0 + digit_count base s
unfolding digit_count is_digit
one_more base b s h = rw (byte_classes b h)

scanned : (base : ℕ) (s : List ℕ) (r : DigitRun) → base ≤ 16 → DigitScan base s r
    → All (digit base) (take r.end s) × Stops (digit base) (drop r.end s) × (r.digits ≡ length (plain (take r.end s)))
scanned base s r l d =
    rw (d.end, d.count) (run_all (digit base) s, run_stops (digit base) s, digits_plain base (take (run (digit base) s) s) l (run_all (digit base) s))

no_byte : (base : ℕ) → digit_count base [] ≡ 0
unfolding digit_count
no_byte base = refl

digit_counts_lem : DigitCounts
digit_counts_lem = record { no_byte = no_byte; one_more = one_more; scan = scanned }

-- ---- 53

-- the counts are too many exactly where there are too many digits
overlong_digits : (s : List ℕ) (o : Outcome) → read_at 0 s ≡ o → overlong (digit_counts s o) ≡ true → TooManyDigits s
overlong_digits s (refused n p) h t = clash t refl
overlong_digits s (accepted k e (truth b)) h t = clash t refl
overlong_digits s (accepted k e (digits d)) h t =
    let is : read_at 0 s ≡ accepted 2 e (digits d) = h ∙ ap (λ (k : ℕ). accepted k e (digits d)) (number_kind s h) in
    (_, ltb-true 40 _ t, inl (record { suffix = e; marks = d; is = is; count = refl }))
overlong_digits s (accepted k e (ends z)) h t =
    let is : read_at 0 s ≡ accepted 3 e (ends z) = h ∙ ap (λ (k : ℕ). accepted k e (ends z)) (number_kind s h) in
    (_, ltb-true 40 _ t, inr (record { suffix = e; marks = z; is = is; count = refl }))
overlong_digits s (accepted k e (value v)) h t = clash t refl
overlong_digits s (accepted k e (decoded v)) h t = clash t refl

digits_overlong : (s : List ℕ) → TooManyDigits s → overlong (digit_counts s (read_at 0 s)) ≡ true
digits_overlong s (n, l, inl i) = rw (i.is, i.count) (lt-ltb 40 n l)
digits_overlong s (n, l, inr f) = rw (f.is, f.count) (lt-ltb 40 n l)

-- entry 0 itself never refuses with 53
not_53 : (s : List ℕ) (p : Place) → read_at 0 s ≡ refused 53 p → ⊥
not_53 s p h = go (subst (Coded [] (length s)) h (coded [] 0 s (omega arith)))
  where
    go : Numbered (length s) (43 ∷ 44 ∷ []) 53 p → ⊥
    go (inl r) = omega (arith, r.1)
    go (inr (inl e, q)) = omega arith
    go (inr (inr (inl e), q)) = omega arith
    go (inr (inr (inr e), q)) = e

module _ (s : List ℕ) where
  abbrev test : Bool
  test = overlong (digit_counts s (read_at 0 s))

  refused_then : {p : Place} → keyed_at s ≡ refused 53 p → (test ≡ true) × (p ≡ none)
  unfolding keyed_at
  refused_then {p} =
      cond_in (λ (o : Outcome). o ≡ refused 53 p → (test ≡ true) × (p ≡ none)) test
      (λ t h. let q : p ≡ none = cc in (t, q)) (λ t h. absurd (not_53 s p h))

  then_refused : test ≡ true → keyed_at s ≡ refused 53 none
  unfolding keyed_at
  then_refused t = rw t

  exactly_then : (keyed_at s ≡ refused 53 none) ↔ TooManyDigits s
  exactly_then = (λ h. overlong_digits s (read_at 0 s) refl (refused_then h).0, λ h. then_refused (digits_overlong s h))

  else_read : (TooManyDigits s → ⊥) → keyed_at s ≡ read_at 0 s
  unfolding keyed_at
  else_read n =
      cond_in (λ (o : Outcome). o ≡ read_at 0 s) test (λ t. absurd (n (overlong_digits s (read_at 0 s) refl t))) (λ t. refl)

-- ---- two texts that differ in `_` only

-- a number's values are of its kind
integer_values : (s : List ℕ) {e : ℕ} {vs : Values} → read_at 0 s ≡ accepted 2 e vs → (d : IntegerValues) × (vs ≡ digits d)
unfolding entry_read
integer_values s {e} {vs} h = (_, (integers.sound s 2 e vs (own_read s h).1).values)

float_values : (s : List ℕ) {e : ℕ} {vs : Values} → read_at 0 s ≡ accepted 3 e vs → (z : FloatValues) × (vs ≡ ends z)
unfolding entry_read
float_values s {e} {vs} h = (_, (floats.sound s 3 e vs (own_read s h).1).values)

-- the test comes to the same
same_integers : (s t : List ℕ) → AlikeButUnderscores 2 s t → test s ≡ test t
same_integers s t a =
    let (d, v) = integer_values s a.is_s in
    let (c, w) = integer_values t a.is_t in
    let h : read_at 0 s ≡ accepted 2 a.suffix_s (digits d) = a.is_s ∙ ap (accepted 2 a.suffix_s) v in
    let g : read_at 0 t ≡ accepted 2 a.suffix_t (digits c) = a.is_t ∙ ap (accepted 2 a.suffix_t) w in
    rw (h, g) (ap (ltb 40) (integers_alike s t (integer_own 0 s h) (integer_own 0 t g) a.same))

same_floats : (s t : List ℕ) → AlikeButUnderscores 3 s t → test s ≡ test t
same_floats s t a =
    let (d, v) = float_values s a.is_s in
    let (c, w) = float_values t a.is_t in
    let h : read_at 0 s ≡ accepted 3 a.suffix_s (ends d) = a.is_s ∙ ap (accepted 3 a.suffix_s) v in
    let g : read_at 0 t ≡ accepted 3 a.suffix_t (ends c) = a.is_t ∙ ap (accepted 3 a.suffix_t) w in
    rw (h, g) (ap (ltb 40) (floats_alike s t (float_own s h) (float_own t g) a.same))

same_test : (k : ℕ) (s t : List ℕ) → (k ≡ 2) ⊎ (k ≡ 3) → AlikeButUnderscores k s t → test s ≡ test t
same_test k s t (inl e) a = same_integers s t (subst (λ (k : ℕ). AlikeButUnderscores k s t) e a)
same_test k s t (inr e) a = same_floats s t (subst (λ (k : ℕ). AlikeButUnderscores k s t) e a)

keyed_entry : KeyedEntry
keyed_entry =
    record {
      exactly = exactly_then;
      no_span = λ s h. (refused_then s h).1;
      otherwise = else_read;
      underscores = λ k s t q a. let e = same_test k s t q a in
          (λ h. then_refused t (sym e ∙ (refused_then s h).0), λ h. then_refused s (e ∙ (refused_then t h).0));
    }

pub keyed : Keyed
keyed = record { digits = digit_counts_lem; counts = reading_counts; numbers = eight_numbers; entry = keyed_entry }
