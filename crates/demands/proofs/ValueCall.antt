-- The value call answers every code and every text.
-- Assumes nothing.
use mathlib.Core.Path.{◌≡◌, refl, sym, subst}
use mathlib.Core.Logic.{inl, inr}
use mathlib.Core.List.{List, [], ◌∷◌}
use Prim.Native.Nat.{ℕ, ◌^◌, ◌≤◌, ◌<◌}
use native.Mathlib.Omega.{arith}
use borrow.Author.Tests.{leb-true, le-leb, lt-leb}
use lib.Dec.{leb}
use lib.ListN.{length}
use Rattle.std.specs.Prelude.{Option, Some, None}
use Rattle.err.specs.Outcome.{Place, none, Values, Outcome, refused, accepted}
use Rattle.scan.proofs.Cases.{cond_in, cond_eq}
use Rattle.utf8.specs.Utf8.{Utf8}
use Rattle.types.specs.Types.{integer_coded, largest_of}
use Rattle.types.specs.declared.IntegerType.{IntegerType}
use Rattle.types.specs.declared.IntegerType.TheVariants.{U8, U16, U32, U64, U128, Usize, I8, I16, I32, I64, I128, Isize}
use Rattle.integer.specs.Integer.{base_at, main_part, integer_read}
use Rattle.integer.proofs.Refused.{refused_in}
use Rattle.integer_value.specs.Value.{returned, refusal, number, of_reading, bounded, integer_lit_value}
use Rattle.text_check.specs.Checks.{text_fault}
use Rattle.text_check.proofs.Checks.{long_fault, utf8_fault, no_fault}
use Rattle.literal.specs.Values.{checked_value, largest_in, value_within, value_at}
use Rattle.demands.specs.Demand1.{Readable, ValueAnswered, ValueType, u8, u16, u32, u64, i8, i16, i32, i64, ValueAnswers}
use Rattle.demands.proofs.Numbered.{text_refused, or_42}

-- no largest value is above 64 bits
abbrev Small : Option ℕ → Type 0
Small (Some largest) = largest < 2 ^ 64
Small None = Unit {0}

small : (t : IntegerType) → Small (largest_of t)
small U8 = omega arith
small U16 = omega arith
small U32 = omega arith
small U64 = omega arith
small U128 = tt
small Usize = tt
small I8 = omega arith
small I16 = omega arith
small I32 = omega arith
small I64 = omega arith
small I128 = tt
small Isize = tt

small_in : (f : Option IntegerType) → Small (largest_in f)
small_in (Some t) = small t
small_in None = tt

value_answered : (largest : ℕ) (s : List ℕ) → largest < 2 ^ 64 → ValueAnswered (length s) (integer_lit_value largest s)
unfolding integer_lit_value
value_answered largest s l = go (integer_read s) refl
  where
    n : ℕ
    n = number (base_at s) (main_part s)

    go : (o : Outcome) → integer_read s ≡ o → ValueAnswered (length s) (of_reading o (bounded largest n))
    go (refused m p) h = inl (refused_in s h)
    go (accepted k e vs) h =
        cond_in (ValueAnswered (length s)) (leb n largest) (λ t. let b = leb-true n largest t in omega arith)
        (λ t. inr (inr (inr (inr (inl refl))), refl))

checked_answered : (largest : ℕ) (s : List ℕ) → largest < 2 ^ 64 → ValueAnswered (length s) (checked_value largest s)
unfolding checked_value
checked_answered largest s l =
    cond_eq (ValueAnswered (length s)) (text_fault s) 0 (λ z. value_answered largest s l)
    (λ z. or_42 (length s) (43 ∷ 44 ∷ 45 ∷ []) (text_fault s) none (text_refused (length s) s (45 ∷ []) z))

answered : (code : ℕ) (s : List ℕ) → ValueAnswered (length s) (value_at code s)
unfolding value_at
answered code s = go (largest_in (integer_coded code)) (small_in (integer_coded code))
  where
    go : (l : Option ℕ) → Small l → ValueAnswered (length s) (value_within l s)
    go (Some largest) h = checked_answered largest s h
    go None h = inr (inl refl, refl)

-- ---- the types that have values

typed : {code largest : ℕ} → ValueType code largest → largest_in (integer_coded code) ≡ Some largest
typed u8 = refl
typed u16 = refl
typed u32 = refl
typed u64 = refl
typed i8 = refl
typed i16 = refl
typed i32 = refl
typed i64 = refl

-- no other code has
untyped : (code : ℕ) → ((largest : ℕ) → ValueType code largest → ⊥) → largest_in (integer_coded code) ≡ None
untyped code never =
    cond_eq P code 1 (λ e. is u8 e) λ a.
    cond_eq P code 2 (λ e. is u16 e) λ a.
    cond_eq P code 3 (λ e. is u32 e) λ a.
    cond_eq P code 4 (λ e. is u64 e) λ a.
    cond_eq P code 5 (λ e. refl) λ a.
    cond_eq P code 6 (λ e. refl) λ a.
    cond_eq P code 7 (λ e. is i8 e) λ a.
    cond_eq P code 8 (λ e. is i16 e) λ a.
    cond_eq P code 9 (λ e. is i32 e) λ a.
    cond_eq P code 10 (λ e. is i64 e) λ a.
    cond_eq P code 11 (λ e. refl) λ a.
    cond_eq P code 12 (λ e. refl) λ a. refl
  where
    P : Option IntegerType → Type 0
    P f = largest_in f ≡ None

    is : {A : Type 0} {c largest : ℕ} → ValueType c largest → code ≡ c → A
    is {largest = largest} v e = absurd (never largest (subst (λ (n : ℕ). ValueType n largest) (sym e) v))

bad_code : (code : ℕ) (s : List ℕ) → ((largest : ℕ) → ValueType code largest → ⊥) → value_at code s ≡ refusal 42 none
unfolding value_at
bad_code code s h = rw (untyped code h)

module _ (code largest : ℕ) (s : List ℕ) (v : ValueType code largest) where
  l : largest_in (integer_coded code) ≡ Some largest
  l = typed v

  too_long : 65536 < length s → value_at code s ≡ refusal 43 none
  unfolding value_at checked_value
  too_long h = rw (l, long_fault s h)

  not_utf8 : length s ≤ 65536 → (Utf8 s → ⊥) → value_at code s ≡ refusal 44 none
  unfolding value_at checked_value
  not_utf8 h n = rw (l, utf8_fault s h n)

  pub fine_value : Readable s → value_at code s ≡ integer_lit_value largest s
  unfolding value_at checked_value
  fine_value f = rw (l, no_fault s f.short f.utf8)

own : (code largest : ℕ) (s : List ℕ) {n : ℕ} {p : Place} → ValueType code largest → Readable s
    → integer_read s ≡ refused n p → value_at code s ≡ refusal n p
unfolding integer_lit_value
own code largest s l f h = rw (fine_value code largest s l f, h)

no_value : (code largest : ℕ) (s : List ℕ) {k e : ℕ} {vs : Values} → ValueType code largest → Readable s
    → integer_read s ≡ accepted k e vs → largest < number (base_at s) (main_part s) → value_at code s ≡ refusal 45 none
unfolding integer_lit_value
no_value code largest s l f h g = rw (fine_value code largest s l f, h, lt-leb (number (base_at s) (main_part s)) largest g)

fits : (code largest : ℕ) (s : List ℕ) {k e : ℕ} {vs : Values} → ValueType code largest → Readable s
    → integer_read s ≡ accepted k e vs → number (base_at s) (main_part s) ≤ largest → value_at code s ≡ returned (number (base_at s) (main_part s))
unfolding integer_lit_value
fits code largest s l f h g = rw (fine_value code largest s l f, h, le-leb (number (base_at s) (main_part s)) largest g)

pub value_answers : ValueAnswers
value_answers =
    record { answered = answered; bad_code = bad_code; too_long = too_long; not_utf8 = not_utf8; own = own; no_value = no_value; fits = fits }
