-- Demand 1 holds.
-- Assumes nothing.
use mathlib.Core.Path.{◌≡◌, refl, ◌∙◌}
use mathlib.Core.Bool.{true}
use mathlib.Core.List.{List}
use Prim.Native.Nat.{ℕ}
use Rattle.std.specs.Prelude.{Option}
use Rattle.scan.specs.Same.{same}
use Rattle.scan.proofs.Cases.{cond_in}
use Rattle.scan.proofs.Sames.{same_eq}
use Rattle.utf8.specs.Utf8.{encode}
use Rattle.types.specs.Types.{named_in, integer_named, integer_code, float_named, float_code}
use Rattle.types.specs.declared.IntegerType.{IntegerType}
use Rattle.types.specs.declared.IntegerType.TheVariants.{U8, U16, U32, U64, U128, Usize, I8, I16, I32, I64, I128, Isize}
use Rattle.types.specs.declared.FloatType.{FloatType}
use Rattle.types.specs.declared.FloatType.TheVariants.{F32, F64}
use Rattle.literal.specs.Suffixes.{code_of_integer, integer_from_suffix, code_of_float, float_from_suffix}
use Rattle.demands.specs.Demand1.{integer_name, float_name, SuffixAnswers, Demand1}
use Rattle.demands.proofs.ReadCall.{read_answers}
use Rattle.demands.proofs.KeyedCall.{keyed_answers}
use Rattle.demands.proofs.ValueCall.{value_answers}
use Rattle.demands.proofs.DecodeCall.{decode_answers}
use Rattle.demands.proofs.SettleCall.{settle_answers, number_answers}
use Rattle.demands.proofs.Spans.{span_answers}

-- ---- a name that has a code

integer_named_lem : (t : IntegerType) → integer_from_suffix (integer_name t) ≡ integer_code t
unfolding encode named_in integer_named integer_from_suffix
integer_named_lem U8 = refl
integer_named_lem U16 = refl
integer_named_lem U32 = refl
integer_named_lem U64 = refl
integer_named_lem U128 = refl
integer_named_lem Usize = refl
integer_named_lem I8 = refl
integer_named_lem I16 = refl
integer_named_lem I32 = refl
integer_named_lem I64 = refl
integer_named_lem I128 = refl
integer_named_lem Isize = refl

float_named_lem : (t : FloatType) → float_from_suffix (float_name t) ≡ float_code t
unfolding encode float_named float_from_suffix
float_named_lem F32 = refl
float_named_lem F64 = refl

-- ---- any other name

module _ (name : List ℕ) where
  unnamed : ((t : IntegerType) → name ≡ integer_name t → ⊥) → integer_from_suffix name ≡ 0
  unfolding encode named_in integer_named integer_from_suffix
  unnamed never =
      cond_in P _ (is U8 refl) λ a. cond_in P _ (is U16 refl) λ a. cond_in P _ (is U32 refl) λ a. cond_in P _ (is U64 refl) λ a.
      cond_in P _ (is U128 refl) λ a. cond_in P _ (is Usize refl) λ a. cond_in P _ (is I8 refl) λ a. cond_in P _ (is I16 refl) λ a.
      cond_in P _ (is I32 refl) λ a. cond_in P _ (is I64 refl) λ a. cond_in P _ (is I128 refl) λ a. cond_in P _ (is Isize refl) λ a. refl
    where
      P : Option IntegerType → Type 0
      P f = code_of_integer f ≡ 0

      is : {x : List ℕ} {A : Type 0} (t : IntegerType) → x ≡ integer_name t → same name x ≡ true → A
      is t e h = absurd (never t (same_eq name _ h ∙ e))

  no_float_named : ((t : FloatType) → name ≡ float_name t → ⊥) → float_from_suffix name ≡ 0
  unfolding encode float_named float_from_suffix
  no_float_named never =
      let P : Option FloatType → Type 0 = λ f. code_of_float f ≡ 0 in
      cond_in P _ (λ h. absurd (never F32 (same_eq name _ h))) λ a. cond_in P _ (λ h. absurd (never F64 (same_eq name _ h))) λ a. refl

suffix_answers : SuffixAnswers
suffix_answers = record { integer = integer_named_lem; no_integer = unnamed; float = float_named_lem; no_float = no_float_named }

pub demand_1 : Demand1
demand_1 = record { read = read_answers; keyed = keyed_answers; value = value_answers; decode = decode_answers; suffixes = suffix_answers; settle = settle_answers; spans = span_answers; numbers = number_answers }
