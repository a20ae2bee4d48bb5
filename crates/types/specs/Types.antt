-- The types that a suffix can name (01: "Type codes" and "The `from_suffix` of integers knows 1 to 12, that of floats 13 and 14").
-- Assumes nothing.
use Rattle.std.specs.Prelude.{ℕ, cond, List, [], ◌∷◌, eqb, Option, Some, None}
use Rattle.scan.specs.Same.{same}
use Rattle.types.specs.declared.IntegerType.{IntegerType}
use Rattle.types.specs.declared.IntegerType.TheVariants.{U8, U16, U32, U64, U128, Usize, I8, I16, I32, I64, I128, Isize}
use Rattle.types.specs.declared.FloatType.{FloatType}
use Rattle.types.specs.declared.FloatType.TheVariants.{F32, F64}

-- the type that a name has in a list of names, the first where there are several
unfoldable pub named_in : List (List ℕ × IntegerType) → List ℕ → Option IntegerType
named_in [] s = None
named_in ((name, t) ∷ more) s = cond (same s name) (Some t) (named_in more s)

-- 01, Type codes: the names `u8`, `u16`, `u32`, `u64`, `u128`, `usize`, `i8`, `i16`, `i32`, `i64`, `i128`, `isize`
abbrev pub integer_names : List (List ℕ × IntegerType)
integer_names =
    (117 ∷ 56 ∷ [], U8) ∷
    (117 ∷ 49 ∷ 54 ∷ [], U16) ∷
    (117 ∷ 51 ∷ 50 ∷ [], U32) ∷
    (117 ∷ 54 ∷ 52 ∷ [], U64) ∷
    (117 ∷ 49 ∷ 50 ∷ 56 ∷ [], U128) ∷
    (117 ∷ 115 ∷ 105 ∷ 122 ∷ 101 ∷ [], Usize) ∷
    (105 ∷ 56 ∷ [], I8) ∷
    (105 ∷ 49 ∷ 54 ∷ [], I16) ∷
    (105 ∷ 51 ∷ 50 ∷ [], I32) ∷
    (105 ∷ 54 ∷ 52 ∷ [], I64) ∷
    (105 ∷ 49 ∷ 50 ∷ 56 ∷ [], I128) ∷
    (105 ∷ 115 ∷ 105 ∷ 122 ∷ 101 ∷ [], Isize) ∷
    []

-- "each answers 0 to every other name": here none
unfoldable pub integer_named : List ℕ → Option IntegerType
integer_named s = named_in integer_names s

-- the type of a code
abbrev pub integer_coded : ℕ → Option IntegerType
integer_coded c =
    cond (eqb c 1) (Some U8)
    (cond (eqb c 2) (Some U16)
    (cond (eqb c 3) (Some U32)
    (cond (eqb c 4) (Some U64)
    (cond (eqb c 5) (Some U128)
    (cond (eqb c 6) (Some Usize)
    (cond (eqb c 7) (Some I8)
    (cond (eqb c 8) (Some I16)
    (cond (eqb c 9) (Some I32)
    (cond (eqb c 10) (Some I64)
    (cond (eqb c 11) (Some I128)
    (cond (eqb c 12) (Some Isize)
    None)))))))))))

-- "u8 1, u16 2, u32 3, u64 4, u128 5, usize 6, i8 7, i16 8, i32 9, i64 10, i128 11, isize 12"
abbrev pub integer_code : IntegerType → ℕ
integer_code U8 = 1
integer_code U16 = 2
integer_code U32 = 3
integer_code U64 = 4
integer_code U128 = 5
integer_code Usize = 6
integer_code I8 = 7
integer_code I16 = 8
integer_code I32 = 9
integer_code I64 = 10
integer_code I128 = 11
integer_code Isize = 12

-- the largest value; 01, Integers: "type codes 1 to 4 and 7 to 10, all others 42"
abbrev pub largest_of : IntegerType → Option ℕ
largest_of U8 = Some 0xFF
largest_of U16 = Some 0xFFFF
largest_of U32 = Some 0xFFFFFFFF
largest_of U64 = Some 0xFFFFFFFFFFFFFFFF
largest_of U128 = None
largest_of Usize = None
largest_of I8 = Some 0x7F
largest_of I16 = Some 0x7FFF
largest_of I32 = Some 0x7FFFFFFF
largest_of I64 = Some 0x7FFFFFFFFFFFFFFF
largest_of I128 = None
largest_of Isize = None

-- the names `f32`, `f64`; every other name has none
unfoldable pub float_named : List ℕ → Option FloatType
float_named s =
    cond (same s (102 ∷ 51 ∷ 50 ∷ [])) (Some F32)
    (cond (same s (102 ∷ 54 ∷ 52 ∷ [])) (Some F64)
    None)

-- "f32 13, f64 14"
abbrev pub float_code : FloatType → ℕ
float_code F32 = 13
float_code F64 = 14
