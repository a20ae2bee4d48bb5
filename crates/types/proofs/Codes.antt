-- A type's code stands for that type.
-- Assumes nothing.
use mathlib.Core.Path.{◌≡◌, refl}
use Rattle.std.specs.Prelude.{Some}
use Rattle.types.specs.Types.{integer_code, integer_coded}
use Rattle.types.specs.declared.IntegerType.{IntegerType}
use Rattle.types.specs.declared.IntegerType.TheVariants.{U8, U16, U32, U64, U128, Usize, I8, I16, I32, I64, I128, Isize}

pub coded : (t : IntegerType) → integer_coded (integer_code t) ≡ Some t
coded U8 = refl
coded U16 = refl
coded U32 = refl
coded U64 = refl
coded U128 = refl
coded Usize = refl
coded I8 = refl
coded I16 = refl
coded I32 = refl
coded I64 = refl
coded I128 = refl
coded Isize = refl
