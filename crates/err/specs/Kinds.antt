-- The kinds of literals and their codes (01: "Codes 1 to 8 are also the kinds").
-- Assumes nothing.
use Rattle.std.specs.Prelude.{ℕ, cond, eqb, Option, Some, None}
use Rattle.err.specs.declared.Kind.{Kind}
use Rattle.err.specs.declared.Kind.TheVariants.{Bool, Integer, Float, Char, String, Byte, ByteString, CString}

-- "1 bool, 2 integer, 3 float, 4 char, 5 string, 6 byte, 7 byte string, 8 C string"
abbrev pub kind_code : Kind → ℕ
kind_code Bool = 1
kind_code Integer = 2
kind_code Float = 3
kind_code Char = 4
kind_code String = 5
kind_code Byte = 6
kind_code ByteString = 7
kind_code CString = 8

-- the kind of a code; other codes have none
abbrev pub kind_coded : ℕ → Option Kind
kind_coded code =
    cond (eqb code 1) (Some Bool)
    (cond (eqb code 2) (Some Integer)
    (cond (eqb code 3) (Some Float)
    (cond (eqb code 4) (Some Char)
    (cond (eqb code 5) (Some String)
    (cond (eqb code 6) (Some Byte)
    (cond (eqb code 7) (Some ByteString)
    (cond (eqb code 8) (Some CString)
    None)))))))
