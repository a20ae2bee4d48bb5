-- Request e of document 02: "The byte classes shall be worked out by comparisons and the 256 entries dropped. Every class keeps its number."
--
-- The contract of `parse::class_of`, which works out the class of a byte: r ≡ class_of b. The scans go by the same rule: the contract of `scan::run_len` is
-- r ≡ run (S.holds set) s, and the sets of `parse` test a byte's class; that of `parse::digit_run` is `DigitScan`, by `digit` and `is_digit`, which do too. 01 lists the classes: "hex digit value 0 to 15; 16 `_`; 17 other ASCII letter; 18 space,
-- tab, LF; 19 other ASCII; 20 above 127".
-- Assumes nothing.
use Rattle.std.specs.Prelude.{ℕ, ◌-◌, ◌<◌, ◌≡◌, cond}
use Rattle.parse.specs.Class.{within, class_of}

-- 01's list, range by range, from byte 0 up; `within a e b` is true for the bytes b from a to e, both included
unfoldable pub listed : ℕ → ℕ
listed b =
    cond (within 0 8 b) 19
    -- tab, LF
    (cond (within 9 10 b) 18
    (cond (within 11 31 b) 19
    -- space
    (cond (within 32 32 b) 18
    (cond (within 33 47 b) 19
    -- `0` to `9`
    (cond (within 48 57 b) (b - 48)
    (cond (within 58 64 b) 19
    -- `A` to `F`
    (cond (within 65 70 b) (b - 55)
    -- `G` to `Z`
    (cond (within 71 90 b) 17
    (cond (within 91 94 b) 19
    -- `_`
    (cond (within 95 95 b) 16
    (cond (within 96 96 b) 19
    -- `a` to `f`
    (cond (within 97 102 b) (b - 87)
    -- `g` to `z`
    (cond (within 103 122 b) 17
    (cond (within 123 127 b) 19
    -- above 127
    20))))))))))))))

-- "Every class keeps its number": each of the 256 bytes has the class that 01 lists
abbrev pub ByteClasses : Type 0
ByteClasses = (b : ℕ) → b < 256 → class_of b ≡ listed b
