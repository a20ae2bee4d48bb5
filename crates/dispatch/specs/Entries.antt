-- Which entry reads a text. But for the first, for contracts between functions, no sentence of a document; law `kind_read` (literal) joins them
-- to what reading returns.
-- Assumes nothing.
use Rattle.std.specs.Prelude.{ℕ, Bool, cond, ◌||◌, List, [], ◌∷◌, eqb, get_or, Option, Some, None, Result, Ok, Err}
use Rattle.scan.specs.Run.{run}
use Rattle.parse.specs.Sets.{digit, dec_digit, starts_e}
use Rattle.err.specs.Kinds.{kind_code}
use Rattle.err.specs.declared.Kind.{Kind}

-- 01, Floats: "Entry 0 picks float when the first byte after the leading digits and `_` is `.`, `e` or `E`."
-- 46 is `.`
unfoldable pub starts_float : List ℕ → Bool
starts_float s = eqb (get_or s (run (digit 10) s) 0) 46 || starts_e s (run (digit 10) s)

-- of a number: float or integer, by the rule above
unfoldable pub number_entry : List ℕ → ℕ
number_entry s = cond (starts_float s) 3 2

-- of a text that starts with `b`: byte, byte string, or 9, which is no entry
-- 39 is `'`, 114 is `r`, 34 is `"`
unfoldable pub byte_entry : List ℕ → ℕ
byte_entry s =
    cond (eqb (get_or s 1 0) 39) 6
    (cond (eqb (get_or s 1 0) 114 || eqb (get_or s 1 0) 34) 7
    9)

-- by the first byte, as `any_by`
-- 102 is `f`, 116 is `t`, 39 is `'`, 34 is `"`, 114 is `r`, 98 is `b`, 99 is `c`
unfoldable pub entry_by : ℕ → List ℕ → ℕ
entry_by b s =
    cond (dec_digit b) (number_entry s)
    (cond (eqb b 102 || eqb b 116) 1
    (cond (eqb b 39) 4
    (cond (eqb b 34 || eqb b 114) 5
    (cond (eqb b 98) (byte_entry s)
    (cond (eqb b 99) 8
    9)))))

-- the entry from 1 to 8 that reads a text as entry 0 does; 9 where no kind is known, which is refused with 3. The empty text is refused with 1, as by entry 2
unfoldable pub entry_for : List ℕ → ℕ
entry_for [] = 2
entry_for (b ∷ s) = entry_by b (b ∷ s)

-- the entry that reads a text by an entry code: that of the code, but for 0
unfoldable pub chosen_entry : ℕ → List ℕ → ℕ
chosen_entry code s = cond (eqb code 0) (entry_for s) code

-- the entry of the kind that was chosen; 9 where none was
abbrev pub entry_code : Option Kind → ℕ
entry_code (Some k) = kind_code k
entry_code None = 9

-- the entry that was chosen: that of the kind, or a number that is no kind's code
abbrev pub chosen_code : Result Kind ℕ → ℕ
chosen_code (Ok k) = kind_code k
chosen_code (Err n) = n
