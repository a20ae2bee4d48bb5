-- What a string literal of each kind is worth, and how its settled form opens.
-- Assumes nothing.
use Rattle.std.specs.Prelude.{Bool, true, false, List, [], ◌∷◌, ℕ}
use Rattle.escape.specs.declared.Allowed.{Allowed}
use Rattle.escape.specs.declared.Allowed.TheVariants.{Text, Bytes, C}
use Rattle.grammar.specs.Meaning.{Worth}
use Rattle.grammar.specs.Meaning as worth

abbrev pub worth_in : Allowed → List ℕ → Worth
worth_in Text v = worth.string v
worth_in Bytes v = worth.byte_string v
worth_in C v = worth.c_string v

-- 01, The settled form: "Quoted: never raw"
-- 34 is `"`, 98 is `b`, 99 is `c`
abbrev pub opening_of : Allowed → List ℕ
opening_of Text = 34 ∷ []
opening_of Bytes = 98 ∷ 34 ∷ []
opening_of C = 99 ∷ 34 ∷ []

-- in string literals a byte above 127 stands as itself
abbrev pub verbatim_in : Allowed → Bool
verbatim_in Text = true
verbatim_in Bytes = false
verbatim_in C = false
