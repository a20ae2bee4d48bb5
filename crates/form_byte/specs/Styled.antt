-- The bytes of a value as a settled form writes them, over what the kinds differ in: the quote, and whether a byte above 127 stands as itself.
-- `proofs/Styles` shows that these are `char_forms` and `byte_forms` of crate form.
-- Assumes nothing.
use Rattle.std.specs.Prelude.{Bool, true, false, cond, List, [], ◌∷◌, ◌++◌, ℕ, ◌+◌, ◌-◌, ltb, eqb, length, Option, Some, None}
use Rattle.form.specs.Escapes.{escape_letter, ascii_form, x_form}
use Rattle.form_byte.specs.declared.Spelling.{Spelling}
use Rattle.form_byte.specs.declared.Spelling.TheVariants.{Itself, Letter, Hex}

-- a byte above 127: itself in kinds 4 and 5, an escape in the others
abbrev pub high_form : Bool → ℕ → List ℕ
high_form verbatim b = cond verbatim (b ∷ []) (x_form b)

-- a byte of a value, where the kind's quote is q
unfoldable pub styled_form : Bool → ℕ → ℕ → List ℕ
styled_form verbatim q b = cond (ltb b 128) (ascii_form q b) (high_form verbatim b)

-- all of them, in order
abbrev pub styled_forms : Bool → ℕ → List ℕ → List ℕ
styled_forms verbatim q [] = []
styled_forms verbatim q (b ∷ v) = styled_form verbatim q b ++ styled_forms verbatim q v

-- how many bytes more than one a byte of a value has in the form
abbrev pub extra_of : Bool → ℕ → ℕ → ℕ
extra_of verbatim q b = length (styled_form verbatim q b) - 1

-- all of them, in sum
abbrev pub extras_of : Bool → ℕ → List ℕ → ℕ
extras_of verbatim q [] = 0
extras_of verbatim q (b ∷ v) = extra_of verbatim q b + extras_of verbatim q v

-- a byte that is its own form (`proofs/Styles` shows it): no control character, backslash or quote, and one above 127 only in a kind that
-- lets it stand as itself
-- 32 is space, 127 is DEL, 92 is `\`
unfoldable pub itself : Bool → ℕ → ℕ → Bool
itself verbatim q b =
    cond (ltb b 32) false
    (cond (eqb b 92) false
    (cond (eqb b q) false
    (cond (ltb b 127) true
    (cond (eqb b 127) false verbatim))))

-- what stands after the backslash, where there is such an escape
unfoldable pub letter_of : ℕ → ℕ → Option ℕ
letter_of q b = cond (eqb (escape_letter q b) 0) None (Some (escape_letter q b))

-- a byte as it is spelled
-- 92 is `\`
abbrev pub spelled : Spelling → ℕ → List ℕ
spelled Itself b = b ∷ []
spelled (Letter l) b = 92 ∷ l ∷ []
spelled Hex b = x_form b
