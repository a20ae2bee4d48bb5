-- How one byte is written, case by case: itself, or an escape that is worth it.
-- Assumes nothing.
use mathlib.Core.Path.{◌≡◌, refl, sym, ◌∙◌, subst}
use mathlib.Core.Logic.{◌≢◌}
use mathlib.Core.Bool.{Bool, true, false, cond, ◌&&◌}
use mathlib.Core.List.{List, [], ◌∷◌}
use Prim.Native.Nat.{ℕ, ◌+◌, ◌*◌, ◌/◌, ◌%◌, ◌≤◌, ◌<◌}
use native.Mathlib.Omega.{arith}
use lib.Dec.{T, eqb, ltb, leb, le→leb, leb→le}
use borrow.Author.Tests.{eqb-true, eqb-false, ltb-true, ltb-false, le-leb, lt-leb}
use Rattle.buffer.specs.Digits.{hex_digit, hex_digits}
use Rattle.grammar.specs.Notation.{range, ◌∪◌}
use Rattle.grammar.specs.Numbers.{OCT_DIGIT, HEX_DIGIT}
use Rattle.grammar.specs.Escapes.{QUOTE_ESCAPE, COMMON_ESCAPE, ASCII_ESCAPE, BYTE_ESCAPE, lf, cr, ht, reverse_solidus, nul}
use Rattle.grammar.specs.Escapes as escapes
use Rattle.grammar.specs.Values.{digit_value}
use Rattle.grammar.proofs.Runs.{T_true, true_T, and_l, and_r, and_i, or_l, or_r}
use Rattle.form.specs.Escapes.{escape_letter, x_form, ascii_form, byte_form}

-- what holds of both values holds of the one that is chosen
pub cond_in : {A : Type 0} (P : A → Type 0) (t : Bool) {x y : A} → (t ≡ true → P x) → (t ≡ false → P y) → P (cond t x y)
cond_in P true f g = f refl
cond_in P false f g = g refl

cond_eq : {A : Type 0} (P : A → Type 0) (m n : ℕ) {x y : A} → (m ≡ n → P x) → (m ≢ n → P y) → P (cond (eqb m n) x y)
cond_eq P m n f g = cond_in P (eqb m n) (λ e. f (eqb-true m n e)) (λ e. g (eqb-false m n e))

pub cond_lt : {A : Type 0} (P : A → Type 0) (m n : ℕ) {x y : A} → (m < n → P x) → (n ≤ m → P y) → P (cond (ltb m n) x y)
cond_lt P m n f g = cond_in P (ltb m n) (λ e. f (ltb-true m n e)) (λ e. g (ltb-false m n e))

-- an ASCII character is written as an escape of its own, as the escaped quote, as itself or by its number
pub by_ascii : (q b : ℕ) (P : List ℕ → Type 0)
    → ((t : List ℕ) → COMMON_ESCAPE t b → P t) → (b ≡ q → P (92 ∷ q ∷ [])) → (32 ≤ b → b < 127 → b ≢ 92 → b ≢ q → P (b ∷ [])) → P (x_form b)
    → P (ascii_form q b)
unfolding ascii_form escape_letter
by_ascii q b P simple quote plain code =
    let Q : ℕ → Type 0 = λ l. P (cond (eqb l 0) (cond (leb 32 b && ltb b 127) (b ∷ []) (x_form b)) (92 ∷ l ∷ [])) in
    let is : (v : ℕ) (t : List ℕ) → COMMON_ESCAPE t v → b ≡ v → P t = λ v t s e. simple t (subst (λ (n : ℕ). COMMON_ESCAPE t n) (sym e) s) in
    cond_eq Q b 92 (is 92 (92 ∷ 92 ∷ []) reverse_solidus) λ n.
    cond_eq Q b 10 (is 10 (92 ∷ 110 ∷ []) lf) λ _.
    cond_eq Q b 13 (is 13 (92 ∷ 114 ∷ []) cr) λ _.
    cond_eq Q b 9 (is 9 (92 ∷ 116 ∷ []) ht) λ _.
    cond_eq Q b 0 (is 0 (92 ∷ 48 ∷ []) nul) λ p.
    cond_eq Q b q (λ e. cond_eq P q 0 (λ z. absurd (p (e ∙ z))) (λ _. quote e)) λ m.
    cond_in P (leb 32 b && ltb b 127)
    (λ e. plain (leb→le 32 b (and_l (leb 32 b) (ltb b 127) (true_T _ e))) (ltb-true b 127 (T_true _ (and_r (leb 32 b) (ltb b 127) (true_T _ e)))) n m)
    (λ _. code)

-- ---- two hex digits

hex_cases : (d : ℕ) → d < 16 → (P : ℕ → Type 0) → (d < 10 → P (48 + d)) → (10 ≤ d → P (87 + d)) → P (hex_digit d)
unfolding hex_digit
hex_cases d h P f g = cond_lt P d 10 f g

in_range : (a b c : ℕ) → a ≤ c → c ≤ b → T (range a b c)
in_range a b c h g = and_i (leb a c) (leb c b) (le→leb a c h) (le→leb c b g)

hex_digit_lem : (d : ℕ) → d < 16 → T (HEX_DIGIT (hex_digit d))
unfolding HEX_DIGIT
hex_digit_lem d h =
    hex_cases d h (λ c. T (HEX_DIGIT c))
    (λ l. or_l (range 48 57 (48 + d)) ((range 97 102 ∪ range 65 70) (48 + d)) (in_range 48 57 (48 + d) (omega arith) (omega arith)))
    (λ l. or_r (range 48 57 (87 + d)) _ (or_l (range 97 102 (87 + d)) (range 65 70 (87 + d)) (in_range 97 102 (87 + d) (omega arith) (omega arith))))

oct_digit : (d : ℕ) → d < 8 → T (OCT_DIGIT (hex_digit d))
unfolding OCT_DIGIT
oct_digit d h = hex_cases d (omega arith) (λ c. T (OCT_DIGIT c)) (λ l. in_range 48 55 (48 + d) (omega arith) (omega arith)) (λ l. absurd (omega arith))

hex_value : (d : ℕ) → d < 16 → digit_value (hex_digit d) ≡ d
unfolding digit_value
hex_value d h =
    hex_cases d h (λ c. digit_value c ≡ d) (λ l. simp (le-leb (48 + d) 57 (omega arith)) (omega arith))
    (λ l. simp (lt-leb (87 + d) 57 (omega arith), lt-leb (87 + d) 70 (omega arith)) (omega arith))

x_value : (b : ℕ) → b < 256 → digit_value (hex_digit (b / 16)) * 16 + digit_value (hex_digit (b % 16)) ≡ b
x_value b h = rw (hex_value (b / 16) (omega arith), hex_value (b % 16) (omega arith)) (omega arith)

pub x_ascii : (b : ℕ) → b < 128 → ASCII_ESCAPE (x_form b) b
unfolding hex_digits
x_ascii b h =
    subst (λ (v : ℕ). ASCII_ESCAPE (x_form b) v) (x_value b (omega arith))
    (escapes.ASCII_ESCAPE.code (hex_digit (b / 16)) (hex_digit (b % 16)) (oct_digit (b / 16) (omega arith)) (hex_digit_lem (b % 16) (omega arith)))

pub x_byte_lem : (b : ℕ) → b < 256 → BYTE_ESCAPE (x_form b) b
unfolding hex_digits
x_byte_lem b h =
    subst (λ (v : ℕ). BYTE_ESCAPE (x_form b) v) (x_value b h)
    (escapes.BYTE_ESCAPE.code (hex_digit (b / 16)) (hex_digit (b % 16)) (hex_digit_lem (b / 16) (omega arith)) (hex_digit_lem (b % 16) (omega arith)))

-- ---- the cases by what the grammar calls them

-- an ASCII character in kinds 4 and 5, where q is quoted by an escape
pub by_char : (q b : ℕ) (P : List ℕ → Type 0) → QUOTE_ESCAPE (92 ∷ q ∷ []) q → b < 128
    → ((t : List ℕ) → ASCII_ESCAPE t b → P t) → ((t : List ℕ) → QUOTE_ESCAPE t b → P t) → (32 ≤ b → b < 127 → b ≢ 92 → b ≢ q → P (b ∷ []))
    → P (ascii_form q b)
by_char q b P e h ascii quote plain =
    by_ascii q b P (λ t s. ascii t (escapes.ASCII_ESCAPE.simple s)) (λ i. quote _ (subst (λ (v : ℕ). QUOTE_ESCAPE (92 ∷ q ∷ []) v) (sym i) e)) plain
    (ascii (x_form b) (x_ascii b h))

-- a byte in kinds 6, 7 and 8
pub by_byte : (q b : ℕ) (P : List ℕ → Type 0) → QUOTE_ESCAPE (92 ∷ q ∷ []) q → b < 256
    → ((t : List ℕ) → BYTE_ESCAPE t b → P t) → (32 ≤ b → b < 127 → b ≢ 92 → b ≢ q → P (b ∷ [])) → P (byte_form q b)
unfolding byte_form
by_byte q b P e h escape plain =
    cond_lt P b 128 (λ l.
    by_ascii q b P (λ t s. escape t (escapes.BYTE_ESCAPE.simple s))
    (λ i. escape _ (escapes.BYTE_ESCAPE.quote (subst (λ (v : ℕ). QUOTE_ESCAPE (92 ∷ q ∷ []) v) (sym i) e))) plain
    (escape (x_form b) (x_byte_lem b h)))
    (λ l. escape (x_form b) (x_byte_lem b h))
