-- No byte of a settled form is a line feed.
-- Assumes nothing.
use mathlib.Core.Logic.{◌≢◌}
use mathlib.Core.Bool.{true, false, not, ◌&&◌}
use mathlib.Core.List.{List, [], ◌∷◌, ◌++◌}
use Prim.Native.Nat.{ℕ, ◌+◌, ◌/◌, ◌%◌, ◌≤◌}
use native.Mathlib.Omega.{arith}
use lib.Dec.{T, eqb}
use borrow.Author.Tests.{ne_eqb}
use Rattle.buffer.specs.Digits.{decimal, hex_digit, hex_digits}
use Rattle.utf8.specs.Utf8.{encode}
use Rattle.grammar.specs.Notation.{byte, ◌∪◌, all, begins}
use Rattle.grammar.specs.Suffixes.{DEC_DIGIT, LOW, XID_START, XID_CONTINUE}
use Rattle.grammar.specs.Escapes.{COMMON_ESCAPE, lf, cr, ht, reverse_solidus, nul}
use Rattle.grammar.specs.Quoted.{except}
use Rattle.grammar.specs.Decimal.{Decimal}
use Rattle.grammar.specs.Meaning.{Worth, Means, is_true, is_false, is_integer, is_float, is_char, is_string, is_raw_string, is_byte, is_byte_string, is_raw_byte_string, is_c_string, is_raw_c_string}
use Rattle.grammar.specs.Meaning as worth
use Rattle.grammar.proofs.Scan.{empty, suffix_ok}
use Rattle.grammar.proofs.Runs.{T_not, and_l, and_r, and_i, all_append}
use Rattle.grammar.proofs.Integers.{at, suffix_ok_lem}
use Rattle.form.specs.Escapes.{x_form, ascii_form, char_form, byte_form, char_forms, byte_forms}
use Rattle.form.specs.Form.{integer_form, reduced_form, bare_form, form_of}
use Rattle.form.specs.Reduced.{reduce}
use Rattle.form.proofs.Fit.{Each, Fit}
use Rattle.form.proofs.Bytes.{cond_in, cond_lt, by_ascii}
use Rattle.form.proofs.ByBytes.{text_form, text_forms, high_bytes, by_bytes}
use Rattle.form.proofs.Decimals.{dec_is, decimal_all, all_more}
use Rattle.form.proofs.Behind.{after_integer_lem, after_float}

abbrev pub NoLF : List ℕ → Type 0
NoLF s = T (all (except (byte 10)) s)

other : (b : ℕ) → b ≢ 10 → T (except (byte 10) b)
other b h = rw (ne_eqb b 10 h) tt

single : (b : ℕ) → b ≢ 10 → NoLF (b ∷ [])
single b h = and_i (except (byte 10) b) true (other b h) tt

append : (u v : List ℕ) → NoLF u → NoLF v → NoLF (u ++ v)
append = all_append (except (byte 10))

-- ---- a suffix, and digits

continue_lf : (c : ℕ) → T (XID_CONTINUE c) → T (except (byte 10) c)
unfolding XID_CONTINUE XID_START DEC_DIGIT LOW
continue_lf c t = T_not (byte 10 c) (λ e. at XID_CONTINUE 10 c e t)

start_lf : (c : ℕ) → T ((XID_START ∪ LOW) c) → T (except (byte 10) c)
unfolding XID_START LOW
start_lf c t = T_not (byte 10 c) (λ e. at (XID_START ∪ LOW) 10 c e t)

suffix_lf : (x : List ℕ) → T (suffix_ok x) → NoLF x
suffix_lf [] t = tt
suffix_lf (c ∷ x) t =
    let b = and_r (not (LOW c && empty x)) ((XID_START ∪ LOW) c && all XID_CONTINUE x) t in
    and_i (except (byte 10) c) (all (except (byte 10)) x) (start_lf c (and_l ((XID_START ∪ LOW) c) (all XID_CONTINUE x) b))
    (all_more XID_CONTINUE (except (byte 10)) continue_lf x (and_r ((XID_START ∪ LOW) c) (all XID_CONTINUE x) b))

decimal_lf : (n : ℕ) → NoLF (decimal n)
decimal_lf n = all_more DEC_DIGIT (except (byte 10)) (λ c t. let d = dec_is c t in other c (λ e. omega arith)) (decimal n) (decimal_all n)

integer_lf : (n : ℕ) (x : List ℕ) → NoLF (integer_form n x)
unfolding integer_form
integer_lf n x = cond_in NoLF (eqb n 0 && begins (byte 98 ∪ byte 111 ∪ byte 120) x) (λ e. tt) (λ e. decimal_lf n)

reduced_lf : (r : Decimal) → NoLF (reduced_form r)
unfolding reduced_form
reduced_lf r =
    append (decimal r.coef) _ (decimal_lf r.coef)
    (cond_in NoLF (eqb r.down 0) {x = decimal r.up} {y = 45 ∷ decimal r.down} (λ e. decimal_lf r.up) (λ e. decimal_lf r.down))

-- ---- characters and bytes

hex_lf : (d : ℕ) → T (except (byte 10) (hex_digit d))
unfolding hex_digit
hex_lf d = cond_lt (λ (c : ℕ). T (except (byte 10) c)) d 10 (λ h. other (48 + d) (λ e. omega arith)) (λ h. other (87 + d) (λ e. omega arith))

x_lf : (b : ℕ) → NoLF (x_form b)
unfolding hex_digits
x_lf b = and_i (except (byte 10) (hex_digit (b / 16))) _ (hex_lf (b / 16)) (and_i (except (byte 10) (hex_digit (b % 16))) true (hex_lf (b % 16)) tt)

simple_lf : (t : List ℕ) (b : ℕ) → COMMON_ESCAPE t b → NoLF t
simple_lf _ _ lf = tt
simple_lf _ _ cr = tt
simple_lf _ _ ht = tt
simple_lf _ _ reverse_solidus = tt
simple_lf _ _ nul = tt

high_lf : (l : List ℕ) → Each (λ b. 128 ≤ b) l → NoLF l
high_lf [] g = tt
high_lf (b ∷ l) g = append (b ∷ []) l (single b (λ e. omega (arith, g.0))) (high_lf l g.1)

module _ (q : ℕ) (h : q ≢ 10) where
  ascii_lf : (b : ℕ) → NoLF (ascii_form q b)
  ascii_lf b = by_ascii q b NoLF (λ t s. simple_lf t b s) (λ e. single q h) (λ l _ _ _. single b (λ e. omega arith)) (x_lf b)

  byte_lf : (b : ℕ) → NoLF (byte_form q b)
  unfolding byte_form
  byte_lf b = cond_lt NoLF b 128 (λ _. ascii_lf b) (λ _. x_lf b)

  text_lf : (b : ℕ) → NoLF (text_form q b)
  text_lf b = cond_lt NoLF b 128 (λ _. ascii_lf b) (λ g. single b (λ e. omega arith))

  char_lf : (c : ℕ) → NoLF (char_form q c)
  unfolding char_form
  char_lf c = cond_lt NoLF c 128 (λ _. ascii_lf c) (λ g. high_lf (encode c) (high_bytes c g))

  bytes_lf : (v : List ℕ) → NoLF (byte_forms q v)
  bytes_lf [] = tt
  bytes_lf (b ∷ v) = append (byte_form q b) (byte_forms q v) (byte_lf b) (bytes_lf v)

  texts_lf : (v : List ℕ) → NoLF (text_forms q v)
  texts_lf [] = tt
  texts_lf (b ∷ v) = append (text_form q b) (text_forms q v) (text_lf b) (texts_lf v)

-- ---- the whole

bare_lf : (w : Worth) (x : List ℕ) → Fit w → NoLF (bare_form w x)
bare_lf (worth.Worth.bool true) x f = tt
bare_lf (worth.Worth.bool false) x f = tt
bare_lf (worth.Worth.integer n) x f = integer_lf n x
bare_lf (worth.Worth.float d) x f = reduced_lf (reduce d)
bare_lf (worth.Worth.char c) x f = append (char_form 39 c) (39 ∷ []) (char_lf 39 (λ e. omega arith) c) tt
bare_lf (worth.Worth.string v) x f = append (char_forms 34 v) (34 ∷ []) (rw (by_bytes v f) (texts_lf 34 (λ e. omega arith) v)) tt
bare_lf (worth.Worth.byte b) x f = append (byte_form 39 b) (39 ∷ []) (byte_lf 39 (λ e. omega arith) b) tt
bare_lf (worth.Worth.byte_string v) x f = append (byte_forms 34 v) (34 ∷ []) (bytes_lf 34 (λ e. omega arith) v) tt
bare_lf (worth.Worth.c_string v) x f = append (byte_forms 34 v) (34 ∷ []) (bytes_lf 34 (λ e. omega arith) v) tt

-- the suffix of a text is good
pub means_suffix : (s : List ℕ) (w : Worth) (x : List ℕ) → Means s w x → T (suffix_ok x)
means_suffix s w x (is_true e i z) = rw z tt
means_suffix s w x (is_false e i z) = rw z tt
means_suffix s w x (is_integer t i z) = rw z (after_integer_lem s t).ok
means_suffix s w x (is_float t i z) = rw z (after_float s t).ok
means_suffix s w x (is_char v t i) = suffix_ok_lem x t.ending
means_suffix s w x (is_string v t i) = suffix_ok_lem x t.ending
means_suffix s w x (is_raw_string v t i) = suffix_ok_lem x t.ending
means_suffix s w x (is_byte v t i) = suffix_ok_lem x t.ending
means_suffix s w x (is_byte_string v t i) = suffix_ok_lem x t.ending
means_suffix s w x (is_raw_byte_string v t i) = suffix_ok_lem x t.ending
means_suffix s w x (is_c_string v t i) = suffix_ok_lem x t.ending
means_suffix s w x (is_raw_c_string v t i) = suffix_ok_lem x t.ending

pub no_lf : (s : List ℕ) (w : Worth) (x : List ℕ) → Means s w x → Fit w → T (all (except (byte 10)) (form_of w x))
unfolding form_of
no_lf s w x m f = append (bare_form w x) x (bare_lf w x f) (suffix_lf x (means_suffix s w x m))
