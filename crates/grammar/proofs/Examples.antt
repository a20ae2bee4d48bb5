-- Examples of the two chapters, as theorems on the definitions.
-- Assumes nothing.
use mathlib.Core.Path.{◌≡◌, refl, sym, ap, ◌∙◌, subst, subst⁻¹}
use mathlib.Core.Logic.{inl}
use mathlib.Core.Bool.{Bool, true, false, not, ◌&&◌}
use mathlib.Core.List.{List, [], ◌∷◌, ◌++◌, tail-eq_of_cons-eq}
use Prim.Native.Nat.{ℕ, suc, ◌+◌, ◌*◌, ◌≤◌, ◌<◌}
use native.Mathlib.Omega.{arith}
use lib.Dec.{T, eqb, eqb_refl}
use lib.ListN.{length}
use Rattle.utf8.specs.Utf8.{encode}
use Rattle.grammar.specs.Notation.{bytes, all, byte, ◌∪◌, times}
use Rattle.grammar.specs.Suffixes.{DEC_DIGIT, LOW, E, XID_START, XID_CONTINUE}
use Rattle.grammar.specs.Numbers.{BIN_DIGIT, OCT_DIGIT, HEX_DIGIT, SIGN}
use Rattle.grammar.specs.Values.{digit_value, number_in, radix_of, integer_value}
use Rattle.grammar.specs.Escapes.{QUOTE_ESCAPE, COMMON_ESCAPE, ASCII_ESCAPE, BYTE_ESCAPE, HEX_GROUPS, UNICODE_ESCAPE, WHITESPACE}
use Rattle.grammar.specs.Quoted.{except, Pieces, none, some, STRING_PIECE, C_STRING_PIECE, CHAR_CONTENT, BYTE_CONTENT, closing}
use Rattle.grammar.specs.Meaning.{Worth, Means, is_char, is_string, is_raw_string, is_byte, is_c_string}
use Rattle.grammar.proofs.Scan.{integer_ok, integer_part, integer_suffix, float_ok, float_parts, suffix_ok}
use Rattle.grammar.proofs.Runs.{not_t, and_l, and_r, and_i}
use Rattle.grammar.proofs.Integers.{suffix_ok_lem}
use Rattle.grammar.proofs.Splits.{hashes_unique, closing_unique}
use Rattle.grammar.proofs.NumberSplits.{integer_means, float_means}
use Rattle.grammar.proofs.Unambiguous.{means_form, no_number}

-- no meaning
abbrev pub None : List ℕ → Type 0
None s = (w : Worth) (x : List ℕ) → Means s w x → ⊥

-- ---- numbers

pub record Numbers : Type 0 where
  -- "integer 7986, not floating-point 1.0"
  pub hex_f : Means (bytes "0x01_f32") (Worth.integer 7986) []
  -- "integer 483, not floating-point 1000.0"
  pub hex_e : Means (bytes "0x01_e3") (Worth.integer 483) []
  pub low : Means (bytes "123_u32") (Worth.integer 123) (bytes "u32")
  pub octal : Means (bytes "0o70_i16") (Worth.integer 56) (bytes "i16")
  pub binary : Means (bytes "0b1111_1111_1001_0000i64") (Worth.integer 65424) (bytes "i64")
  pub lows : Means (bytes "0b________1") (Worth.integer 1) []
  -- "This is an integer literal, accepted as a floating-point literal expression."
  pub float_suffix : Means (bytes "5f32") (Worth.integer 5) (bytes "f32")
  -- "integer literals which are not accepted as literal expressions"
  pub other_suffix : Means (bytes "123AFB43") (Worth.integer 123) (bytes "AFB43")
  pub binary_suffix : Means (bytes "0b010a") (Worth.integer 2) (bytes "a")
  pub hex_suffix : Means (bytes "0xAB_CD_EF_GH") (Worth.integer 11259375) (bytes "GH")
  pub fraction : Means (bytes "0.1f64") (Worth.float (record { coef = 1; up = 0; down = 1 })) (bytes "f64")
  pub exponent : Means (bytes "12E+99_f64") (Worth.float (record { coef = 12; up = 99; down = 0 })) (bytes "f64")
  pub point : Means (bytes "2.") (Worth.float (record { coef = 2; up = 0; down = 0 })) []
  -- "floating-point literals which are not accepted as literal expressions"
  pub second_e : Means (bytes "2.0e5e6") (Worth.float (record { coef = 20; up = 5; down = 1 })) (bytes "e6")
  -- of our own: "Any underscores are removed from the string", and a minus
  pub lows_and_minus : Means (bytes "1_0.2_5e-3_") (Worth.float (record { coef = 1025; up = 0; down = 5 })) []

numbers_hold : Numbers
unfolding encode integer_ok integer_part integer_suffix float_ok float_parts integer_value radix_of number_in digit_value DEC_DIGIT LOW E BIN_DIGIT OCT_DIGIT HEX_DIGIT SIGN XID_START XID_CONTINUE
numbers_hold =
    record {
      hex_f = integer_means _ tt;
      hex_e = integer_means _ tt;
      low = integer_means _ tt;
      octal = integer_means _ tt;
      binary = integer_means _ tt;
      lows = integer_means _ tt;
      float_suffix = integer_means _ tt;
      other_suffix = integer_means _ tt;
      binary_suffix = integer_means _ tt;
      hex_suffix = integer_means _ tt;
      fraction = float_means _ tt;
      exponent = float_means _ tt;
      point = float_means _ tt;
      second_e = float_means _ tt;
      lows_and_minus = float_means _ tt;
    }

-- "Examples of reserved forms"
pub record Reserved : Type 0 where
  pub bin_out : None (bytes "0b0102")
  pub oct_out : None (bytes "0o1279")
  pub hex_period : None (bytes "0x80.0")
  pub bin_exp : None (bytes "0b101e")
  pub bin_empty : None (bytes "0b")
  pub bin_lows : None (bytes "0b_")
  pub exp_empty : None (bytes "2e")
  pub fraction_exp_empty : None (bytes "2.0e")
  pub exp_suffix : None (bytes "2em")
  pub fraction_exp_suffix : None (bytes "2.0em")

reserved_hold : Reserved
unfolding encode integer_ok float_ok float_parts DEC_DIGIT LOW E BIN_DIGIT OCT_DIGIT HEX_DIGIT SIGN XID_START XID_CONTINUE
reserved_hold =
    record {
      bin_out = no_number _ refl (λ t. t) (λ t. t);
      oct_out = no_number _ refl (λ t. t) (λ t. t);
      hex_period = no_number _ refl (λ t. t) (λ t. t);
      bin_exp = no_number _ refl (λ t. t) (λ t. t);
      bin_empty = no_number _ refl (λ t. t) (λ t. t);
      bin_lows = no_number _ refl (λ t. t) (λ t. t);
      exp_empty = no_number _ refl (λ t. t) (λ t. t);
      fraction_exp_empty = no_number _ refl (λ t. t) (λ t. t);
      exp_suffix = no_number _ refl (λ t. t) (λ t. t);
      fraction_exp_suffix = no_number _ refl (λ t. t) (λ t. t);
    }

-- ---- quoted texts

-- one piece in front of others
front : {Piece : List ℕ → List ℕ → List ℕ → Type 0} {r u : List ℕ} (t w : List ℕ) → Piece t w r → Pieces Piece r u → Pieces Piece (t ++ r) (w ++ u)
front {r = r} {u = u} t w p q = some t w r u p q refl refl

-- characters that stand for themselves
string_chars : (t : List ℕ) → T (all (except (byte 34 ∪ byte 92 ∪ byte 13)) t) → {r u : List ℕ} → Pieces STRING_PIECE r u
    → Pieces STRING_PIECE (t ++ r) (t ++ u)
string_chars [] a q = q
string_chars (c ∷ t) a {r} {u} q =
    let f = except (byte 34 ∪ byte 92 ∪ byte 13) in
    front {r = t ++ r} {u = t ++ u} (c ∷ []) (c ∷ []) (STRING_PIECE.char c refl (and_l (f c) (all f t) a) refl)
    (string_chars t (and_r (f c) (all f t) a) q)

group : (c n : ℕ) (d : List ℕ) → T (HEX_DIGIT c) → HEX_GROUPS n d → HEX_GROUPS (suc n) (c ∷ d)
group c n d t g = (c ∷ [], d, refl, (c, refl, t), ([], d, refl, tt, g))

ae : UNICODE_ESCAPE (bytes "\\u{00E6}") 230
unfolding encode HEX_DIGIT LOW number_in digit_value
ae =
    record {
      digits = bytes "00E6";
      count = 4;
      is = refl;
      groups = group 48 3 (bytes "0E6") tt (group 48 2 (bytes "E6") tt (group 69 1 (bytes "6") tt (group 54 0 [] tt refl)));
      least = omega arith;
      most = omega arith;
      value = refl;
      scalar = inl (omega arith);
    }

-- each kind without a suffix
char_means : (t : List ℕ) (v : ℕ) → CHAR_CONTENT t v → Means (39 ∷ (t ++ (39 ∷ []))) (Worth.char v) []
char_means t v m = is_char v (record { content = t; is = refl; inner = m; ending = inl refl }) refl

byte_means : (t : List ℕ) (v : ℕ) → BYTE_CONTENT t v → Means (98 ∷ 39 ∷ (t ++ (39 ∷ []))) (Worth.byte v) []
byte_means t v m = is_byte v (record { content = t; is = refl; inner = m; ending = inl refl }) refl

string_means : (t v : List ℕ) → Pieces STRING_PIECE t v → Means (34 ∷ (t ++ (34 ∷ []))) (Worth.string v) []
string_means t v m = is_string v (record { content = t; is = refl; inner = m; ending = inl refl }) refl

c_string_means : (t v : List ℕ) → Pieces C_STRING_PIECE t v → Means (99 ∷ 34 ∷ (t ++ (34 ∷ []))) (Worth.c_string v) []
c_string_means t v m = is_c_string v (record { content = t; is = refl; inner = m; ending = inl refl }) refl

-- p stands at the front of s
abbrev starts : List ℕ → List ℕ → Bool
starts [] s = true
starts (a ∷ p) [] = false
starts (a ∷ p) (c ∷ s) = eqb a c && starts p s

starts_at : (p w s : List ℕ) → s ≡ p ++ w → T (starts p s)
starts_at p w s e = subst⁻¹ (λ (l : List ℕ). T (starts p l)) e (go p)
  where
    go : (p : List ℕ) → T (starts p (p ++ w))
    go [] = tt
    go (a ∷ p) = and_i (eqb a a) _ (eqb_refl a) (go p)

-- no quote with n hashes begins within v
abbrev unclosed : ℕ → List ℕ → List ℕ → Bool
unclosed n [] z = true
unclosed n (c ∷ v) z = not (starts (34 ∷ times n 35) (c ∷ (v ++ z))) && unclosed n v z

first_closing : (n : ℕ) (v z u w : List ℕ) → T (unclosed n v z) → v ++ z ≡ u ++ closing n w → length v ≤ length u
first_closing n [] z u w t e = omega arith
first_closing n (c ∷ v) z [] w t e =
    let b = starts (34 ∷ times n 35) (c ∷ (v ++ z)) in
    absurd (not_t b (and_l (not b) (unclosed n v z) t) (starts_at (34 ∷ times n 35) w (c ∷ (v ++ z)) e))
first_closing n (c ∷ v) z (d ∷ u) w t e =
    let b = starts (34 ∷ times n 35) (c ∷ (v ++ z)) in
    let h = first_closing n v z u w (and_r (not b) (unclosed n v z) t) (tail-eq_of_cons-eq e) in
    omega arith

raw_means : (n : ℕ) (v : List ℕ) → n < 256 → T (all (except (byte 13)) v) → T (unclosed n v (closing n []))
    → Means (114 ∷ (times n 35 ++ (34 ∷ (v ++ closing n [])))) (Worth.string v) []
raw_means n v few a t =
    is_raw_string v
    (record {
      hashes = n;
      few = few;
      is = refl;
      chars = a;
      first = λ u w e. first_closing n v (closing n []) u w t e;
      ending = inl refl;
    })
    refl

pub record Texts : Type 0 where
  pub char_plain : Means (bytes "'R'") (Worth.char 82) []
  pub char_beyond : Means (bytes "'æ'") (Worth.char 230) []
  pub char_quote : Means (bytes "'\\''") (Worth.char 39) []
  pub char_code : Means (bytes "'\\x52'") (Worth.char 82) []
  pub char_unicode : Means (bytes "'\\u{00E6}'") (Worth.char 230) []
  pub char_lf : Means (bytes "'\\n'") (Worth.char 10) []
  pub string_quotes : Means (bytes "\"\\\"foo\\\"\"") (Worth.string (bytes "\"foo\"")) []
  pub string_left_to_right : Means (bytes "\"\\\\x52\"") (Worth.string (bytes "\\x52")) []
  -- "Thus a, b and c are equal": c, with an empty line
  pub string_continue : Means (bytes "\"foo\\\n\n     bar\"") (Worth.string (bytes "foobar")) []
  pub raw_string : Means (bytes "r##\"foo #\"# bar\"##") (Worth.string (bytes "foo #\"# bar")) []
  pub byte_code : Means (bytes "b'\\xA0'") (Worth.byte 160) []
  pub c_plain : Means (bytes "c\"æ\"") (Worth.c_string (195 ∷ 166 ∷ [])) []
  pub c_unicode : Means (bytes "c\"\\u{00E6}\"") (Worth.c_string (195 ∷ 166 ∷ [])) []
  pub c_codes : Means (bytes "c\"\\xC3\\xA6\"") (Worth.c_string (195 ∷ 166 ∷ [])) []
  pub c_code : Means (bytes "c\"\\xE6\"") (Worth.c_string (230 ∷ [])) []
  -- "non-greedy": it closes at the first quote, and `bar"` is no suffix
  pub raw_first : None (bytes "r\"foo\"bar\"")

string_quote : {r : List ℕ} → STRING_PIECE (bytes "\\\"") (bytes "\"") r
unfolding encode
string_quote = STRING_PIECE.quote 34 QUOTE_ESCAPE.quotation_mark refl

-- `\x` and two digits in a C string
c_byte : {r : List ℕ} (a b v : ℕ) → T (HEX_DIGIT a) → T (HEX_DIGIT b) → digit_value a * 16 + digit_value b ≡ v → 1 ≤ v
    → C_STRING_PIECE (92 ∷ 120 ∷ a ∷ b ∷ []) (v ∷ []) r
c_byte a b v s t e h = C_STRING_PIECE.escape v (subst (BYTE_ESCAPE (92 ∷ 120 ∷ a ∷ b ∷ [])) e (BYTE_ESCAPE.code a b s t)) h refl

-- `foo` and `bar"`
abbrev foo : List ℕ
foo = 102 ∷ 111 ∷ 111 ∷ []

abbrev bar : List ℕ
bar = 98 ∷ 97 ∷ 114 ∷ 34 ∷ []

first_quote : None (114 ∷ 34 ∷ (foo ++ (34 ∷ bar)))
unfolding XID_START XID_CONTINUE DEC_DIGIT LOW
first_quote w x m =
    let f = means_form (114 ∷ 34 ∷ (foo ++ (34 ∷ bar))) w x m in
    let v = f.0 in
    let a = f.1 in
    let h = hashes_unique a.hashes 0 (v ++ closing a.hashes x) (foo ++ (34 ∷ bar)) (tail-eq_of_cons-eq (sym a.is)) in
    let e : v ++ closing a.hashes x ≡ foo ++ closing a.hashes bar = h.1 ∙ ap (λ (n : ℕ). foo ++ closing n bar) (sym h.0) in
    let e0 : v ++ closing 0 x ≡ foo ++ closing 0 bar = ap (λ (n : ℕ). v ++ closing n x) (sym h.0) ∙ h.1 in
    let k = closing_unique 0 v foo x bar e0 (a.first foo bar e) (first_closing 0 foo (closing 0 bar) v x tt (sym e0)) in
    let t : T (suffix_ok bar) = subst (λ (l : List ℕ). T (suffix_ok l)) k.1 (suffix_ok_lem x a.ending) in
    t

texts_hold : Texts
unfolding encode HEX_DIGIT OCT_DIGIT digit_value WHITESPACE
texts_hold =
    record {
      char_plain = char_means (bytes "R") 82 (CHAR_CONTENT.char (inl (omega arith)) refl tt);
      char_beyond = char_means (bytes "æ") 230 (CHAR_CONTENT.char (inl (omega arith)) refl tt);
      char_quote = char_means (bytes "\\'") 39 (CHAR_CONTENT.quote QUOTE_ESCAPE.apostrophe);
      char_code = char_means (bytes "\\x52") 82 (CHAR_CONTENT.ascii (ASCII_ESCAPE.code 53 50 tt tt));
      char_unicode = char_means (bytes "\\u{00E6}") 230 (CHAR_CONTENT.unicode ae);
      char_lf = char_means (bytes "\\n") 10 (CHAR_CONTENT.ascii (ASCII_ESCAPE.simple COMMON_ESCAPE.lf));
      string_quotes = string_means _ _ (front (bytes "\\\"") (bytes "\"") string_quote
          (string_chars (bytes "foo") tt (front (bytes "\\\"") (bytes "\"") string_quote none)));
      string_left_to_right = string_means _ _ (front (bytes "\\\\") (bytes "\\")
          (STRING_PIECE.ascii 92 (ASCII_ESCAPE.simple COMMON_ESCAPE.reverse_solidus) refl)
          (string_chars (bytes "x52") tt none));
      string_continue = string_means _ _ (string_chars (bytes "foo") tt (front (bytes "\\\n\n     ") []
          (STRING_PIECE.continue (record { blanks = bytes "\n     "; is = refl; white = tt; next = λ t. t }) refl)
          (string_chars (bytes "bar") tt none)));
      raw_string = raw_means 2 (bytes "foo #\"# bar") (omega arith) tt tt;
      byte_code = byte_means (bytes "\\xA0") 160 (BYTE_CONTENT.escape (BYTE_ESCAPE.code 65 48 tt tt));
      c_plain = c_string_means _ _ (front (195 ∷ []) (195 ∷ []) (C_STRING_PIECE.char 195 refl tt refl)
          (front (166 ∷ []) (166 ∷ []) (C_STRING_PIECE.char 166 refl tt refl) none));
      c_unicode = c_string_means _ _ (front (bytes "\\u{00E6}") (195 ∷ 166 ∷ []) (C_STRING_PIECE.unicode 230 ae (omega arith) refl) none);
      c_codes = c_string_means _ _ (front _ _ (c_byte 67 51 195 tt tt refl (omega arith))
          (front _ _ (c_byte 65 54 166 tt tt refl (omega arith)) none));
      c_code = c_string_means _ _ (front _ _ (c_byte 69 54 230 tt tt refl (omega arith)) none);
      raw_first = first_quote;
    }

-- ---- all of them

pub record Examples : Type 0 where
  pub numbers : Numbers
  pub reserved : Reserved
  pub texts : Texts

pub examples : Examples
examples = record { numbers = numbers_hold; reserved = reserved_hold; texts = texts_hold }
