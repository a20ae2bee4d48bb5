-- A text is an INTEGER_LITERAL exactly where its scan accepts it.
-- Assumes nothing.
use mathlib.Core.Path.{◌≡◌, refl, sym, ap, ◌∙◌, subst, subst⁻¹}
use mathlib.Core.Logic.{◌↔◌, ◌≢◌, ◌⊎◌, inl, inr, ⊎_elim}
use mathlib.Core.Bool.{Bool, true, false, cond, not, ◌&&◌, ◌||◌}
use mathlib.Core.List.{List, [], ◌∷◌, ◌++◌, append_assoc, head-eq_of_cons-eq, tail-eq_of_cons-eq}
use Prim.Native.Nat.{ℕ, ◌+◌, ◌≤◌, ◌<◌}
use native.Mathlib.Omega.{arith}
use lib.Dec.{T, leb, eqb, eqb→eq, eqb_refl, leb→le}
use lib.ListN.{length, drop, length-append}
use Rattle.grammar.specs.Notation.{Class, all, begins, ◌∪◌, one, many, opt, text, Followed, Longest, range, byte, ◌·◌}
use Rattle.grammar.specs.Suffixes.{DEC_DIGIT, LOW, E, XID_START, XID_CONTINUE, SUFFIX, SUFFIX_NO_E}
use Rattle.grammar.specs.Numbers.{BIN_DIGIT, OCT_DIGIT, HEX_DIGIT, SIGN, DEC_LITERAL, RADIX_LITERAL, INTEGER_PART, RESERVED_NUMBER, bin_out, oct_out, period, exp, bin_empty, oct_empty, hex_empty, exp_empty, INTEGER_LITERAL, bare, no_digit}
use Rattle.grammar.proofs.Scan.{take_while, drop_while, any, empty, suffix_ok, digits_ok, prefixed, integer_ok, integer_part, integer_suffix}
use Rattle.grammar.proofs.Runs.{T_true, true_T, not_t, T_not, and_l, and_r, and_i, or_l, or_r, or_e, span_eq, span_all, span_stop, span_only, span_most, all_append, mixed, mixed_all, any_left}
use Rattle.grammar.proofs.Splits.{longest_unique}

-- ---- bytes that lie in one class only

pub low_is : (k : ℕ) → T (LOW k) → k ≡ 95
unfolding LOW
low_is k t = eqb→eq k 95 t

start_low : (k : ℕ) → T (XID_START k) → T (LOW k) → ⊥
unfolding XID_START
start_low k t l = rw (low_is k l) at t

-- ---- the suffix

pub suffix_in_lem : (x : List ℕ) → T (suffix_ok x) → opt SUFFIX x
suffix_in_lem [] t = inl refl
suffix_in_lem (c ∷ s) t =
    let a = and_l (not (LOW c && empty s)) ((XID_START ∪ LOW) c && all XID_CONTINUE s) t in
    let b = and_r (not (LOW c && empty s)) ((XID_START ∪ LOW) c && all XID_CONTINUE s) t in
    let w = and_r ((XID_START ∪ LOW) c) (all XID_CONTINUE s) b in
    inr (⊎_elim
    (λ st. inl (c ∷ [], s, refl, (c, refl, st), w))
    (λ lo. inr (c ∷ [], s, refl, (c, refl, lo), go s (not_t (LOW c && empty s) a) lo w))
    (or_e (XID_START c) (LOW c) (and_l ((XID_START ∪ LOW) c) (all XID_CONTINUE s) b)))
  where
    go : (s : List ℕ) → (T (LOW c && empty s) → ⊥) → T (LOW c) → T (all XID_CONTINUE s) → (one XID_CONTINUE · many XID_CONTINUE) s
    go [] n lo w = absurd (n (and_i (LOW c) true lo tt))
    go (k ∷ s) n lo w = (k ∷ [], s, refl, (k, refl, and_l (XID_CONTINUE k) (all XID_CONTINUE s) w), and_r (XID_CONTINUE k) (all XID_CONTINUE s) w)

pub suffix_ok_lem : (x : List ℕ) → opt SUFFIX x → T (suffix_ok x)
suffix_ok_lem x (inl e) = rw e tt
suffix_ok_lem x (inr (inl m)) =
    let k = m.3 in
    let e : x ≡ k.0 ∷ m.1 = m.2 ∙ rw k.1 in
    rw e
    (and_i (not (LOW k.0 && empty m.1)) _ (T_not (LOW k.0 && empty m.1) (λ l. start_low k.0 k.2 (and_l (LOW k.0) (empty m.1) l)))
    (and_i ((XID_START ∪ LOW) k.0) _ (or_l (XID_START k.0) _ k.2) m.4))
suffix_ok_lem x (inr (inr m)) =
    let k = m.3 in
    let n = m.4 in
    let j = n.3 in
    let e : x ≡ k.0 ∷ (j.0 ∷ n.1) = m.2 ∙ rw (k.1, n.2, j.1) in
    rw e
    (and_i (not (LOW k.0 && false)) _ (T_not (LOW k.0 && false) (λ l. and_r (LOW k.0) false l))
    (and_i ((XID_START ∪ LOW) k.0) _ (or_r (XID_START k.0) _ k.2) (and_i (XID_CONTINUE j.0) _ j.2 n.4)))

pub ending_in : (x : List ℕ) → T (suffix_ok x) → T (not (begins E x)) → opt SUFFIX_NO_E x
ending_in x t n = ⊎_elim inl (λ m. inr (m, n)) (suffix_in_lem x t)

pub ending_ok : (x : List ℕ) → opt SUFFIX_NO_E x → T (suffix_ok x) × T (not (begins E x))
ending_ok x (inl e) = rw e (tt, tt)
ending_ok x (inr m) = (suffix_ok_lem x (inr m.0), m.1)

-- what a suffix begins with
pub suffix_start_lem : (x : List ℕ) → T (suffix_ok x) → T (begins XID_START x || begins LOW x) ⊎ (x ≡ [])
suffix_start_lem [] t = inr refl
suffix_start_lem (c ∷ s) t =
    inl (and_l ((XID_START ∪ LOW) c) (all XID_CONTINUE s) (and_r (not (LOW c && empty s)) ((XID_START ∪ LOW) c && all XID_CONTINUE s) t))

-- ---- the productions, opened

pub record Radix (c : ℕ) (d : Class) (q : List ℕ) : Type 0 where
  pub rest : List ℕ
  pub is : q ≡ 48 ∷ c ∷ rest
  pub run : T (all (d ∪ LOW) rest)
  pub digit : T (any d rest)

radix_open : (c : ℕ) (d : Class) (q : List ℕ) → RADIX_LITERAL c d q → Radix c d q
radix_open c d q m =
    let r = mixed_all d LOW m.1 m.4 in
    record { rest = m.1; is = m.2 ∙ rw m.3; run = r.0; digit = r.1 }

radix_make : (c : ℕ) (d : Class) (r : List ℕ) → T (all (d ∪ LOW) r) → T (any d r) → RADIX_LITERAL c d (48 ∷ c ∷ r)
radix_make c d r a n = (48 ∷ c ∷ [], r, refl, refl, mixed d LOW r a n)

pub record Dec (q : List ℕ) : Type 0 where
  pub first : ℕ
  pub rest : List ℕ
  pub is : q ≡ first ∷ rest
  pub digit : T (DEC_DIGIT first)
  pub run : T (all (DEC_DIGIT ∪ LOW) rest)

pub dec_open : (q : List ℕ) → DEC_LITERAL q → Dec q
dec_open q m =
    let k = m.3 in
    record { first = k.0; rest = m.1; is = m.2 ∙ rw k.1; digit = k.2; run = m.4 }

pub dec_make : (k : ℕ) (r : List ℕ) → T (DEC_DIGIT k) → T (all (DEC_DIGIT ∪ LOW) r) → DEC_LITERAL (k ∷ r)
dec_make k r d a = (k ∷ [], r, refl, (k, refl, d), a)

pub dec_all : {q : List ℕ} → Dec q → T (all (DEC_DIGIT ∪ LOW) q)
dec_all {q} d = rw d.is (and_i ((DEC_DIGIT ∪ LOW) d.first) _ (or_l (DEC_DIGIT d.first) _ d.digit) d.run)

-- ---- classes that do not meet

pub range_is : (a b k : ℕ) → T (range a b k) → (a ≤ k) × (k ≤ b)
range_is a b k t = (leb→le a k (and_l (leb a k) (leb k b) t), leb→le k b (and_r (leb a k) (leb k b) t))

start_is : (k : ℕ) → T (XID_START k) → ((97 ≤ k) × (k ≤ 122)) ⊎ (((65 ≤ k) × (k ≤ 90)) ⊎ (128 ≤ k))
unfolding XID_START
start_is k t =
    ⊎_elim (λ h. inl (range_is 97 122 k h))
    (λ h. inr (⊎_elim (λ g. inl (range_is 65 90 k g)) (λ g. inr (leb→le 128 k g)) (or_e (range 65 90 k) (leb 128 k) h)))
    (or_e (range 97 122 k) ((range 65 90 ∪ leb 128) k) t)

-- no suffix begins with a byte below `A`
low_byte : (k : ℕ) → k < 65 → T ((XID_START ∪ LOW) k) → ⊥
low_byte k h t =
    ⊎_elim (λ s. ⊎_elim (λ g. omega arith) (λ g. ⊎_elim (λ g. omega arith) (λ g. omega arith) g) (start_is k s))
    (λ l. omega (arith, low_is k l)) (or_e (XID_START k) (LOW k) t)

pub at : (f : Class) (n k : ℕ) → T (byte n k) → T (f k) → T (f n)
at f n k e t = subst (λ (x : ℕ). T (f x)) (eqb→eq k n e) t

-- `.`, `e` and `E` are no decimal, binary or octal digits and no `_`
pub point_or_e : (f : Class) → (T (f 46) → ⊥) → (T (f 101) → ⊥) → (T (f 69) → ⊥) → (k : ℕ) → T ((byte 46 ∪ E) k) → T (f k) → ⊥
unfolding E
point_or_e f p e g k t h =
    ⊎_elim (λ b. p (at f 46 k b h)) (λ b. ⊎_elim (λ b. e (at f 101 k b h)) (λ b. g (at f 69 k b h)) (or_e (byte 101 k) (byte 69 k) b))
    (or_e (byte 46 k) ((byte 101 ∪ byte 69) k) t)

pub begins_both : (f g : Class) → ((k : ℕ) → T (g k) → T (f k) → ⊥) → (v : List ℕ) → T (begins g v) → T (begins f v) → ⊥
begins_both f g h [] t s = t
begins_both f g h (k ∷ v) t s = h k t s

pub begins_more : (g h : Class) → ((k : ℕ) → T (g k) → T (h k)) → (v : List ℕ) → T (begins g v) → T (begins h v)
begins_more g h m [] t = t
begins_more g h m (k ∷ v) t = m k t

-- ---- digits and then what is no digit

module _ (d : Class) where
  pub record After (r v : List ℕ) : Type 0 where
    pub digit : T (any d r)
    pub suffix : T (suffix_ok v)
    pub no_e : T (not (begins E v))

  after : (t r v : List ℕ) → T (digits_ok d t) → t ≡ r ++ v → T (all (d ∪ LOW) r) → (T (begins (d ∪ LOW) v) → ⊥) → After r v
  after t r v ok e a n =
      let h = span_only (d ∪ LOW) r v a n in
      let k : T (digits_ok d (r ++ v)) = rw e at ok in
      let k2 : T (any d r && (suffix_ok v && not (begins E v))) =
      subst (λ (x : List ℕ). T (any d r && (suffix_ok x && not (begins E x)))) h.1
      (subst (λ (x : List ℕ). T (any d x && (suffix_ok (drop_while (d ∪ LOW) (r ++ v)) && not (begins E (drop_while (d ∪ LOW) (r ++ v)))))) h.0 k) in
      let l = and_r (any d r) (suffix_ok v && not (begins E v)) k2 in
      record {
        digit = and_l (any d r) (suffix_ok v && not (begins E v)) k2;
        suffix = and_l (suffix_ok v) (not (begins E v)) l;
        no_e = and_r (suffix_ok v) (not (begins E v)) l;
      }

  -- and back
  pub digits_ok_lem : (r v : List ℕ) → T (all (d ∪ LOW) r) → (T (begins (d ∪ LOW) v) → ⊥) → T (any d r) → T (suffix_ok v) → T (not (begins E v)) → T (digits_ok d (r ++ v))
  digits_ok_lem r v a n g s e =
      let h = span_only (d ∪ LOW) r v a n in
      rw (h.0, h.1) (and_i (any d r) _ g (and_i (suffix_ok v) _ s e))

-- a suffix begins with no byte below `A`
suffix_high : (v : List ℕ) (g : Class) → ((k : ℕ) → T (g k) → k < 65) → T (suffix_ok v) → T (begins g v) → ⊥
suffix_high [] g h s t = t
suffix_high (k ∷ v) g h s t =
    low_byte k (h k t) (and_l ((XID_START ∪ LOW) k) (all XID_CONTINUE v) (and_r (not (LOW k && empty v)) ((XID_START ∪ LOW) k && all XID_CONTINUE v) s))

-- neither `.` nor e begins a suffix that does not begin with e
pub suffix_point : (v : List ℕ) → T (suffix_ok v) → T (not (begins E v)) → T (begins (byte 46 ∪ E) v) → ⊥
suffix_point [] s n t = t
suffix_point (k ∷ v) s n t =
    ⊎_elim (λ p. suffix_high (k ∷ v) (byte 46) (λ j e. omega (arith, eqb→eq j 46 e)) s p) (λ e. not_t (E k) n e) (or_e (byte 46 k) (E k) t)

-- the last form of RESERVED_NUMBER: decimal digits, and then a period or an e
pub record Exponent (s : List ℕ) : Type 0 where
  pub front : List ℕ
  pub back : List ℕ
  pub is : s ≡ front ++ back
  pub dec : Dec front
  pub next : T (begins (byte 46 ∪ E) back)

pub exponent_open : (s : List ℕ) → Followed (DEC_LITERAL · opt (text (46 ∷ []) · DEC_LITERAL) · one E · opt (one SIGN) · many LOW) (no_digit DEC_DIGIT) s → Exponent s
exponent_open s m =
    let a = m.2.is in
    let o = a.4 in
    let x = o.4 in
    let k = x.3 in
    record {
      front = a.0;
      back = a.1 ++ m.1;
      is = m.2.split ∙ ap (λ (u : List ℕ). u ++ m.1) a.2 ∙ append_assoc a.0 a.1 m.1;
      dec = dec_open a.0 a.3;
      next = rw o.2 (go o.0 o.3 o.1 k.0 k.2 x.1 (x.2 ∙ rw k.1));
    }
  where
    go : (p : List ℕ) → opt (text (46 ∷ []) · DEC_LITERAL) p → (w : List ℕ) (k : ℕ) → T (E k) → (y : List ℕ) → w ≡ k ∷ y → T (begins (byte 46 ∪ E) ((p ++ w) ++ m.1))
    go p (inl e) w k t y q = rw (e, q) (or_r (byte 46 k) (E k) t)
    go p (inr n) w k t y q = rw (n.2, n.3) tt

-- ---- a text that starts with no radix prefix

abbrev Plain : List ℕ → Type 0
Plain s = (T (prefixed 98 s) → ⊥) × (T (prefixed 111 s) → ⊥) × (T (prefixed 120 s) → ⊥)

two_prefixed : (c : ℕ) (s t : List ℕ) → s ≡ 48 ∷ c ∷ t → T (prefixed c s)
two_prefixed c s t e = rw e (eqb_refl c)

pub radix_prefixed : (c : ℕ) (d : Class) (s q y : List ℕ) → s ≡ q ++ y → RADIX_LITERAL c d q → T (prefixed c s)
radix_prefixed c d s q y e m =
    let r = radix_open c d q m in
    two_prefixed c s (r.rest ++ y) (e ∙ ap (λ (u : List ℕ). u ++ y) r.is)

pub empty_prefixed : (c : ℕ) (d : Class) (s : List ℕ) → Followed (text (48 ∷ c ∷ []) · many LOW) (no_digit d) s → T (prefixed c s)
empty_prefixed c d s m =
    let a = m.2.is in
    two_prefixed c s (a.1 ++ m.1) (m.2.split ∙ ap (λ (u : List ℕ). u ++ m.1) a.2 ∙ ap (λ (u : List ℕ). (u ++ a.1) ++ m.1) a.3)

plain_dec : (s q y : List ℕ) → Plain s → s ≡ q ++ y → INTEGER_PART q → DEC_LITERAL q
plain_dec s q y n e (inl m) = m
plain_dec s q y n e (inr (inl m)) = absurd (n.0 (radix_prefixed 98 BIN_DIGIT s q y e m))
plain_dec s q y n e (inr (inr (inl m))) = absurd (n.1 (radix_prefixed 111 OCT_DIGIT s q y e m))
plain_dec s q y n e (inr (inr (inr m))) = absurd (n.2 (radix_prefixed 120 HEX_DIGIT s q y e m))

-- a text with no prefix is of no reserved form but the last
plain_reserved : (s : List ℕ) → Plain s → RESERVED_NUMBER s → Exponent s
plain_reserved s n (bin_out m) = absurd (n.0 (radix_prefixed 98 BIN_DIGIT s _ _ m.2.split m.2.is))
plain_reserved s n (oct_out m) = absurd (n.1 (radix_prefixed 111 OCT_DIGIT s _ _ m.2.split m.2.is))
plain_reserved s n (period m) =
    absurd (⊎_elim (λ k. n.0 (radix_prefixed 98 BIN_DIGIT s _ _ m.2.split k))
    (λ k. ⊎_elim (λ k. n.1 (radix_prefixed 111 OCT_DIGIT s _ _ m.2.split k)) (λ k. n.2 (radix_prefixed 120 HEX_DIGIT s _ _ m.2.split k)) k) m.2.is)
plain_reserved s n (exp m) =
    absurd (⊎_elim (λ k. n.0 (radix_prefixed 98 BIN_DIGIT s _ _ m.2.split k)) (λ k. n.1 (radix_prefixed 111 OCT_DIGIT s _ _ m.2.split k)) m.2.is)
plain_reserved s n (bin_empty m) = absurd (n.0 (empty_prefixed 98 BIN_DIGIT s m))
plain_reserved s n (oct_empty m) = absurd (n.1 (empty_prefixed 111 OCT_DIGIT s m))
plain_reserved s n (hex_empty m) = absurd (n.2 (empty_prefixed 120 HEX_DIGIT s m))
plain_reserved s n (exp_empty m) = exponent_open s m

pub dec_apart : (k : ℕ) → T ((byte 46 ∪ E) k) → T ((DEC_DIGIT ∪ LOW) k) → ⊥
unfolding DEC_DIGIT LOW
dec_apart = point_or_e (DEC_DIGIT ∪ LOW) (λ x. x) (λ x. x) (λ x. x)

pub dec_first : (s : List ℕ) → T (begins DEC_DIGIT s) → DEC_LITERAL (take_while (DEC_DIGIT ∪ LOW) s)
dec_first [] t = absurd t
dec_first (k ∷ s) t = rw (T_true ((DEC_DIGIT ∪ LOW) k) (or_l (DEC_DIGIT k) (LOW k) t)) (dec_make k _ t (span_all (DEC_DIGIT ∪ LOW) s))

dec_in : (s : List ℕ) → Plain s → T (begins DEC_DIGIT s) → T (digits_ok DEC_DIGIT s) → INTEGER_LITERAL s
dec_in s n b ok =
    let a = after DEC_DIGIT s (take_while f s) (drop_while f s) ok (span_eq f s) (span_all f s) (span_stop f s) in
    record {
      part = take_while f s;
      suffix = drop_while f s;
      longest = record {
        split = span_eq f s;
        is = inl (dec_first s b);
        most = λ q y e i. rw e (span_most f q y (dec_all (dec_open q (plain_dec s q y n e i))));
      };
      ending = ending_in (drop_while f s) a.suffix a.no_e;
      free = λ r.
          let x = plain_reserved s n r in
          let g = after DEC_DIGIT s x.front x.back ok x.is (dec_all x.dec) (begins_both f (byte 46 ∪ E) dec_apart x.back x.next) in
          suffix_point x.back g.suffix g.no_e x.next;
    }
  where
    f : Class
    f = DEC_DIGIT ∪ LOW

-- the longest part is not followed by one more digit
dec_stop : (s p x : List ℕ) → Longest INTEGER_PART s p x → Dec p → T (begins (DEC_DIGIT ∪ LOW) x) → ⊥
dec_stop s p [] l d t = t
dec_stop s p (k ∷ x) l d t =
    let h = l.most (p ++ (k ∷ [])) x (l.split ∙ sym (append_assoc p (k ∷ []) x))
    (rw d.is (inl (dec_make d.first (d.rest ++ (k ∷ [])) d.digit
    (all_append (DEC_DIGIT ∪ LOW) d.rest (k ∷ []) d.run (and_i ((DEC_DIGIT ∪ LOW) k) true t tt))))) in
    omega (arith, h, length-append p (k ∷ []))

dec_out : (s : List ℕ) → Plain s → INTEGER_LITERAL s → T (begins DEC_DIGIT s) × T (digits_ok DEC_DIGIT s)
dec_out s n i =
    let l = i.longest in
    let d = dec_open i.part (plain_dec s i.part i.suffix n l.split l.is) in
    let e = ending_ok i.suffix i.ending in (
      rw (l.split, d.is) d.digit,
      rw l.split
          (digits_ok_lem DEC_DIGIT i.part i.suffix (dec_all d) (dec_stop s i.part i.suffix l d)
          (rw d.is (or_l (DEC_DIGIT d.first) _ d.digit)) e.0 e.1),
    )

-- What the scan says of a text: whether it is an integer literal, and then its part and its suffix.
pub record Scanned (s : List ℕ) (ok : Bool) (p x : List ℕ) : Type 0 where
  pub sound : T ok → INTEGER_LITERAL s
  pub complete : INTEGER_LITERAL s → T ok
  pub split : (i : INTEGER_LITERAL s) → (i.part ≡ p) × (i.suffix ≡ x)

dec_scanned : (s : List ℕ) → Plain s → Scanned s (begins DEC_DIGIT s && digits_ok DEC_DIGIT s) (take_while (DEC_DIGIT ∪ LOW) s) (drop_while (DEC_DIGIT ∪ LOW) s)
unfolding dec_in
dec_scanned s n =
    record {
      sound = λ t. dec_in s n (and_l (begins DEC_DIGIT s) (digits_ok DEC_DIGIT s) t) (and_r (begins DEC_DIGIT s) (digits_ok DEC_DIGIT s) t);
      complete = λ i. let o = dec_out s n i in and_i (begins DEC_DIGIT s) (digits_ok DEC_DIGIT s) o.0 o.1;
      split = λ i.
          let o = dec_out s n i in
          longest_unique INTEGER_PART s i.part i.suffix _ _ i.longest (dec_in s n o.0 o.1).longest;
    }

-- ---- a text that starts with a radix prefix

-- q, a literal of some radix at the front of such a text, has its letter
pub record Front (c c' : ℕ) (d : Class) (t q y : List ℕ) : Type 0 where
  pub same : c ≡ c'
  pub rest : List ℕ
  pub whole : q ≡ 48 ∷ c' ∷ rest
  pub is : t ≡ rest ++ y
  pub run : T (all (d ∪ LOW) rest)
  pub digit : T (any d rest)

front : (c c' : ℕ) (d : Class) (t q y : List ℕ) → 48 ∷ c ∷ t ≡ q ++ y → RADIX_LITERAL c' d q → Front c c' d t q y
front c c' d t q y e m =
    let r = radix_open c' d q m in
    let h : 48 ∷ c ∷ t ≡ 48 ∷ c' ∷ (r.rest ++ y) = e ∙ ap (λ (u : List ℕ). u ++ y) r.is in
    let h1 = tail-eq_of_cons-eq h in
    record { same = head-eq_of_cons-eq h1; rest = r.rest; whole = r.is; is = tail-eq_of_cons-eq h1; run = r.run; digit = r.digit }

-- of a decimal literal there it is the zero alone
pub dec_front : (c : ℕ) → (T ((DEC_DIGIT ∪ LOW) c) → ⊥) → (t q y : List ℕ) → 48 ∷ c ∷ t ≡ q ++ y → Dec q → (length q ≤ 1) × (y ≡ c ∷ t)
dec_front c n t q y e d = go d.rest d.is d.run
  where
    go : (r : List ℕ) → q ≡ d.first ∷ r → T (all (DEC_DIGIT ∪ LOW) r) → (length q ≤ 1) × (y ≡ c ∷ t)
    go [] i a =
        let h : 48 ∷ c ∷ t ≡ d.first ∷ y = e ∙ ap (λ (u : List ℕ). u ++ y) i in
        (rw i (omega arith), sym (tail-eq_of_cons-eq h))
    go (k ∷ r) i a =
        let h : 48 ∷ c ∷ t ≡ d.first ∷ k ∷ (r ++ y) = e ∙ ap (λ (u : List ℕ). u ++ y) i in
        let g : c ≡ k = head-eq_of_cons-eq (tail-eq_of_cons-eq h) in
        absurd (n (subst⁻¹ (λ (x : ℕ). T ((DEC_DIGIT ∪ LOW) x)) g (and_l ((DEC_DIGIT ∪ LOW) k) (all (DEC_DIGIT ∪ LOW) r) a)))

-- what a radix and its digits keep apart
pub record Apart (c : ℕ) (d : Class) : Type 0 where
  pub letter : T ((DEC_DIGIT ∪ LOW) c) → ⊥
  pub letter_next : T ((byte 46 ∪ E) c) → ⊥
  pub low : (k : ℕ) → T (LOW k) → T (d k) → ⊥
  pub point : T ((d ∪ LOW) 46) → ⊥

pub no_any : (d : Class) → ((k : ℕ) → T (LOW k) → T (d k) → ⊥) → (r : List ℕ) → T (all LOW r) → T (any d r) → ⊥
no_any d h [] a n = n
no_any d h (k ∷ r) a n =
    ⊎_elim (λ t. h k (and_l (LOW k) (all LOW r) a) t) (λ t. no_any d h r (and_r (LOW k) (all LOW r) a) t) (or_e (d k) (any d r) n)

all_low : (d : Class) (r : List ℕ) → T (all (d ∪ LOW) r) → (T (any d r) → ⊥) → T (all LOW r)
all_low d [] a n = tt
all_low d (k ∷ r) a n =
    and_i (LOW k) _
    (⊎_elim (λ t. absurd (n (or_l (d k) (any d r) t))) (λ t. t) (or_e (d k) (LOW k) (and_l ((d ∪ LOW) k) (all (d ∪ LOW) r) a)))
    (all_low d r (and_r ((d ∪ LOW) k) (all (d ∪ LOW) r) a) (λ t. n (or_r (d k) (any d r) t)))

pub low_begins : (d : Class) (v : List ℕ) → T (begins LOW v) → T (begins (d ∪ LOW) v)
low_begins d = begins_more LOW (d ∪ LOW) (λ k t. or_r (d k) (LOW k) t)

digit_begins : (d : Class) (v : List ℕ) → T (begins d v) → T (begins (d ∪ LOW) v)
digit_begins d = begins_more d (d ∪ LOW) (λ k t. or_l (d k) (LOW k) t)

pub low_more : (d : Class) (r : List ℕ) → T (all LOW r) → T (all (d ∪ LOW) r)
low_more d [] a = tt
low_more d (k ∷ r) a = and_i ((d ∪ LOW) k) _ (or_r (d k) (LOW k) (and_l (LOW k) (all LOW r) a)) (low_more d r (and_r (LOW k) (all LOW r) a))

-- a prefix with underscores, as many as there are, and no digit after them
pub record Empty (c : ℕ) (d : Class) (t : List ℕ) : Type 0 where
  pub lows : List ℕ
  pub back : List ℕ
  pub is : t ≡ lows ++ back
  pub run : T (all LOW lows)
  pub next : T (begins (d ∪ LOW) back) → ⊥

empty_open : (c : ℕ) (d : Class) (t : List ℕ) → Followed (text (48 ∷ c ∷ []) · many LOW) (no_digit d) (48 ∷ c ∷ t) → Empty c d t
empty_open c d t m =
    let l = m.2 in
    let a = l.is in
    let e : m.0 ≡ 48 ∷ c ∷ a.1 = a.2 ∙ ap (λ (u : List ℕ). u ++ a.1) a.3 in
    let h : 48 ∷ c ∷ t ≡ 48 ∷ c ∷ (a.1 ++ m.1) = l.split ∙ ap (λ (u : List ℕ). u ++ m.1) e in
    record { lows = a.1; back = m.1; is = tail-eq_of_cons-eq (tail-eq_of_cons-eq h); run = a.4; next = go m.1 m.3 l.split e a.4 }
  where
    go : (v : List ℕ) → T (no_digit d v) → 48 ∷ c ∷ t ≡ m.0 ++ v → {z : List ℕ} → m.0 ≡ 48 ∷ c ∷ z → T (all LOW z) → T (begins (d ∪ LOW) v) → ⊥
    go [] n s e a b = b
    go (k ∷ v) n s {z} e a b =
        ⊎_elim (λ x. not_t (d k) n x)
        (λ x.
        let q = m.2.most (m.0 ++ (k ∷ [])) v (s ∙ sym (append_assoc m.0 (k ∷ []) v))
        (48 ∷ c ∷ [], z ++ (k ∷ []), ap (λ (u : List ℕ). u ++ (k ∷ [])) e, refl, all_append LOW z (k ∷ []) a (and_i (LOW k) true x tt)) in
        omega (arith, q, length-append m.0 (k ∷ [])))
        (or_e (d k) (LOW k) b)

-- and made
empty_make : (c : ℕ) (d : Class) (t lows back : List ℕ) → t ≡ lows ++ back → T (all LOW lows) → (T (begins (d ∪ LOW) back) → ⊥)
    → Followed (text (48 ∷ c ∷ []) · many LOW) (no_digit d) (48 ∷ c ∷ t)
empty_make c d t lows back e a n = (
  48 ∷ c ∷ lows,
  back,
  record {
    split = ap (λ (u : List ℕ). 48 ∷ c ∷ u) e;
    is = (48 ∷ c ∷ [], lows, refl, refl, a);
    most = λ q y i m.
        let p : q ≡ 48 ∷ c ∷ m.1 = m.2 ∙ ap (λ (u : List ℕ). u ++ m.1) m.3 in
        let h : 48 ∷ c ∷ t ≡ 48 ∷ c ∷ (m.1 ++ y) = i ∙ ap (λ (u : List ℕ). u ++ y) p in
        let r : lows ++ back ≡ m.1 ++ y = sym e ∙ tail-eq_of_cons-eq (tail-eq_of_cons-eq h) in
        let o = span_only LOW lows back a (λ b. n (low_begins d back b)) in
        let l = subst (λ (u : List ℕ). length m.1 ≤ length u) o.0 (subst⁻¹ (λ (u : List ℕ). length m.1 ≤ length (take_while LOW u)) r (span_most LOW m.1 y m.4)) in
        omega (arith, l, ap length p);
  },
  T_not (begins d back) (λ b. n (digit_begins d back b)),
)

module _ (c : ℕ) (d : Class) (w : Apart c d) (t : List ℕ) (ok : T (digits_ok d t)) where
  -- digits, and then a byte that is no digit and begins no suffix
  clean_out : (g : Class) → ((k : ℕ) → T (g k) → T ((d ∪ LOW) k) → ⊥) → ((k : ℕ) → T (g k) → k < 65)
      → (q y : List ℕ) → 48 ∷ c ∷ t ≡ q ++ y → RADIX_LITERAL c d q → T (begins g y) → ⊥
  clean_out g n h q y e m b =
      let f = front c c d t q y e m in
      let a = after d t f.rest y ok f.is f.run (begins_both (d ∪ LOW) g n y b) in
      suffix_high y g h a.suffix b

  bare_begins : (y : List ℕ) → T (bare y) → T (begins (byte 46) y)
  bare_begins [] b = b
  bare_begins (k ∷ y) b = and_l (byte 46 k) _ b

  clean_period : (q y : List ℕ) → 48 ∷ c ∷ t ≡ q ++ y → RADIX_LITERAL c d q → T (bare y) → ⊥
  clean_period q y e m b =
      clean_out (byte 46) (λ k p x. w.point (at (d ∪ LOW) 46 k p x)) (λ k p. omega (arith, eqb→eq k 46 p)) q y e m (bare_begins y b)

  clean_exp : ((k : ℕ) → T (E k) → T ((d ∪ LOW) k) → ⊥) → (q y : List ℕ) → 48 ∷ c ∷ t ≡ q ++ y → RADIX_LITERAL c d q → T (begins E y) → ⊥
  clean_exp n q y e m b =
      let f = front c c d t q y e m in
      let a = after d t f.rest y ok f.is f.run (begins_both (d ∪ LOW) E n y b) in
      not_t (begins E y) a.no_e b

  clean_empty : Followed (text (48 ∷ c ∷ []) · many LOW) (no_digit d) (48 ∷ c ∷ t) → ⊥
  clean_empty m =
      let o = empty_open c d t m in
      let g = after d t o.lows o.back ok o.is (low_more d o.lows o.run) o.next in
      no_any d w.low o.lows o.run g.digit

  clean_exponent : Exponent (48 ∷ c ∷ t) → ⊥
  clean_exponent x =
      let h = dec_front c w.letter t x.front x.back x.is x.dec in
      w.letter_next (subst (λ (u : List ℕ). T (begins (byte 46 ∪ E) u)) h.1 x.next)

module _ (c : ℕ) (d : Class) (w : Apart c d)
    (inj : (q : List ℕ) → RADIX_LITERAL c d q → INTEGER_PART q)
    (only : (t q y : List ℕ) → 48 ∷ c ∷ t ≡ q ++ y → INTEGER_PART q → (length q ≤ 1) ⊎ RADIX_LITERAL c d q)
    (res : (s : List ℕ) → Followed (text (48 ∷ c ∷ []) · many LOW) (no_digit d) s → RESERVED_NUMBER s)
    (clean : (t : List ℕ) → T (digits_ok d t) → RESERVED_NUMBER (48 ∷ c ∷ t) → ⊥) where
  radix_in : (t : List ℕ) → T (digits_ok d t) → INTEGER_LITERAL (48 ∷ c ∷ t)
  radix_in t ok =
      let f = d ∪ LOW in
      let a = after d t (take_while f t) (drop_while f t) ok (span_eq f t) (span_all f t) (span_stop f t) in
      record {
        part = 48 ∷ c ∷ take_while f t;
        suffix = drop_while f t;
        longest = record {
          split = ap (λ (u : List ℕ). 48 ∷ c ∷ u) (span_eq f t);
          is = inj _ (radix_make c d _ (span_all f t) a.digit);
          most = λ q y e i.
              ⊎_elim (λ h. omega arith)
              (λ m.
              let g = front c c d t q y e m in
              let l = subst⁻¹ (λ (u : List ℕ). length g.rest ≤ length (take_while f u)) g.is (span_most f g.rest y g.run) in
              omega (arith, l, ap length g.whole))
              (only t q y e i);
        };
        ending = ending_in (drop_while f t) a.suffix a.no_e;
        free = clean t ok;
      }

  -- the longest part is not followed by one more digit
  radix_stop : (s p x : List ℕ) → Longest INTEGER_PART s p x → Radix c d p → T (begins (d ∪ LOW) x) → ⊥
  radix_stop s p [] l r t = t
  radix_stop s p (k ∷ x) l r t =
      let h = l.most (p ++ (k ∷ [])) x (l.split ∙ sym (append_assoc p (k ∷ []) x))
      (rw r.is (inj _ (radix_make c d (r.rest ++ (k ∷ []))
      (all_append (d ∪ LOW) r.rest (k ∷ []) r.run (and_i ((d ∪ LOW) k) true t tt)) (any_left d r.rest (k ∷ []) r.digit)))) in
      omega (arith, h, length-append p (k ∷ []))

  -- a part of one byte: the prefix has no digits after it, which is reserved, or there is a longer part
  radix_short : (t : List ℕ) → (i : INTEGER_LITERAL (48 ∷ c ∷ t)) → length i.part ≤ 1 → ⊥
  radix_short t i h = go (any d (take_while (d ∪ LOW) t)) refl
    where
      go : (b : Bool) → any d (take_while (d ∪ LOW) t) ≡ b → ⊥
      go true e =
          let m = i.longest.most (48 ∷ c ∷ take_while (d ∪ LOW) t) (drop_while (d ∪ LOW) t) (ap (λ (u : List ℕ). 48 ∷ c ∷ u) (span_eq (d ∪ LOW) t))
          (inj _ (radix_make c d _ (span_all (d ∪ LOW) t) (true_T _ e))) in
          omega (arith, m)
      go false e =
          i.free (res _
          (empty_make c d t (take_while (d ∪ LOW) t) (drop_while (d ∪ LOW) t) (span_eq (d ∪ LOW) t)
          (all_low d (take_while (d ∪ LOW) t) (span_all (d ∪ LOW) t) (λ x. rw e at x)) (span_stop (d ∪ LOW) t)))

  radix_out : (t : List ℕ) → INTEGER_LITERAL (48 ∷ c ∷ t) → T (digits_ok d t)
  radix_out t i =
      let l = i.longest in
      ⊎_elim (λ h. absurd (radix_short t i h))
      (λ m.
      let g = front c c d t i.part i.suffix l.split m in
      let e = ending_ok i.suffix i.ending in
      rw g.is
      (digits_ok_lem d g.rest i.suffix g.run (radix_stop _ i.part i.suffix l (radix_open c d i.part m)) g.digit e.0 e.1))
      (only t i.part i.suffix l.split l.is)

  radix_scanned : (t : List ℕ) → Scanned (48 ∷ c ∷ t) (digits_ok d t) (48 ∷ c ∷ take_while (d ∪ LOW) t) (drop_while (d ∪ LOW) t)
  unfolding radix_in
  radix_scanned t =
      record {
        sound = radix_in t;
        complete = radix_out t;
        split = λ i. longest_unique INTEGER_PART (48 ∷ c ∷ t) i.part i.suffix _ _ i.longest (radix_in t (radix_out t i)).longest;
      }

-- ---- the three prefixes

pub bin_apart : Apart 98 BIN_DIGIT
unfolding DEC_DIGIT LOW E BIN_DIGIT
bin_apart = record { letter = λ x. x; letter_next = λ x. x; low = λ k l b. at BIN_DIGIT 95 k l b; point = λ x. x }

pub oct_apart : Apart 111 OCT_DIGIT
unfolding DEC_DIGIT LOW E OCT_DIGIT
oct_apart = record { letter = λ x. x; letter_next = λ x. x; low = λ k l b. at OCT_DIGIT 95 k l b; point = λ x. x }

pub hex_apart : Apart 120 HEX_DIGIT
unfolding DEC_DIGIT LOW E HEX_DIGIT
hex_apart = record { letter = λ x. x; letter_next = λ x. x; low = λ k l b. at HEX_DIGIT 95 k l b; point = λ x. x }

pub e_apart : (f : Class) → (T (f 101) → ⊥) → (T (f 69) → ⊥) → (k : ℕ) → T (E k) → T (f k) → ⊥
unfolding E
e_apart f p q k t h = ⊎_elim (λ b. p (at f 101 k b h)) (λ b. q (at f 69 k b h)) (or_e (byte 101 k) (byte 69 k) t)

bin_e : (k : ℕ) → T (E k) → T ((BIN_DIGIT ∪ LOW) k) → ⊥
unfolding BIN_DIGIT LOW
bin_e = e_apart (BIN_DIGIT ∪ LOW) (λ x. x) (λ x. x)

oct_e : (k : ℕ) → T (E k) → T ((OCT_DIGIT ∪ LOW) k) → ⊥
unfolding OCT_DIGIT LOW
oct_e = e_apart (OCT_DIGIT ∪ LOW) (λ x. x) (λ x. x)

bin_past : (k : ℕ) → T (range 50 57 k) → T ((BIN_DIGIT ∪ LOW) k) → ⊥
unfolding BIN_DIGIT
bin_past k g t = ⊎_elim (λ b. omega (arith, range_is 48 49 k b, range_is 50 57 k g)) (λ l. omega (arith, low_is k l, range_is 50 57 k g)) (or_e (range 48 49 k) (LOW k) t)

oct_past : (k : ℕ) → T (range 56 57 k) → T ((OCT_DIGIT ∪ LOW) k) → ⊥
unfolding OCT_DIGIT
oct_past k g t = ⊎_elim (λ b. omega (arith, range_is 48 55 k b, range_is 56 57 k g)) (λ l. omega (arith, low_is k l, range_is 56 57 k g)) (or_e (range 48 55 k) (LOW k) t)

-- another radix's literal, or another radix's empty prefix, is not at the front
pub other : (c c' : ℕ) (d : Class) (t q y : List ℕ) → 48 ∷ c ∷ t ≡ q ++ y → RADIX_LITERAL c' d q → c ≢ c' → ⊥
other c c' d t q y e m n = n (front c c' d t q y e m).same

other_empty : (c c' : ℕ) (d : Class) (t : List ℕ) → Followed (text (48 ∷ c' ∷ []) · many LOW) (no_digit d) (48 ∷ c ∷ t) → c ≢ c' → ⊥
other_empty c c' d t m n = n (eqb→eq c c' (empty_prefixed c' d (48 ∷ c ∷ t) m))

clean_bin : (t : List ℕ) → T (digits_ok BIN_DIGIT t) → RESERVED_NUMBER (48 ∷ 98 ∷ t) → ⊥
clean_bin t ok (bin_out m) = clean_out 98 BIN_DIGIT bin_apart t ok (range 50 57) bin_past (λ k g. omega (arith, range_is 50 57 k g)) _ _ m.2.split m.2.is m.3
clean_bin t ok (oct_out m) = other 98 111 OCT_DIGIT t _ _ m.2.split m.2.is (omega arith)
clean_bin t ok (period m) =
    ⊎_elim (λ k. clean_period 98 BIN_DIGIT bin_apart t ok _ _ m.2.split k m.3)
    (λ k. ⊎_elim (λ k. other 98 111 OCT_DIGIT t _ _ m.2.split k (omega arith)) (λ k. other 98 120 HEX_DIGIT t _ _ m.2.split k (omega arith)) k) m.2.is
clean_bin t ok (exp m) =
    ⊎_elim (λ k. clean_exp 98 BIN_DIGIT bin_apart t ok bin_e _ _ m.2.split k m.3) (λ k. other 98 111 OCT_DIGIT t _ _ m.2.split k (omega arith)) m.2.is
clean_bin t ok (bin_empty m) = clean_empty 98 BIN_DIGIT bin_apart t ok m
clean_bin t ok (oct_empty m) = other_empty 98 111 OCT_DIGIT t m (omega arith)
clean_bin t ok (hex_empty m) = other_empty 98 120 HEX_DIGIT t m (omega arith)
clean_bin t ok (exp_empty m) = clean_exponent 98 BIN_DIGIT bin_apart t ok (exponent_open _ m)

clean_oct : (t : List ℕ) → T (digits_ok OCT_DIGIT t) → RESERVED_NUMBER (48 ∷ 111 ∷ t) → ⊥
clean_oct t ok (bin_out m) = other 111 98 BIN_DIGIT t _ _ m.2.split m.2.is (omega arith)
clean_oct t ok (oct_out m) = clean_out 111 OCT_DIGIT oct_apart t ok (range 56 57) oct_past (λ k g. omega (arith, range_is 56 57 k g)) _ _ m.2.split m.2.is m.3
clean_oct t ok (period m) =
    ⊎_elim (λ k. other 111 98 BIN_DIGIT t _ _ m.2.split k (omega arith))
    (λ k. ⊎_elim (λ k. clean_period 111 OCT_DIGIT oct_apart t ok _ _ m.2.split k m.3) (λ k. other 111 120 HEX_DIGIT t _ _ m.2.split k (omega arith)) k) m.2.is
clean_oct t ok (exp m) =
    ⊎_elim (λ k. other 111 98 BIN_DIGIT t _ _ m.2.split k (omega arith)) (λ k. clean_exp 111 OCT_DIGIT oct_apart t ok oct_e _ _ m.2.split k m.3) m.2.is
clean_oct t ok (bin_empty m) = other_empty 111 98 BIN_DIGIT t m (omega arith)
clean_oct t ok (oct_empty m) = clean_empty 111 OCT_DIGIT oct_apart t ok m
clean_oct t ok (hex_empty m) = other_empty 111 120 HEX_DIGIT t m (omega arith)
clean_oct t ok (exp_empty m) = clean_exponent 111 OCT_DIGIT oct_apart t ok (exponent_open _ m)

clean_hex : (t : List ℕ) → T (digits_ok HEX_DIGIT t) → RESERVED_NUMBER (48 ∷ 120 ∷ t) → ⊥
clean_hex t ok (bin_out m) = other 120 98 BIN_DIGIT t _ _ m.2.split m.2.is (omega arith)
clean_hex t ok (oct_out m) = other 120 111 OCT_DIGIT t _ _ m.2.split m.2.is (omega arith)
clean_hex t ok (period m) =
    ⊎_elim (λ k. other 120 98 BIN_DIGIT t _ _ m.2.split k (omega arith))
    (λ k. ⊎_elim (λ k. other 120 111 OCT_DIGIT t _ _ m.2.split k (omega arith)) (λ k. clean_period 120 HEX_DIGIT hex_apart t ok _ _ m.2.split k m.3) k) m.2.is
clean_hex t ok (exp m) =
    ⊎_elim (λ k. other 120 98 BIN_DIGIT t _ _ m.2.split k (omega arith)) (λ k. other 120 111 OCT_DIGIT t _ _ m.2.split k (omega arith)) m.2.is
clean_hex t ok (bin_empty m) = other_empty 120 98 BIN_DIGIT t m (omega arith)
clean_hex t ok (oct_empty m) = other_empty 120 111 OCT_DIGIT t m (omega arith)
clean_hex t ok (hex_empty m) = clean_empty 120 HEX_DIGIT hex_apart t ok m
clean_hex t ok (exp_empty m) = clean_exponent 120 HEX_DIGIT hex_apart t ok (exponent_open _ m)

only_bin : (t q y : List ℕ) → 48 ∷ 98 ∷ t ≡ q ++ y → INTEGER_PART q → (length q ≤ 1) ⊎ RADIX_LITERAL 98 BIN_DIGIT q
only_bin t q y e (inl m) = inl (dec_front 98 bin_apart.letter t q y e (dec_open q m)).0
only_bin t q y e (inr (inl m)) = inr m
only_bin t q y e (inr (inr (inl m))) = absurd (other 98 111 OCT_DIGIT t q y e m (omega arith))
only_bin t q y e (inr (inr (inr m))) = absurd (other 98 120 HEX_DIGIT t q y e m (omega arith))

only_oct : (t q y : List ℕ) → 48 ∷ 111 ∷ t ≡ q ++ y → INTEGER_PART q → (length q ≤ 1) ⊎ RADIX_LITERAL 111 OCT_DIGIT q
only_oct t q y e (inl m) = inl (dec_front 111 oct_apart.letter t q y e (dec_open q m)).0
only_oct t q y e (inr (inl m)) = absurd (other 111 98 BIN_DIGIT t q y e m (omega arith))
only_oct t q y e (inr (inr (inl m))) = inr m
only_oct t q y e (inr (inr (inr m))) = absurd (other 111 120 HEX_DIGIT t q y e m (omega arith))

only_hex : (t q y : List ℕ) → 48 ∷ 120 ∷ t ≡ q ++ y → INTEGER_PART q → (length q ≤ 1) ⊎ RADIX_LITERAL 120 HEX_DIGIT q
only_hex t q y e (inl m) = inl (dec_front 120 hex_apart.letter t q y e (dec_open q m)).0
only_hex t q y e (inr (inl m)) = absurd (other 120 98 BIN_DIGIT t q y e m (omega arith))
only_hex t q y e (inr (inr (inl m))) = absurd (other 120 111 OCT_DIGIT t q y e m (omega arith))
only_hex t q y e (inr (inr (inr m))) = inr m

-- ---- every text

-- a text that starts with the prefix is 0, its letter and the rest
pub prefix_is : (c : ℕ) (s : List ℕ) → T (prefixed c s) → s ≡ 48 ∷ c ∷ drop 2 s
prefix_is c [] t = absurd t
prefix_is c (a ∷ []) t = absurd t
prefix_is c (a ∷ b ∷ s) t = rw (eqb→eq a 48 (and_l (eqb a 48) (eqb b c) t), eqb→eq b c (and_r (eqb a 48) (eqb b c) t))

-- the scan accepts exactly the integer literals of the Reference, and finds their part and suffix
integer_scanned : (s : List ℕ) → Scanned s (integer_ok s) (integer_part s) (integer_suffix s)
unfolding integer_ok integer_part integer_suffix
integer_scanned s = go (prefixed 98 s) refl (prefixed 111 s) refl (prefixed 120 s) refl
  where
    radix : (c : ℕ) (d : Class) → ((t : List ℕ) → Scanned (48 ∷ c ∷ t) (digits_ok d t) (48 ∷ c ∷ take_while (d ∪ LOW) t) (drop_while (d ∪ LOW) t)) → prefixed c s ≡ true
        → Scanned s (digits_ok d (drop 2 s)) (48 ∷ c ∷ take_while (d ∪ LOW) (drop 2 s)) (drop_while (d ∪ LOW) (drop 2 s))
    radix c d h e =
        subst⁻¹ (λ (u : List ℕ). Scanned u (digits_ok d (drop 2 s)) (48 ∷ c ∷ take_while (d ∪ LOW) (drop 2 s)) (drop_while (d ∪ LOW) (drop 2 s)))
        (prefix_is c s (true_T _ e)) (h (drop 2 s))

    go : (x : Bool) → prefixed 98 s ≡ x → (y : Bool) → prefixed 111 s ≡ y → (z : Bool) → prefixed 120 s ≡ z
        → Scanned s
        (cond x (digits_ok BIN_DIGIT (drop 2 s)) (cond y (digits_ok OCT_DIGIT (drop 2 s)) (cond z (digits_ok HEX_DIGIT (drop 2 s)) (begins DEC_DIGIT s && digits_ok DEC_DIGIT s))))
        (cond x (48 ∷ 98 ∷ take_while (BIN_DIGIT ∪ LOW) (drop 2 s)) (cond y (48 ∷ 111 ∷ take_while (OCT_DIGIT ∪ LOW) (drop 2 s))
        (cond z (48 ∷ 120 ∷ take_while (HEX_DIGIT ∪ LOW) (drop 2 s)) (take_while (DEC_DIGIT ∪ LOW) s))))
        (cond x (drop_while (BIN_DIGIT ∪ LOW) (drop 2 s)) (cond y (drop_while (OCT_DIGIT ∪ LOW) (drop 2 s))
        (cond z (drop_while (HEX_DIGIT ∪ LOW) (drop 2 s)) (drop_while (DEC_DIGIT ∪ LOW) s))))
    go true e y f z g = radix 98 BIN_DIGIT (radix_scanned 98 BIN_DIGIT bin_apart (λ q m. inr (inl m)) only_bin (λ r m. bin_empty m) clean_bin) e
    go false e true f z g = radix 111 OCT_DIGIT (radix_scanned 111 OCT_DIGIT oct_apart (λ q m. inr (inr (inl m))) only_oct (λ r m. oct_empty m) clean_oct) f
    go false e false f true g = radix 120 HEX_DIGIT (radix_scanned 120 HEX_DIGIT hex_apart (λ q m. inr (inr (inr m))) only_hex (λ r m. hex_empty m) clean_hex) g
    go false e false f false g = dec_scanned s (λ t. rw e at t, λ t. rw f at t, λ t. rw g at t)

-- Demand 2 for integers: the reading accepts exactly the integer literals of the Reference.
pub integer_iff : (s : List ℕ) → T (integer_ok s) ↔ INTEGER_LITERAL s
integer_iff s = let h = integer_scanned s in (h.sound, h.complete)

-- and part and suffix are those that the scan finds
pub integer_split : (s : List ℕ) (i : INTEGER_LITERAL s) → (i.part ≡ integer_part s) × (i.suffix ≡ integer_suffix s)
integer_split s = (integer_scanned s).split
