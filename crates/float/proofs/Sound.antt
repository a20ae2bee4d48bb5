-- A text that is accepted as a float is tiled by its parts and suffix.
-- Assumes nothing.
use mathlib.Core.Path.{◌≡◌, refl, ap, sym, ◌∙◌}
use mathlib.Core.Bool.{Bool, true, false, ◌||◌}
use mathlib.Core.List.{List, [], ◌∷◌, ◌++◌, append_assoc, cons≢nil}
use Prim.Native.Nat.{ℕ, suc, ◌+◌}
use native.Mathlib.Nat.{add-zero}
use native.Mathlib.Omega.{arith}
use lib.Dec.{eqb}
use lib.ListN.{length, get_or, take, drop, drop_of_length-le}
use lib.Seq.{drop-cons, length-take-le}
use borrow.Author.Tests.{eq-eqb, eqb-true, eqb-false, ltb-false}
use Rattle.err.specs.Outcome.{Place, Values, refused, accepted, ends}
use Rattle.scan.specs.Run.{run, All, Stops}
use Rattle.scan.specs.Sets.{only}
use Rattle.scan.proofs.Bytes.{byte_inside}
use Rattle.scan.proofs.Cases.{cond_in, cond_eq, clash}
use Rattle.scan.proofs.Runs.{run_le, run_all, run_stops, run_split}
use Rattle.parse.specs.Sets.{digit, dec_digit, starts_e}
use Rattle.suffix.specs.Suffix.{suffix_fault}
use Rattle.parse.proofs.Classes.{digit_decimal}
use Rattle.parse.proofs.Numbers.{e_inside, e_after}
use Rattle.float.specs.Float.{not_integer, after_number, after_fraction, bad_fraction, after_integer, float_read}
use Rattle.float.specs.Parts.{Sign, unsigned, plus, minus, Exponent, no_exponent, exponent, Fraction, no_fraction, fraction, Tiled}
use Rattle.float.proofs.Steps.{is_sign, byte_from, past, exponent_from, fraction_from, no_fraction_from}

-- a sign or none at the front
signed : (t : List ℕ) → (sign : List ℕ) × (u : List ℕ) × (t ≡ sign ++ u) × Sign sign × (sign ≡ [] → is_sign (get_or u 0 0) ≡ false)
signed [] = ([], [], refl, unsigned, λ e. refl)
signed (b ∷ t) = go (eqb b 45) (eqb b 43) refl refl
  where
    go : (m p : Bool) → eqb b 45 ≡ m → eqb b 43 ≡ p
        → (sign : List ℕ) × (u : List ℕ) × (b ∷ t ≡ sign ++ u) × Sign sign × (sign ≡ [] → is_sign (get_or u 0 0) ≡ false)
    go true p e g = (45 ∷ [], t, rw (eqb-true b 45 e), minus, λ z. absurd (cons≢nil z))
    go false true e g = (43 ∷ [], t, rw (eqb-true b 43 g), plus, λ z. absurd (cons≢nil z))
    go false false e g = ([], b ∷ t, refl, unsigned, λ z. rw (e, g))

module _ (k p : ℕ) (v : Values) where
  refusal {ℓ} : {P : Type ℓ} {n : ℕ} {q : Place} → refused n q ≡ accepted k p v → P
  refusal h = absurd (let z : ◌≡◌ {A = ℕ} 0 1 = cc in omega arith)

  -- what holds where a number that ends at e is accepted
  abbrev Number : List ℕ → ℕ → ℕ → ℕ → Type 0
  Number s i f e = (suffix_fault (drop e s) ≡ 0) × (i ≡ e → ⊥) × (accepted k p v ≡ accepted 3 e (ends (record { whole = i; fraction = f; end = e })))

  number_sound : (s : List ℕ) (i f e : ℕ) → after_number s i f e ≡ accepted k p v → Number s i f e
  unfolding after_number not_integer
  number_sound s i f e =
      cond_eq (λ o. o ≡ accepted k p v → Number s i f e) (suffix_fault (drop e s)) 0
      (λ g. cond_eq (λ o. o ≡ accepted k p v → Number s i f e) i e (λ y h. refusal h) (λ n h. (g, n, sym h)))
      (λ n h. refusal h)

  -- exponent and suffix, from the end of the fraction on
  record Rest (s : List ℕ) (i f : ℕ) : Type 0 where
    ex : List ℕ
    suf : List ℕ
    text : drop f s ≡ ex ++ suf
    exponent : Exponent ex
    suffix : suffix_fault suf ≡ 0
    longest : Stops (digit 10) suf
    no_e : ex ≡ [] → starts_e suf 0 ≡ false
    more : i ≡ f + length ex → ⊥
    is : accepted k p v ≡ accepted 3 (f + length ex) (ends (record { whole = i; fraction = f; end = f + length ex }))

  rest_sound : (s : List ℕ) (i f : ℕ) → Stops (digit 10) (drop f s) → after_fraction s i f ≡ accepted k p v → Rest s i f
  unfolding after_fraction starts_e
  rest_sound s i f l h = go (starts_e s f) refl
    where
      go : (t : Bool) → starts_e s f ≡ t → Rest s i f
      go false t =
          let n = number_sound s i f f (rw t at h) in
          record {
            ex = [];
            suf = drop f s;
            text = refl;
            exponent = no_exponent refl;
            suffix = n.0;
            longest = l;
            no_e = λ e. e_after s f ∙ t;
            more = rw add-zero n.1;
            is = rw add-zero n.2;
          }
      go true t =
          let c = drop-cons s f 0 (e_inside s f t) in
          let g = signed (drop (suc f) s) in
          let sign = g.0 in
          let u = g.1 in
          let ds = take (run (digit 10) u) u in
          let suf = drop (run (digit 10) u) u in
          let w : ds ++ suf ≡ u = run_split (digit 10) u in
          let w1 : drop f s ≡ get_or s f 0 ∷ (sign ++ (ds ++ suf)) = rw w (c ∙ ap (λ (z : List ℕ). get_or s f 0 ∷ z) g.2) in
          let a = exponent_from s i f (get_or s f 0) sign ds suf w1 t g.3 (rw w g.4) (run_all (digit 10) u) (run_stops (digit 10) u) in
          let ex = get_or s f 0 ∷ (sign ++ ds) in
          let w2 : drop f s ≡ ex ++ suf = rw append_assoc w1 in
          cond_eq (λ o. o ≡ accepted k p v → Rest s i f) (run (only 95) ds) (length ds)
          (λ y h. refusal h)
          (λ y h.
          let n = number_sound s i f (f + length ex) h in
          record {
            ex = ex;
            suf = suf;
            text = w2;
            exponent = exponent (get_or s f 0) sign ds refl t g.3 (run_all (digit 10) u) (omega (arith, run_le (only 95) ds));
            suffix = rw (past s f ex suf w2) at n.0;
            longest = run_stops (digit 10) u;
            no_e = λ e. absurd (cons≢nil e);
            more = n.1;
            is = n.2;
          })
          (sym a ∙ h)

neither : (a b : Bool) → (a || b) ≡ false → (a ≡ false) × (b ≡ false)
neither true b e = clash refl e
neither false b e = (refl, e)

-- what `bad_fraction` leaves after a period
good_fraction : (s : List ℕ) (at : ℕ) (ds rest : List ℕ) → drop at s ≡ ds ++ rest → bad_fraction s at (at + length ds) ≡ false
    → Stops (only 95) ds × (ds ≡ [] → rest ≡ [])
unfolding bad_fraction only
good_fraction s at [] rest h b =
    let n = neither (eqb (get_or s at 0) 95) _ b in
    let l = ltb-false at (length s) (rw (eq-eqb (at + 0) at (omega arith)) at n.1) in
    (tt, λ e. sym h ∙ drop_of_length-le s l)
good_fraction s at (x ∷ ds) rest h b =
    (rw (byte_from s at (x ∷ (ds ++ rest)) h) at (neither (eqb (get_or s at 0) 95) _ b).0, λ e. absurd (cons≢nil e))

nothing : (a b : List ℕ) → a ++ b ≡ [] → (a ≡ []) × (b ≡ [])
nothing [] b e = (refl, e)
nothing (x ∷ a) b e = absurd (cons≢nil e)

module _ (k p : ℕ) (v : Values) (s whole : List ℕ) (digits : All (digit 10) whole) (first : dec_digit (get_or whole 0 0) ≡ true) where
  tile : (frac : List ℕ) → Fraction frac → s ≡ whole ++ (frac ++ drop (length whole + length frac) s)
      → (frac ≡ 46 ∷ [] → drop (length whole + length frac) s ≡ []) → Rest k p v s (length whole) (length whole + length frac) → Tiled s k p v
  tile frac fr text bare r =
      record {
        whole = whole;
        frac = frac;
        ex = r.ex;
        suf = r.suf;
        parts = record {
          digits = digits;
          first = first;
          fraction = fr;
          exponent = r.exponent;
          suffix = r.suffix;
          some = λ e g. r.more (omega (arith, ap length e, ap length g));
          bare = λ e. nothing r.ex r.suf (sym r.text ∙ bare e);
          longest = r.longest;
          no_e = r.no_e;
        };
        text = rw r.text at text;
        kind = cc r.is;
        start = cc r.is;
        values = cc r.is;
      }

  after_whole_lem : s ≡ whole ++ drop (length whole) s → Stops (digit 10) (drop (length whole) s) → after_integer s (length whole) ≡ accepted k p v → Tiled s k p v
  after_whole_lem t l h = go (eqb (get_or s (length whole) 0) 46) refl
    where
      go : (y : Bool) → eqb (get_or s (length whole) 0) 46 ≡ y → Tiled s k p v
      go false y =
          tile [] (no_fraction refl) (rw add-zero t) (λ e. absurd (cons≢nil (sym e)))
          (rest_sound k p v s (length whole) (length whole + 0) (rw add-zero l) (rw add-zero (sym (no_fraction_from s (length whole) (eqb-false _ _ y)) ∙ h)))
      go true y =
          let i = length whole in
          let b = eqb-true (get_or s i 0) 46 y in
          let u = drop (suc i) s in
          let ds = take (run (digit 10) u) u in
          let rest = drop (run (digit 10) u) u in
          let w : drop i s ≡ 46 ∷ (ds ++ rest) = drop-cons s i 0 (byte_inside s i 46 b (omega arith)) ∙ rw (b, run_split) in
          let q : i + 1 + length ds ≡ i + length (46 ∷ ds) = omega arith in
          let x : drop (i + length (46 ∷ ds)) s ≡ rest = past s i (46 ∷ ds) rest w in
          cond_in (λ o. o ≡ accepted k p v → Tiled s k p v) (bad_fraction s (i + 1) (i + 1 + length ds))
          (λ y h. refusal k p v h)
          (λ y h.
          let g = good_fraction s (i + 1) ds rest (past s i (46 ∷ []) (ds ++ rest) w) y in
          tile (46 ∷ ds) (fraction ds refl (run_all (digit 10) u) g.0) (rw (x, ← w) t)
          (λ e. x ∙ g.1 (cc))
          (rest_sound k p v s i (i + length (46 ∷ ds)) (rw x (run_stops (digit 10) u)) (rw (← q) h)))
          (sym (fraction_from s i ds rest w (run_all (digit 10) u) (run_stops (digit 10) u)) ∙ h)

pub sound : (s : List ℕ) (k e : ℕ) (v : Values) → float_read s ≡ accepted k e v → Tiled s k e v
unfolding float_read
sound [] k e v = refusal k e v
sound (b ∷ t) k e v =
    cond_in (λ o. o ≡ accepted k e v → Tiled (b ∷ t) k e v) (dec_digit b)
    (λ d h.
    let s = b ∷ t in
    let n = run (digit 10) s in
    let l : n ≡ length (take n s) = sym (length-take-le n s (run_le (digit 10) s)) in
    after_whole_lem k e v s (take n s) (run_all (digit 10) s) (rw (digit_decimal 10 b (omega arith) d) d)
    (rw (← l) (sym (run_split (digit 10) s))) (rw (← l) (run_stops (digit 10) s)) (rw (← l) h))
    (λ d h. refusal k e v h)
