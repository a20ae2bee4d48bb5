-- What is accepted is made up of a prefix, digits and a suffix, and such parts are accepted.
-- Assumes nothing.
use mathlib.Core.Path.{◌≡◌, refl, ap, sym, ◌∙◌}
use mathlib.Core.Bool.{true}
use mathlib.Core.List.{List, [], ◌∷◌, ◌++◌, append_assoc}
use Prim.Native.Nat.{ℕ, ◌+◌, ◌≤◌, ◌<◌}
use native.Mathlib.Omega.{arith}
use borrow.Author.Tests.{ne_eqb}
use lib.Dec.{eqb}
use lib.ListN.{length, get_or, take, drop, length-append, take-append-drop, get_or-append}
use lib.Seq.{length-take-le, take-append_seam, drop-append_seam, drop-append-add, drop-drop}
use Rattle.err.specs.Outcome.{IntegerValues, Values, accepted, digits}
use Rattle.err.proofs.Values.{digits_same}
use Rattle.scan.specs.Run.{run}
use Rattle.scan.specs.Sets.{only}
use Rattle.scan.proofs.Cases.{cond_in, cond_eq}
use Rattle.scan.proofs.Runs.{run_le, run_all, run_stops, run_is}
use Rattle.parse.specs.Sets.{digit, dec_digit}
use Rattle.parse.proofs.Numbers.{e_after}
use Rattle.integer.specs.Integer.{base_at, prefix_len, main_len, main_part, after_suffix, after_digits, integer_of, integer_at, integer_read}
use Rattle.integer.specs.Parts.{Prefixed, dec, bin, oct, hex, IntegerParts, Tiled}
use Rattle.integer.proofs.Suffixed.{suffix_passed, digits_passed}
use Rattle.integer.proofs.Read.{read_digit, read_accepted}

prefix_length : {base : ℕ} {pre : List ℕ} → Prefixed base pre → prefix_len base ≡ length pre
unfolding prefix_len
prefix_length dec = refl
prefix_length bin = refl
prefix_length oct = refl
prefix_length hex = refl

-- ---- what is accepted has its parts

prefixed : (s : List ℕ) → Prefixed (base_at s) (take (prefix_len (base_at s)) s)
unfolding base_at prefix_len
prefixed [] = dec
prefixed (a ∷ []) = cond_in (λ (n : ℕ). Prefixed n (take (prefix_len n) (a ∷ []))) (eqb a 48) (λ e. dec) (λ e. dec)
prefixed (a ∷ b ∷ s) =
    cond_eq P a 48
    (λ e. cond_eq P b 98 (λ f. rw (e, f) bin) (λ _. cond_eq P b 111 (λ f. rw (e, f) oct) (λ _. cond_eq P b 120 (λ f. rw (e, f) hex) (λ _. dec))))
    (λ e. dec)
  where
    P : ℕ → Type 0
    P n = Prefixed n (take (prefix_len n) (a ∷ b ∷ s))

-- an accepted text is made up of its parts
pub sound : (s : List ℕ) (k e : ℕ) (v : Values) → integer_read s ≡ accepted k e v → Tiled s k e v
unfolding main_len integer_at integer_of
sound s k e v h =
    let base = base_at s in
    let pre = take (prefix_len base) s in
    let rest = drop (prefix_len base) s in
    let n = run (digit base) rest in
    let main = take n rest in
    let suf = drop n rest in
    let read = read_accepted s h in
    let good = suffix_passed s (prefix_len base + n) _ read.1 in
    let found = digits_passed s (prefix_len base + n) _ (prefix_len base) n good.1 in
    let lp : length pre ≡ prefix_len base = sym (prefix_length (prefixed s)) in
    let lm : length main ≡ n = length-take-le n rest (run_le (digit base) rest) in
    let cut : s ≡ pre ++ (main ++ suf) = rw (take-append-drop n rest, take-append-drop) in
    let some : run (only 95) main < length main = omega (arith, run_le (only 95) main, found.1.0) in
    let first : get_or (pre ++ main) 0 0 ≡ get_or s 0 0 = sym (get_or-append (pre ++ main) suf 0 0 (omega (arith, length-append pre main))) ∙ ap (λ (l : List ℕ). get_or l 0 0) (append_assoc pre main suf ∙ sym cut) in
    let parts : IntegerParts base pre main suf = record {
      prefix = prefixed s;
      digits = run_all (digit base) rest;
      some = some;
      longest = run_stops (digit base) rest;
      suffix = rw drop-drop good.0;
      no_e = rw (drop-drop, e_after) found.0;
      first = ap dec_digit first ∙ read.0;
      plain = ap base_at (sym cut);
    } in
    record { base = base; pre = pre; main = main; suf = suf; parts = parts; text = cut; kind = cc found.1.1; end = cc (found.1.1, lp, lm); values = cc (found.1.1, lp) }

-- ---- such parts are accepted

module _ {base : ℕ} {pre main suf : List ℕ} (h : IntegerParts base pre main suf) where
  main_len_lem : main_len (pre ++ (main ++ suf)) ≡ length main
  unfolding main_len
  main_len_lem = rw (h.plain, prefix_length h.prefix, drop-append_seam) (run_is (digit base) main suf h.digits h.longest)

  -- its digits are the main part
  pub main_part_lem : main_part (pre ++ (main ++ suf)) ≡ main
  unfolding main_part
  main_part_lem = rw (main_len_lem, h.plain, prefix_length h.prefix, drop-append_seam, take-append_seam)

  of_parts : integer_of (pre ++ (main ++ suf)) base (length pre) (length main) ≡ accepted 2 (length pre + length main) (digits (record { base = base; start = length pre; end = length pre + length main }))
  unfolding integer_of after_suffix after_digits
  of_parts =
      rw (← e_after (pre ++ (main ++ suf)) (length pre + length main), drop-append-add, drop-append_seam main suf, h.suffix, h.no_e, drop-append_seam, take-append_seam, ne_eqb (run (only 95) main) (length main) (λ e. omega (arith, h.some)))

  first_digit : dec_digit (get_or (pre ++ (main ++ suf)) 0 0) ≡ true
  first_digit = rw (← append_assoc, get_or-append (pre ++ main) suf 0 0 (omega (arith, h.some, length-append pre main))) h.first

  pub complete : integer_read (pre ++ (main ++ suf)) ≡ accepted 2 (length pre + length main) (digits (record { base = base; start = length pre; end = length pre + length main }))
  unfolding integer_at
  complete = sym (read_digit _ first_digit) ∙ rw (main_len_lem, h.plain, prefix_length h.prefix) of_parts

-- ---- the ends of the digits

pub read_ends : (s : List ℕ) {k n : ℕ} {d : IntegerValues} → integer_read s ≡ accepted k n (digits d) → (d.start ≤ d.end) × (d.end ≤ length s)
read_ends s {k} {n} {d} h =
    let t = sound s k n (digits d) h in
    let v = digits_same t.values in
    let p : d.start ≡ length t.pre = ap (λ (d : IntegerValues). d.start) v in
    let q : d.end ≡ n = ap (λ (d : IntegerValues). d.end) v in
    (omega (arith, t.end), rw t.text (omega (arith, t.end, length-append t.pre (t.main ++ t.suf), length-append t.main t.suf)))
