-- A raw body stands for its own bytes.
-- Assumes nothing.
use mathlib.Core.Path.{◌≡◌, refl, ap, sym, ◌∙◌}
use mathlib.Core.Bool.{not, ◌&&◌}
use mathlib.Core.List.{List, [], ◌∷◌, ◌++◌}
use Prim.Native.Nat.{ℕ, ◌+◌, ◌<◌}
use native.Mathlib.Omega.{arith}
use lib.Dec.{eqb, ltb, leb}
use lib.ListN.{length, get_or, take, drop, length-drop}
use lib.Seq.{take-add, length-take-le}
use Rattle.scan.specs.Run.{run}
use Rattle.scan.specs.Sets.{only}
use Rattle.scan.proofs.Cases.{cond_in, cond_eq}
use Rattle.escape.specs.Allows.{unicode, allow_nul}
use Rattle.escape.specs.Escape.{bytes_of}
use Rattle.escape.specs.declared.Allowed.{Allowed}
use Rattle.escape.specs.declared.Unescaped.{Unescaped}
use Rattle.escape.specs.declared.Unescaped.TheVariants.{Byte}
use Rattle.body.specs.Step.{End, Next, piece, stop, end_of, plain_of}
use Rattle.body.specs.Body.{Measures}
use Rattle.body.specs.declared.Measured.{Measured}
use Rattle.body.proofs.Bytes.{take_none, take_one}
use Rattle.body.proofs.Bodies.{Passed, start, induct, bounds, more, measures}
use Rattle.raw.specs.Raw.{raw_byte, raw_step_of, raw_body}
use Rattle.raw.proofs.Steps.{raw_in}

-- a piece is the first byte
abbrev OneByte : List ℕ → Next → Type 0
OneByte s (piece n u) = (n ≡ 1) × (u ≡ Byte (get_or s 0 0))
OneByte s (stop e) = Unit {0}

one_byte : (k : Allowed) (h : ℕ) (s : List ℕ) → OneByte s (raw_step_of k h s)
unfolding raw_step_of raw_byte plain_of
one_byte k h [] = tt
one_byte k h (b ∷ s) =
    let P : Next → Type 0 = OneByte (b ∷ s) in
    cond_eq P b 34 (λ e. cond_in P (leb h (run (only 35) s)) (λ f. tt) (λ f. (refl, ap Byte (sym e)))) λ e.
    cond_eq P b 13 (λ f. tt) λ f.
    cond_eq P b 34 (λ f. tt) λ f.
    cond_in P (not (allow_nul k) && eqb b 0) (λ g. tt) λ g.
    cond_in P (not (unicode k) && ltb 127 b) (λ g. tt) λ g. (refl, refl)

module _ (k : Allowed) (h : ℕ) where
  -- a piece stands for the bytes that it has
  itself : (s : List ℕ) (n : ℕ) (u : Unescaped) → raw_step_of k h s ≡ piece n u → 0 < length s → bytes_of u ≡ take n s
  itself s n u e l =
      let o : OneByte s (piece n u) = rw e at (one_byte k h s) in
      rw (o.0, o.1) (sym (take_one s l))

  -- THE LAW: the value of a raw body is the bytes before its end, as they stand.
  pub raw_value : (s : List ℕ) → (raw_body k h s).value ≡ take (raw_body k h s).at s
  raw_value s =
      induct (raw_step_of k h) (h + 1) (raw_in k h) (λ s b. b.value ≡ take b.at s)
      (λ s e g. sym (take_none s))
      (λ s n u g p l r. rw (itself s n u g (omega arith), r) (sym (take-add n (raw_body k h (drop n s)).at s)))
      s

  -- ---- a loop over a raw body, which stands at i

  pub raw_start : (s : List ℕ) → Passed (raw_step_of k h) s 0 (take 0 s)
  raw_start s = rw (take_none s) (start (raw_step_of k h) s)

  -- it goes on by one piece
  pub raw_more : {s : List ℕ} {i : ℕ} (n : ℕ) (u : Unescaped) → Passed (raw_step_of k h) s i (take i s) → raw_step_of k h (drop i s) ≡ piece n u
      → Passed (raw_step_of k h) s (i + n) (take (i + n) s)
  raw_more {s} {i} n u q g =
      let b = bounds (raw_step_of k h) (h + 1) (raw_in k h) q n u g in
      let whole : take i s ++ bytes_of u ≡ take (i + n) s = rw (itself (drop i s) n u g (omega (arith, b, length-drop i s))) (sym (take-add i n s)) in
      rw whole at (more (raw_step_of k h) (h + 1) (raw_in k h) q n u g)

  -- the measure of the whole, where it ends
  pub raw_measures : {s : List ℕ} {i : ℕ} → Passed (raw_step_of k h) s i (take i s) → (x : End) → raw_step_of k h (drop i s) ≡ stop x
      → (m : Measured) → m.at ≡ i → m.len ≡ i → end_of m.end ≡ x → Measures (raw_body k h s) m
  raw_measures {s} {i} q x g m a l w =
      measures (raw_step_of k h) (h + 1) (raw_in k h) q x g m a (l ∙ sym (length-take-le i s q.within)) w
