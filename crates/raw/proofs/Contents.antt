-- A raw body is read to its closing quote exactly where its content stands before that quote, and its value has no zero byte where the
-- kind has none.
-- Assumes nothing.
use mathlib.Core.Path.{◌≡◌, refl, ap, sym, ◌∙◌, subst}
use mathlib.Core.Logic.{◌↔◌}
use mathlib.Core.Bool.{false, not, ◌&&◌, and-false}
use mathlib.Core.List.{List, [], ◌∷◌, ◌++◌}
use Prim.Native.Nat.{ℕ, zero, suc, ◌+◌, ◌≤◌, ◌<◌}
use native.Mathlib.Omega.{arith}
use borrow.Author.Tests.{leb-true, leb-false}
use lib.Dec.{eqb, ltb, leb}
use lib.ListN.{get_or-append, length, get_or, take, drop}
use Rattle.scan.specs.Run.{run, All}
use Rattle.scan.specs.Sets.{only, except}
use Rattle.scan.proofs.Cases.{cond_in, cond_eq, by_lt}
use Rattle.escape.specs.Allows.{unicode, allow_nul}
use Rattle.escape.specs.declared.Allowed.{Allowed}
use Rattle.escape.specs.declared.Unescaped.TheVariants.{Byte}
use Rattle.body.specs.Step.{close, refuse, Next, piece, stop, plain_of}
use Rattle.body.specs.Body.{Body, push}
use Rattle.body.proofs.Steps.{is_plain}
use Rattle.body.proofs.Bodies.{body_stop, body_piece, induct}
use Rattle.body.proofs.Bytes.{other, tested, all_at}
use Rattle.raw.specs.Raw.{raw_byte, raw_step_of, raw_body}
use Rattle.raw.specs.Content.{RawChar, ClosesAt, RawContent}
use Rattle.raw.proofs.Steps as steps

module _ (k : Allowed) (h : ℕ) where
  -- what a step passes is a byte where the string does not close
  abbrev Stepped : List ℕ → Next → Type 0
  Stepped s (piece n u) = (n ≡ 1) × RawChar k (get_or s 0 0) × (ClosesAt h s 0 → ⊥)
  Stepped s (stop close) = ClosesAt h s 0
  Stepped s (stop (refuse num p)) = Unit {0}

  stepped : (s : List ℕ) → Stepped s (raw_step_of k h s)
  unfolding raw_step_of raw_byte plain_of
  stepped [] = tt
  stepped (b ∷ s) =
      let P : Next → Type 0 = Stepped (b ∷ s) in
      cond_eq P b 34
      (λ e. cond_in P (leb h (run (only 35) s)) (λ f. (e, leb-true h (run (only 35) s) f)) λ f.
      (refl, quote_char b e, λ c. omega (arith, leb-false h (run (only 35) s) f, c.1)))
      λ q.
      cond_eq P b 13 (λ e. tt) λ cr.
      cond_eq P b 34 (λ e. absurd (q e)) λ e.
      cond_in P (not (allow_nul k) && eqb b 0) (λ e. tt) λ nul.
      cond_in P (not (unicode k) && ltb 127 b) (λ e. tt) λ ascii. (refl, record { cr = cr; nul = nul; ascii = ascii }, λ c. q c.0)
    where
      quote_char : (b : ℕ) → b ≡ 34 → RawChar k b
      quote_char b e = rw e (record { cr = λ x. omega arith; nul = and-false (not (allow_nul k)); ascii = and-false (not (unicode k)) })

  -- one byte more
  on : (b : ℕ) (s : List ℕ) (n : ℕ) → RawChar k b → (ClosesAt h (b ∷ s) 0 → ⊥) → RawContent k h s n → RawContent k h (b ∷ s) (suc n)
  on b s n c f r = record { closes = r.closes; first = first; chars = chars }
    where
      first : (i : ℕ) → i < suc n → ClosesAt h (b ∷ s) i → ⊥
      first zero l x = f x
      first (suc i) l x = r.first i (omega arith) x

      chars : (i : ℕ) → i < suc n → RawChar k (get_or (b ∷ s) i 0)
      chars zero l = c
      chars (suc i) l = r.chars i (omega arith)

  raw_sound : (s : List ℕ) → (raw_body k h s).end ≡ close → RawContent k h s (raw_body k h s).at
  raw_sound s =
      induct (raw_step_of k h) (h + 1) (steps.raw_in k h) (λ s b. b.end ≡ close → RawContent k h s b.at)
      (λ s e g c. record {
        closes = subst (λ (x : Next). Stepped s x) (g ∙ ap stop c) (stepped s);
        first = λ i l. absurd (omega arith);
        chars = λ i l. absurd (omega arith);
      })
      (λ s n u g p l f c.
      let t : Stepped s (piece n u) = rw g at (stepped s) in
      next s n (raw_body k h (drop n s)).at t.0 t.1 t.2 l (f c))
      s
    where
      next : (s : List ℕ) (n m : ℕ) → n ≡ 1 → RawChar k (get_or s 0 0) → (ClosesAt h s 0 → ⊥) → n ≤ length s → RawContent k h (drop n s) m
          → RawContent k h s (n + m)
      next [] n m e c f l r = absurd (omega arith)
      next (b ∷ s) n m e c f l r =
          let one : n + m ≡ suc m = omega arith in
          let rest : RawContent k h s m = rw e at r in
          rw one (on b s m c f rest)

  raw_complete : (n : ℕ) (s : List ℕ) → RawContent k h s n → raw_body k h s ≡ record { at = n; value = take n s; end = close }
  raw_complete zero [] r = absurd (omega (arith, r.closes.0))
  raw_complete (suc n) [] r = absurd (omega (arith, r.closes.0))
  raw_complete zero (b ∷ s) r =
      body_stop (raw_step_of k h) (b ∷ s) close
      (sym (steps.raw_close k h (b ∷ s) 0 (omega arith) r.closes.0 (run (only 35) s) refl r.closes.1))
  raw_complete (suc n) (b ∷ s) r =
      let one : 1 + n ≡ suc n = omega arith in
      body_piece (raw_step_of k h) (b ∷ s) 1 (Byte b) (step (r.chars 0 (omega arith)) (r.first 0 (omega arith))) (omega arith) (omega arith)
      ∙ ap (push 1 (b ∷ [])) (raw_complete n s rest)
      ∙ rw one
    where
      rest : RawContent k h s n
      rest = record {
        closes = r.closes;
        first = λ i l. r.first (suc i) (omega arith);
        chars = λ i l. r.chars (suc i) (omega arith);
      }

      step : RawChar k b → (ClosesAt h (b ∷ s) 0 → ⊥) → raw_step_of k h (b ∷ s) ≡ piece 1 (Byte b)
      step c f =
          cond_eq (λ (x : ℕ). raw_step_of k h (b ∷ s) ≡ piece 1 (Byte b)) b 34 {x = 0} {y = 0}
          (λ e. sym (steps.raw_quote k h (b ∷ s) 0 (omega arith) e (run (only 35) s) refl (by_lt (run (only 35) s) h (λ l. l) (λ l. absurd (f (e, l)))))
          ∙ ap (λ (x : ℕ). piece 1 (Byte x)) (sym e))
          (λ e. sym (steps.raw_plain_lem k h (b ∷ s) 0 (omega arith) e) ∙ sym (is_plain k b c.cr e c.nul c.ascii))

  pub raw_exact : (s : List ℕ) (n : ℕ) → (raw_body k h s ≡ record { at = n; value = take n s; end = close }) ↔ RawContent k h s n
  raw_exact s n = ((λ e. rw e at (raw_sound s (ap (λ (b : Body). b.end) e))), raw_complete n s)

-- ---- no zero byte

module _ (k : Allowed) (no : allow_nul k ≡ false) where
  pub raw_no_zero : {h : ℕ} (v r : List ℕ) → RawContent k h (v ++ r) (length v) → All (except 0) v
  raw_no_zero v r c =
      all_at (except 0) v λ i l.
      other (get_or v i 0) (tested (allow_nul k) (get_or v i 0) no (rw (get_or-append v r 0 i l) at (c.chars i l).nul))
