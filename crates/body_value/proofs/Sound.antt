-- What the reading of a body gives, the pieces give.
-- Assumes nothing.
use mathlib.Core.Path.{◌≡◌, refl, ap, sym, ◌∙◌, subst}
use mathlib.Core.Logic.{◌⊎◌, inl, inr}
use mathlib.Core.Bool.{not, ◌&&◌}
use mathlib.Core.List.{List, [], ◌∷◌, ◌++◌}
use Prim.Native.Nat.{ℕ, zero, suc, ◌+◌, ◌-◌}
use native.Mathlib.Omega.{arith}
use lib.Dec.{eqb, ltb}
use lib.ListN.{length, get_or, take, drop, length-take}
use lib.Seq.{take-take, take-add, get_or-drop}
use Rattle.scan.specs.Run.{run, All, Stops}
use Rattle.scan.proofs.Cases.{cond_in, cond_eq}
use Rattle.scan.proofs.Runs.{run_all, run_stops}
use Rattle.parse.specs.Sets.{blank}
use Rattle.utf8.specs.Cut.{last_len, front}
use Rattle.escape.specs.Allows.{unicode, allow_nul}
use Rattle.escape.specs.Escape.{Escaped, value, bad, bytes_of, escape_of}
use Rattle.escape.specs.Pieces.{Esc}
use Rattle.escape.specs.declared.Allowed.{Allowed}
use Rattle.escape.specs.declared.Unescaped.{Unescaped}
use Rattle.escape.specs.declared.Unescaped.TheVariants.{Nothing, Byte}
use Rattle.escape.proofs.Within.{EscapeIn, escape_in}
use Rattle.escape.proofs.Exact.{Escapes, escape_sound}
use Rattle.body.specs.Step.{close, refuse, Next, piece, stop, of_escape, line_break_of, backslash_of, plain_of, step_of}
use Rattle.body.specs.Body.{body}
use Rattle.body.specs.Pieces as pieces
use Rattle.body.proofs.Within.{step_in}
use Rattle.body.proofs.Bodies.{induct}

module _ (k : Allowed) where
  seen_sound : (m : ℕ) (s : List ℕ) → Escapes k (take m (92 ∷ s)) (escape_of k (take m (92 ∷ s)))
  unfolding escape_of
  seen_sound zero s = tt
  seen_sound (suc m) s = escape_sound k (take m s)

  -- ---- steps

  -- what a step passes is a character, an escape or a dropped line break
  abbrev Alternative : List ℕ → ℕ → Unescaped → Type 0
  Alternative s n u =
      ((b : ℕ) × (take n s ≡ b ∷ []) × pieces.Char k b × (u ≡ Byte b))
      ⊎ (Esc k (take n s) u ⊎ ((ws : List ℕ) × All blank ws × (take n s ≡ 92 ∷ 10 ∷ ws) × Stops blank (drop n s) × (u ≡ Nothing)))

  abbrev Stepped : List ℕ → Next → Type 0
  Stepped s (piece n u) = Alternative s n u
  Stepped s (stop close) = get_or s 0 0 ≡ 34
  Stepped s (stop (refuse num p)) = Unit {0}

  of_escape_lem : (m : ℕ) (s : List ℕ) (e : Escaped) → EscapeIn (length (take m s)) e → Escapes k (take m s) e → Stepped s (of_escape e)
  of_escape_lem m s (bad num p) i x = tt
  of_escape_lem m s (value u n) i x =
      inr (inl (subst (λ (t : List ℕ). Esc k t u) (take-take n m s (omega (arith, i.1, length-take m s))) x))

  break_sound : (r : List ℕ) → Stepped (92 ∷ 10 ∷ r) (line_break_of r)
  unfolding line_break_of
  break_sound r =
      let two : run blank r + 2 ≡ suc (suc (run blank r)) = omega arith in
      cond_in (Stepped (92 ∷ 10 ∷ r)) (eqb (run blank r) (length r)) (λ e. tt) λ e.
      inr (inr (
        take (run blank r) r,
        run_all blank r,
        ap (λ (m : ℕ). take m (92 ∷ 10 ∷ r)) two,
        subst (λ (m : ℕ). Stops blank (drop m (92 ∷ 10 ∷ r))) (sym two) (run_stops blank r),
        refl,
      ))

  cut_sound : (s : List ℕ) → Stepped (92 ∷ s) (of_escape (escape_of k (front (92 ∷ s))))
  cut_sound s =
      let m : ℕ = length (92 ∷ s) - last_len (92 ∷ s) in
      of_escape_lem m (92 ∷ s) (escape_of k (front (92 ∷ s))) (escape_in k (front (92 ∷ s))) (seen_sound m s)

  backslash_sound : (s : List ℕ) → Stepped (92 ∷ s) (backslash_of k (92 ∷ s))
  unfolding backslash_of
  backslash_sound [] = cut_sound []
  backslash_sound (b ∷ s) =
      cond_eq (Stepped (92 ∷ b ∷ s)) b 10
      (λ e. subst (λ (x : ℕ). Stepped (92 ∷ x ∷ s) (line_break_of s)) (sym e) (break_sound s)) (λ e. cut_sound (b ∷ s))

  plain_sound : (b : ℕ) (s : List ℕ) → (b ≡ 92 → ⊥) → Stepped (b ∷ s) (plain_of k b)
  unfolding plain_of
  plain_sound b s h =
      let P : Next → Type 0 = Stepped (b ∷ s) in
      cond_eq P b 13 (λ e. tt) λ cr.
      cond_eq P b 34 (λ e. e) λ quote.
      cond_in P (not (allow_nul k) && eqb b 0) (λ e. tt) λ nul.
      cond_in P (not (unicode k) && ltb 127 b) (λ e. tt) λ ascii.
      inl (b, refl, record { backslash = h; quote = quote; cr = cr; nul = nul; ascii = ascii }, refl)

  step_sound : (s : List ℕ) → Stepped s (step_of k s)
  unfolding step_of
  step_sound [] = tt
  step_sound (b ∷ s) =
      cond_eq (Stepped (b ∷ s)) b 92
      (λ e. subst (λ (x : ℕ). Stepped (x ∷ s) (backslash_of k (x ∷ s))) (sym e) (backslash_sound s)) (plain_sound b s)

  -- ---- a body

  stops_take : (m : ℕ) (s : List ℕ) → Stops blank s → Stops blank (take m s)
  stops_take zero [] h = tt
  stops_take zero (b ∷ s) h = tt
  stops_take (suc m) [] h = tt
  stops_take (suc m) (b ∷ s) h = h

  joined : (s : List ℕ) (n : ℕ) (u : Unescaped) (m : ℕ) (v : List ℕ) → Alternative s n u → pieces.Content k (take m (drop n s)) v
      → pieces.Content k (take (n + m) s) (bytes_of u ++ v)
  joined s n u m v (inl (b, e, h, i)) r = rw (take-add n m s, e, i) (pieces.char b h r)
  joined s n u m v (inr (inl x)) r = pieces.escape x r (take-add n m s) refl
  joined s n u m v (inr (inr (ws, a, e, st, i))) r = rw i (pieces.continue ws a (stops_take m (drop n s) st) r (take-add n m s ∙ rw e))

  -- THE LAW: a body that is read to its closing quote is a content of pieces, with the value that they give.
  pub sound : (s : List ℕ) → (body k s).end ≡ close → pieces.Content k (take (body k s).at s) (body k s).value × (get_or s (body k s).at 0 ≡ 34)
  sound s =
      induct (step_of k) 1 (step_in k) (λ s b. b.end ≡ close → pieces.Content k (take b.at s) b.value × (get_or s b.at 0 ≡ 34))
      (λ s e h c. (start s, subst (λ (x : Next). Stepped s x) (h ∙ ap stop c) (step_sound s)))
      (λ s n u h p l f c.
      let r = f c in (
        joined s n u (body k (drop n s)).at (body k (drop n s)).value (subst (λ (x : Next). Stepped s x) h (step_sound s)) r.0,
        sym (get_or-drop n s (body k (drop n s)).at 0) ∙ r.1,
      ))
      s
    where
      start : (s : List ℕ) → pieces.Content k (take 0 s) []
      start [] = pieces.none
      start (b ∷ s) = pieces.none
