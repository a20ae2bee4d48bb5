-- What the pieces give, the reading of a body gives.
-- Assumes nothing.
use mathlib.Core.Path.{◌≡◌, refl, ap, sym, ◌∙◌, subst}
use mathlib.Core.Bool.{false}
use mathlib.Core.List.{List, [], ◌∷◌, ◌++◌, append_assoc}
use Prim.Native.Nat.{ℕ, zero, suc, ◌+◌, ◌-◌, ◌<◌}
use native.Mathlib.Nat.{add-zero}
use native.Mathlib.Omega.{arith}
use lib.ListN.{length, get_or, take, drop, length-append}
use lib.Seq.{drop-append_seam, take-append-add, get_or-append-add}
use Rattle.scan.specs.Run.{All, Stops}
use Rattle.scan.proofs.Runs.{run_is}
use Rattle.parse.specs.Sets.{blank}
use Rattle.parse.proofs.Classes.{blank_is}
use Rattle.utf8.specs.Cut.{continuation, last_len, front, Aligned}
use Rattle.utf8.proofs.Cuts.{last_drop, last_le}
use Rattle.utf8.proofs.Aligned.{aligned_rest}
use Rattle.escape.specs.Escape.{bytes_of, escape_of}
use Rattle.escape.specs.Pieces.{Esc}
use Rattle.escape.specs.declared.Allowed.{Allowed}
use Rattle.escape.specs.declared.Unescaped.{Unescaped}
use Rattle.escape.specs.declared.Unescaped.TheVariants.{Nothing, Byte}
use Rattle.escape.proofs.Exact.{escaped, after, first_two}
use Rattle.body.specs.Step.{close, piece, of_escape, plain_of, step_of}
use Rattle.body.specs.Body.{push, body}
use Rattle.body.specs.Pieces.{Content, none, char, escape, continue}
use Rattle.body.proofs.Steps as steps
use Rattle.body.proofs.Bodies.{body_stop, body_piece}
use Rattle.body.proofs.Runs.{char_step}

-- ---- a text without its last character

-- the text without its last character, where that comes after an escape
front_append : (t r : List ℕ) → 0 < length r → continuation (get_or r 0 0) ≡ false → front (t ++ r) ≡ t ++ front r
front_append t r h f =
    let at : get_or (t ++ r) (length t) 0 ≡ get_or r 0 0 = ap (λ (n : ℕ). get_or (t ++ r) n 0) (sym (add-zero (length t))) ∙ get_or-append-add t r 0 0 in
    let l = last_drop (t ++ r) (length t) (omega (arith, length-append t r)) (ap continuation at ∙ f) in
    let same : last_len (t ++ r) ≡ last_len r = sym l.0 ∙ ap last_len (drop-append_seam t r) in
    let e : length (t ++ r) - last_len (t ++ r) ≡ length t + (length r - last_len r) = omega (arith, same, length-append t r, last_le r) in
    rw (e, take-append-add t r (length r - last_len r))

front_first : (r : List ℕ) → continuation (get_or r 0 0) ≡ false → continuation (get_or (front r) 0 0) ≡ false
unfolding continuation
front_first r f = go (length r - last_len r) r f
  where
    go : (n : ℕ) (r : List ℕ) → continuation (get_or r 0 0) ≡ false → continuation (get_or (take n r) 0 0) ≡ false
    go zero [] f = refl
    go zero (b ∷ r) f = refl
    go (suc n) [] f = refl
    go (suc n) (b ∷ r) f = f

-- ---- steps

module _ (k : Allowed) where
  escape_step : {t : List ℕ} {u : Unescaped} (r : List ℕ) → Esc k t u → 0 < length r → continuation (get_or r 0 0) ≡ false
      → step_of k (t ++ r) ≡ piece (length t) u
  escape_step {t} {u} r x h f =
      let g = first_two r x in
      sym (steps.at_backslash k (t ++ r) 0 g.0 g.2)
      ∙ sym (steps.is_escape k (t ++ r) g.3)
      ∙ ap (λ (s : List ℕ). of_escape (escape_of k s)) (front_append t r h f)
      ∙ ap of_escape (escaped k (front r) x (front_first r f))

  break_step : (ws r : List ℕ) → All blank ws → Stops blank r → 0 < length r → step_of k (92 ∷ 10 ∷ (ws ++ r)) ≡ piece (length ws + 2) Nothing
  break_step ws r a st h =
      let s : List ℕ = 92 ∷ 10 ∷ (ws ++ r) in
      sym (steps.at_backslash k s 0 (omega arith) refl)
      ∙ sym (steps.is_break k s refl)
      ∙ sym (steps.break_drops (ws ++ r) (length ws) (sym (run_is blank ws r a st)) (λ e. omega (arith, length-append ws r)))

  -- one piece, and the rest
  joined : (t r v : List ℕ) (n m : ℕ) (u : Unescaped) → step_of k (t ++ r) ≡ piece n u → n ≡ length t → 0 < n
      → body k r ≡ record { at = m; value = v; end = close }
      → body k (t ++ r) ≡ record { at = length t + m; value = bytes_of u ++ v; end = close }
  joined t r v n m u h e p b =
      body_piece (step_of k) (t ++ r) n u h p (omega (arith, length-append t r))
      ∙ ap (λ (i : ℕ). push i (bytes_of u) (body k (drop i (t ++ r)))) e
      ∙ ap (λ (s : List ℕ). push (length t) (bytes_of u) (body k s)) (drop-append_seam t r)
      ∙ ap (push (length t) (bytes_of u)) b

  -- THE LAW: a content of pieces, with a quote after it, is read to that quote, with the value that the pieces give.
  pub complete : {c v : List ℕ} → Content k c v → (suf : List ℕ) → Aligned (c ++ (34 ∷ suf))
      → body k (c ++ (34 ∷ suf)) ≡ record { at = length c; value = v; end = close }
  unfolding step_of plain_of
  complete none suf al = body_stop (step_of k) (34 ∷ suf) close refl
  complete (char {s} {v} b h r) suf al =
      joined (b ∷ []) (s ++ (34 ∷ suf)) v 1 (length s) (Byte b) (char_step k b (s ++ (34 ∷ suf)) h) refl (omega arith)
      (complete r suf (aligned_rest (b ∷ []) (s ++ (34 ∷ suf)) al))
      ∙ ap (λ (n : ℕ). record { at = n; value = b ∷ v; end = close }) (omega arith)
  complete (escape {t} {s} {v} {u = u} x r e f) suf al =
      let q : List ℕ = s ++ (34 ∷ suf) in
      let al' : Aligned (t ++ q) = rw (e, append_assoc) at al in
      let g = first_two q x in
      rw (e, f)
      (ap (body k) (append_assoc t s (34 ∷ suf))
      ∙ joined t q v (length t) (length s) u (escape_step q x (omega (arith, length-append s (34 ∷ suf))) (after q x al')) refl g.1
      (complete r suf (aligned_rest t q al'))
      ∙ ap (λ (n : ℕ). record { at = n; value = bytes_of u ++ v; end = close }) (sym (length-append t s)))
  complete (continue {s} {v} ws a st r e) suf al =
      let q : List ℕ = s ++ (34 ∷ suf) in
      let t : List ℕ = 92 ∷ 10 ∷ ws in
      let al' : Aligned (t ++ q) = subst Aligned (append_assoc t s (34 ∷ suf)) (rw e at al) in
      rw e
      (ap (body k) (append_assoc t s (34 ∷ suf))
      ∙ joined t q v (length ws + 2) (length s) Nothing (break_step ws q a (stops s st) (omega (arith, length-append s (34 ∷ suf))))
      (omega arith) (omega arith) (complete r suf (aligned_rest t q al'))
      ∙ ap (λ (n : ℕ). record { at = n; value = v; end = close }) (sym (length-append t s)))
    where
      stops : (s : List ℕ) → Stops blank s → Stops blank (s ++ (34 ∷ suf))
      stops [] h = blank_is 34
      stops (b ∷ s) h = h
