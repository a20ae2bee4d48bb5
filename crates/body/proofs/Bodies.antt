-- A body by its steps, for any step that stays in the text.
-- Assumes nothing.
use mathlib.Core.Path.{◌≡◌, refl, ap, sym, ◌∙◌, subst}
use mathlib.Core.List.{List, [], ◌∷◌, ◌++◌, append_assoc, append-nil}
use Prim.Native.Nat.{ℕ, zero, suc, ◌+◌, ◌-◌, ◌≤◌, ◌<◌}
use native.Mathlib.Nat.{add_assoc, add-zero, zero-add}
use native.Mathlib.Omega.{arith}
use lib.ListN.{length, drop, length-append, length-drop}
use lib.Seq.{drop-drop}
use Rattle.escape.specs.Escape.{bytes_of, Valid}
use Rattle.escape.specs.declared.Unescaped.{Unescaped}
use Rattle.body.specs.Packed.{Stopped}
use Rattle.body.specs.Step.{End, close, Next, piece, stop, end_of}
use Rattle.body.specs.Body.{Body, push, follow, body_from, body_by, Measures}
use Rattle.body.specs.declared.Measured.{Measured}
use Rattle.body.proofs.Within.{EndIn, NextIn}

pub push_push : (i n : ℕ) (v w : List ℕ) (b : Body) → push i v (push n w b) ≡ push (i + n) (v ++ w) b
push_push i n v w b = rw (add_assoc, append_assoc)

-- A loop over a body stands at i, and what it has passed stands for v. The measurers and the writer share this.
pub record Passed (step : List ℕ → Next) (s : List ℕ) (i : ℕ) (v : List ℕ) : Type 0 where
  pub within : i ≤ length s
  pub short : length v ≤ i
  pub is : push i v (body_by step (drop i s)) ≡ body_by step s

module _ (step : List ℕ → Next) where
  -- what is skipped is dropped
  from_drop : (n : ℕ) (s : List ℕ) → body_from step n s ≡ body_from step 0 (drop n s)
  unfolding body_from
  from_drop zero [] = refl
  from_drop zero (b ∷ s) = refl
  from_drop (suc n) [] = refl
  from_drop (suc n) (b ∷ s) = from_drop n s

  pub body_stop : (s : List ℕ) (e : End) → step s ≡ stop e → body_by step s ≡ record { at = 0; value = []; end = e }
  unfolding body_by body_from
  body_stop [] e h = ap (λ (x : Next). follow x (λ m. record { at = 0; value = []; end = close })) h
  body_stop (b ∷ s) e h = ap (λ (x : Next). follow x (λ n. body_from step (n - 1) s)) h

  pub body_piece : (s : List ℕ) (n : ℕ) (u : Unescaped) → step s ≡ piece n u → 0 < n → n ≤ length s
      → body_by step s ≡ push n (bytes_of u) (body_by step (drop n s))
  unfolding body_by body_from
  body_piece [] n u h p l = absurd (omega arith)
  body_piece (b ∷ s) zero u h p l = absurd (omega arith)
  body_piece (b ∷ s) (suc n) u h p l =
      let less : suc n - 1 ≡ n = omega arith in
      ap (λ (x : Next). follow x (λ m. body_from step (m - 1) s)) h
      ∙ ap (λ (m : ℕ). push (suc n) (bytes_of u) (body_from step m s)) less
      ∙ ap (push (suc n) (bytes_of u)) (from_drop n s)

  -- one step further: what is passed and what it stands for, and the body of the rest
  onward : (s : List ℕ) (i n : ℕ) (v : List ℕ) (u : Unescaped) → step (drop i s) ≡ piece n u → 0 < n → n ≤ length (drop i s)
      → push (i + n) (v ++ bytes_of u) (body_by step (drop (i + n) s)) ≡ push i v (body_by step (drop i s))
  onward s i n v u h p l =
      rw (body_piece (drop i s) n u h p l, drop-drop) (sym (push_push i n v (bytes_of u) (body_by step (drop (i + n) s))))

  pub start : (s : List ℕ) → Passed step s 0 []
  start s = record { within = omega arith; short = omega arith; is = rw zero-add }

  module _ (q : ℕ) (good : (s : List ℕ) → NextIn q (length s) (step s)) where
    -- Induction over a body by its steps.
    pub induct : (P : List ℕ → Body → Type 0)
        → ((s : List ℕ) (e : End) → step s ≡ stop e → P s (record { at = 0; value = []; end = e }))
        → ((s : List ℕ) (n : ℕ) (u : Unescaped) → step s ≡ piece n u → 0 < n → n ≤ length s
        → P (drop n s) (body_by step (drop n s)) → P s (push n (bytes_of u) (body_by step (drop n s))))
        → (s : List ℕ) → P s (body_by step s)
    induct P at-stop at_piece s = go (length s) s (omega arith)
      where
        by : (s : List ℕ) (x : Next) → step s ≡ x → NextIn q (length s) x
            → ((n : ℕ) → 0 < n → n ≤ length s → P (drop n s) (body_by step (drop n s))) → P s (body_by step s)
        by s (stop e) h i f = rw (body_stop s e h) (at-stop s e h)
        by s (piece n u) h i f =
            rw (body_piece s n u h i.0 i.1) (at_piece s n u h i.0 i.1 (f n i.0 i.1))

        go : (m : ℕ) (s : List ℕ) → length s ≤ m → P s (body_by step s)
        go zero s l = by s (step s) refl (good s) (λ n p w. absurd (omega arith))
        go (suc m) s l = by s (step s) refl (good s) (λ n p w. go m (drop n s) (omega (arith, length-drop n s)))

    -- a body ends in the text, and so does what closes it or a refusal
    pub ends_in : (s : List ℕ) → ((body_by step s).at ≤ length s) × EndIn q (length s - (body_by step s).at) (body_by step s).end
    ends_in s =
        induct (λ s b. (b.at ≤ length s) × EndIn q (length s - b.at) b.end)
        (λ s e h. (
          omega arith,
          subst (λ (m : ℕ). EndIn q m e) (omega arith) (subst (λ (x : Next). NextIn q (length s) x) h (good s)),
        ))
        (λ s n u h p w r.
        let d = length-drop n s in (
          omega (arith, r.0),
          subst (λ (m : ℕ). EndIn q m (body_by step (drop n s)).end) (omega (arith, r.0)) r.1,
        ))
        s

    -- it stands for no more bytes than it has
    pub value_short : (s : List ℕ) → length (body_by step s).value ≤ (body_by step s).at
    value_short s =
        induct (λ s b. length b.value ≤ b.at) (λ s e h. omega arith)
        (λ s n u h p w r.
        let i : NextIn q (length s) (piece n u) = rw h at (good s) in
        rw length-append (omega (arith, i.2)))
        s

    module _ {s : List ℕ} {i : ℕ} {v : List ℕ} (p : Passed step s i v) where
      -- a piece's bounds
      pub bounds : (n : ℕ) (u : Unescaped) → step (drop i s) ≡ piece n u
          → (0 < n) × (i + n ≤ length s) × (length (bytes_of u) ≤ n) × Valid u
      bounds n u h =
          let b : NextIn q (length (drop i s)) (piece n u) = rw h at (good (drop i s)) in
          (b.0, omega (arith, b.1, length-drop i s, p.within), b.2, b.3)

      -- a loop goes on by one piece
      pub more : (n : ℕ) (u : Unescaped) → step (drop i s) ≡ piece n u → Passed step s (i + n) (v ++ bytes_of u)
      more n u h =
          let b = bounds n u h in
          record {
            within = b.1;
            short = rw length-append (omega (arith, b.2, p.short));
            is = onward s i n v u h b.0 (omega (arith, b.1, length-drop i s)) ∙ p.is;
          }

      -- and ends
      pub ends : (e : End) → step (drop i s) ≡ stop e → record { at = i; value = v; end = e } ≡ body_by step s
      ends e h = rw (body_stop (drop i s) e h, add-zero, append-nil) at p.is

      -- then what is passed stands for the whole value
      pub whole : Stopped (step (drop i s)) → v ≡ (body_by step s).value
      whole = go (step (drop i s)) refl
        where
          go : (x : Next) → step (drop i s) ≡ x → Stopped x → v ≡ (body_by step s).value
          go (piece n u) h t = absurd t
          go (stop e) h t = ap (λ (b : Body). b.value) (ends e h)

      -- and this is its measure
      pub measures : (e : End) → step (drop i s) ≡ stop e → (m : Measured) → m.at ≡ i → m.len ≡ length v → end_of m.end ≡ e
          → Measures (body_by step s) m
      measures e h m a l w =
          let b = ends e h in
          record {
            place = a ∙ ap (λ (x : Body). x.at) b;
            count = l ∙ ap (λ (x : Body). length x.value) b;
            why = w ∙ ap (λ (x : Body). x.end) b;
          }

      -- what is passed is a part of the whole value
      pub part : length v ≤ length (body_by step s).value
      part = omega (arith, ap (λ (b : Body). length b.value) p.is, length-append v (body_by step (drop i s)).value)
