-- What a step can stand for, so that litrs's `unwrap_char` and `unwrap_byte` meet no value that they panic on; and a body that is as long
-- as what it stands for.
-- Assumes nothing.
use mathlib.Core.Path.{◌≡◌, refl, sym}
use mathlib.Core.Bool.{false, not, ◌&&◌}
use mathlib.Core.List.{List, [], ◌∷◌}
use Prim.Native.Nat.{ℕ, ◌<◌}
use native.Mathlib.Omega.{arith}
use lib.Dec.{eqb, ltb}
use lib.ListN.{length, get_or, take, drop, length-append}
use lib.Seq.{take-add}
use Rattle.scan.specs.Run.{run}
use Rattle.scan.proofs.Cases.{cond_in, cond_eq, clash}
use Rattle.parse.specs.Sets.{blank}
use Rattle.utf8.specs.Cut.{front}
use Rattle.escape.specs.Allows.{unicode, byte_escapes, allow_nul}
use Rattle.escape.specs.Escape.{Escaped, value, bad, bytes_of, escape_of}
use Rattle.escape.specs.declared.Allowed.{Allowed}
use Rattle.escape.specs.declared.Unescaped.{Unescaped}
use Rattle.escape.specs.declared.Unescaped.TheVariants.{Nothing, Byte, Unicode}
use Rattle.escape.proofs.Within.{EscapeIn, escape_in}
use Rattle.escape.proofs.Values.{Unwraps, EscapeUnwraps, escape_unwraps}
use Rattle.body.specs.Step.{Next, piece, stop, of_escape, line_break_of, backslash_of, plain_of, step_of}
use Rattle.body.specs.Body.{body}
use Rattle.body.proofs.Within.{NextIn, step_in}
use Rattle.body.proofs.Bodies.{induct, value_short}
use Rattle.body.proofs.Bytes.{take_none, take_one}

-- a dropped line break stands for nothing; any other value can be unwrapped
abbrev pub PieceUnwraps : Allowed → Unescaped → Type 0
PieceUnwraps k Nothing = Unit {0}
PieceUnwraps k (Byte b) = Unwraps k (Byte b)
PieceUnwraps k (Unicode c) = Unwraps k (Unicode c)

escape_piece : (k : Allowed) (u : Unescaped) → Unwraps k u → PieceUnwraps k u
escape_piece k Nothing h = tt
escape_piece k (Byte b) h = h
escape_piece k (Unicode c) h = h

-- a piece that starts with a backslash can be unwrapped, and any other is its first byte
abbrev pub StepUnwraps : Allowed → List ℕ → Next → Type 0
StepUnwraps k s (piece n u) = (get_or s 0 0 ≡ 92 → PieceUnwraps k u) × ((get_or s 0 0 ≡ 92 → ⊥) → u ≡ Byte (get_or s 0 0))
StepUnwraps k s (stop e) = Unit {0}

backslash_unwraps : (k : Allowed) (b : ℕ) (s : List ℕ) → b ≡ 92 → StepUnwraps k (b ∷ s) (backslash_of k (b ∷ s))
unfolding backslash_of line_break_of
backslash_unwraps k b s is =
    let P : Next → Type 0 = StepUnwraps k (b ∷ s) in
    let rest : List ℕ = drop 1 s in
    cond_eq P (get_or s 0 0) 10
    (λ e. cond_in P (eqb (run blank rest) (length rest)) (λ f. tt) (λ f. ((λ x. tt), (λ x. absurd (x is)))))
    (λ e. of_escape_lem (escape_of k (front (b ∷ s))) (escape_unwraps k (front (b ∷ s))))
  where
    of_escape_lem : (e : Escaped) → EscapeUnwraps k e → StepUnwraps k (b ∷ s) (of_escape e)
    of_escape_lem (value u n) h = ((λ x. escape_piece k u h), (λ x. absurd (x is)))
    of_escape_lem (bad num p) h = tt

plain_unwraps : (k : Allowed) (b : ℕ) (s : List ℕ) → (b ≡ 92 → ⊥) → StepUnwraps k (b ∷ s) (plain_of k b)
unfolding plain_of
plain_unwraps k b s other =
    let P : Next → Type 0 = StepUnwraps k (b ∷ s) in
    cond_eq P b 13 (λ e. tt) λ e.
    cond_eq P b 34 (λ e. tt) λ e.
    cond_in P (not (allow_nul k) && eqb b 0) (λ e. tt) λ e.
    cond_in P (not (unicode k) && ltb 127 b) (λ e. tt) λ e. ((λ x. absurd (other x)), (λ x. refl))

-- THE LAW, for every byte list
pub step_unwraps : (k : Allowed) (s : List ℕ) → StepUnwraps k s (step_of k s)
unfolding step_of
step_unwraps k [] = tt
step_unwraps k (b ∷ s) = cond_eq (StepUnwraps k (b ∷ s)) b 92 (backslash_unwraps k b s) (plain_unwraps k b s)

module _ (k : Allowed) (s : List ℕ) (n : ℕ) where
  known : (u : Unescaped) → step_of k s ≡ piece n u → StepUnwraps k s (piece n u)
  known u e = rw e at (step_unwraps k s)

  -- where the kind has no Unicode escapes, no step gives a character
  pub no_unicode : (c : ℕ) → unicode k ≡ false → step_of k s ≡ piece n (Unicode c) → ⊥
  no_unicode c u e =
      let r = known (Unicode c) e in
      cond_eq (λ (x : ℕ). ⊥) (get_or s 0 0) 92 {x = 0} {y = 0}
      (λ b. clash (r.0 b).1 u)
      (λ b. let z : ◌≡◌ {A = ℕ} 0 1 = cc (r.1 b) in omega arith)

  -- where it has no byte escapes, an escape gives a byte below 128
  pub escape_low : (b : ℕ) → byte_escapes k ≡ false → get_or s 0 0 ≡ 92 → step_of k s ≡ piece n (Byte b) → b < 128
  escape_low b u f e = ((known (Byte b) e).0 f).1 u

-- ---- a body that is as long as what it stands for

-- a piece that is as long as what it stands for is its own bytes
abbrev Itself : List ℕ → Next → Type 0
Itself s (piece n u) = length (bytes_of u) ≡ n → bytes_of u ≡ take n s
Itself s (stop e) = Unit {0}

-- each piece that a backslash starts is longer
backslash_itself : (k : Allowed) (s : List ℕ) → Itself s (backslash_of k s)
unfolding backslash_of line_break_of
backslash_itself k s =
    let P : Next → Type 0 = Itself s in
    let rest : List ℕ = drop 2 s in
    cond_eq P (get_or s 1 0) 10
    (λ e. cond_in P (eqb (run blank rest) (length rest)) (λ f. tt) (λ f g. absurd (omega arith)))
    (λ e. of_escape_lem (escape_of k (front s)) (escape_in k (front s)))
  where
    of_escape_lem : (e : Escaped) → EscapeIn (length (front s)) e → Itself s (of_escape e)
    of_escape_lem (value u n) h = λ g. absurd (omega (arith, h.2))
    of_escape_lem (bad num p) h = tt

plain_itself : (k : Allowed) (b : ℕ) (s : List ℕ) → Itself (b ∷ s) (plain_of k b)
unfolding plain_of
plain_itself k b s =
    let P : Next → Type 0 = Itself (b ∷ s) in
    cond_eq P b 13 (λ e. tt) λ e.
    cond_eq P b 34 (λ e. tt) λ e.
    cond_in P (not (allow_nul k) && eqb b 0) (λ e. tt) λ e.
    cond_in P (not (unicode k) && ltb 127 b) (λ e. tt) λ e g. sym (take_one (b ∷ s) (omega arith))

step_itself : (k : Allowed) (s : List ℕ) → Itself s (step_of k s)
unfolding step_of
step_itself k [] = tt
step_itself k (b ∷ s) = cond_eq (Itself (b ∷ s)) b 92 (λ e. backslash_itself k (b ∷ s)) (λ e. plain_itself k b s)

-- THE LAW: where a body is as long as its value, the value is the bytes before its end, as they stand.
pub as_it_stands : (k : Allowed) (s : List ℕ) → length (body k s).value ≡ (body k s).at → (body k s).value ≡ take (body k s).at s
as_it_stands k s =
    induct (step_of k) 1 (step_in k) (λ s b. length b.value ≡ b.at → b.value ≡ take b.at s)
    (λ s e h g. sym (take_none s))
    (λ s n u h p l r g.
    let i : NextIn 1 (length s) (piece n u) = rw h at (step_in k s) in
    let f : Itself s (piece n u) = rw h at (step_itself k s) in
    let rest = value_short (step_of k) 1 (step_in k) (drop n s) in
    let sum = length-append (bytes_of u) (body k (drop n s)).value in
    rw (f (omega (arith, i.2)), r (omega (arith, i.2))) (sym (take-add n (body k (drop n s)).at s)))
    s
