-- One law for each way through a step of a raw body, which stays in the text.
-- Assumes nothing.
use mathlib.Core.Path.{◌≡◌, sym, ◌∙◌}
use mathlib.Core.Bool.{true}
use mathlib.Core.List.{List, [], ◌∷◌}
use Prim.Native.Nat.{ℕ, suc, ◌+◌, ◌≤◌, ◌<◌}
use native.Mathlib.Numerals.{add-one}
use native.Mathlib.Omega.{arith}
use borrow.Author.Tests.{eq-eqb, ne_eqb, le-leb, lt-leb, leb-true}
use lib.Dec.{leb}
use lib.ListN.{length, get_or, drop, drop_of_length-le}
use lib.Seq.{drop-cons}
use Rattle.err.specs.Outcome.{none}
use Rattle.scan.specs.Run.{run}
use Rattle.scan.specs.Sets.{only}
use Rattle.scan.proofs.Cases.{cond_in, cond_eq}
use Rattle.scan.proofs.Runs.{run_le}
use Rattle.escape.specs.declared.Allowed.{Allowed}
use Rattle.escape.specs.declared.Unescaped.TheVariants.{Byte}
use Rattle.body_plain.specs.Plain.{plain_byte}
use Rattle.body.specs.Step.{close, refuse, Next, piece, stop, plain_of}
use Rattle.body.specs.Pieces.{Char}
use Rattle.body.proofs.Steps.{is_plain}
use Rattle.body.proofs.Within.{NextIn, plain_in}
use Rattle.body.proofs.Runs.{plain_char}
use Rattle.raw.specs.Raw.{raw_byte, raw_step_of}

-- ---- at an offset

module _ (k : Allowed) (h : ℕ) (s : List ℕ) (i : ℕ) where
  pub raw_end : length s ≤ i → stop (refuse 29 none) ≡ raw_step_of k h (drop i s)
  unfolding raw_step_of
  raw_end l = rw (drop_of_length-le s l)

  module _ (l : i < length s) where
    pub raw_plain_lem : (get_or s i 0 ≡ 34 → ⊥) → plain_of k (get_or s i 0) ≡ raw_step_of k h (drop i s)
    unfolding raw_step_of raw_byte
    raw_plain_lem e = rw (drop-cons s i 0 l, ne_eqb _ _ e)

    module _ (e : get_or s i 0 ≡ 34) (n : ℕ) (is : n ≡ run (only 35) (drop (i + 1) s)) where
      there : run (only 35) (drop (suc i) s) ≡ n
      there = sym (rw (add-one i) at is)

      pub raw_close : h ≤ n → stop close ≡ raw_step_of k h (drop i s)
      unfolding raw_step_of raw_byte
      raw_close g = rw (drop-cons s i 0 l, eq-eqb _ _ e, there, le-leb _ _ g)

      pub raw_quote : n < h → piece 1 (Byte 34) ≡ raw_step_of k h (drop i s)
      unfolding raw_step_of raw_byte
      raw_quote g = rw (drop-cons s i 0 l, eq-eqb _ _ e, there, lt-leb _ _ g)

-- ---- a byte that stands for itself is one piece

pub raw_char_step : (k : Allowed) (h b : ℕ) (s : List ℕ) → Char k b → raw_step_of k h (b ∷ s) ≡ piece 1 (Byte b)
raw_char_step k h b s c =
    sym (raw_plain_lem k h (b ∷ s) 0 (omega arith) c.quote) ∙ sym (is_plain k b c.cr c.quote c.nul c.ascii)

pub raw_plain_step : (k : Allowed) (h b : ℕ) (s : List ℕ) → plain_byte k b ≡ true → raw_step_of k h (b ∷ s) ≡ piece 1 (Byte b)
raw_plain_step k h b s t = raw_char_step k h b s (plain_char k b t)

-- ---- bounds

-- THE LAW: a piece, what closes a raw body and a refusal lie in the text, and a piece stands for no more bytes than it has.
pub raw_in : (k : Allowed) (h : ℕ) (s : List ℕ) → NextIn (h + 1) (length s) (raw_step_of k h s)
unfolding raw_step_of raw_byte
raw_in k h [] = (omega arith, omega arith, tt)
raw_in k h (b ∷ s) =
    let P : Next → Type 0 = NextIn (h + 1) (length (b ∷ s)) in
    cond_eq P b 34 (λ e.
    cond_in P (leb h (run (only 35) s)) (λ f. omega (arith, leb-true h (run (only 35) s) f, run_le (only 35) s))
    λ f. (omega arith, omega arith, omega arith, tt)) λ e.
    plain_in k (h + 1) b (length (b ∷ s)) (omega arith) (λ x. absurd (e x))
