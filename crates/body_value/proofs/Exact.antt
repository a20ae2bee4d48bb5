-- A quoted body is read to its closing quote exactly where its pieces stand before that quote.
-- Assumes nothing.
use mathlib.Core.Path.{◌≡◌, ap, ◌∙◌, subst}
use mathlib.Core.Logic.{◌↔◌}
use mathlib.Core.List.{List, [], ◌∷◌, ◌++◌}
use Prim.Native.Nat.{ℕ, zero, suc, ◌<◌}
use native.Mathlib.Omega.{arith}
use lib.ListN.{length, get_or, take, drop}
use lib.Seq.{length-take-le, split_at}
use Rattle.utf8.specs.Cut.{Aligned}
use Rattle.escape.specs.declared.Allowed.{Allowed}
use Rattle.body.specs.Step.{close}
use Rattle.body.specs.Body.{Body, body}
use Rattle.body.specs.Pieces.{Content}
use Rattle.body_value.proofs.Sound.{sound}
use Rattle.body_value.proofs.Complete.{complete}

quote_there : (s : List ℕ) (n : ℕ) → get_or s n 0 ≡ 34 → n < length s
quote_there [] zero e = absurd (omega arith)
quote_there [] (suc n) e = absurd (omega arith)
quote_there (b ∷ s) zero e = omega arith
quote_there (b ∷ s) (suc n) e = let h = quote_there s n e in omega arith

pub exact : (k : Allowed) (s : List ℕ) (n : ℕ) (v : List ℕ) → Aligned s
    → (body k s ≡ record { at = n; value = v; end = close }) ↔ (Content k (take n s) v × (get_or s n 0 ≡ 34))
exact k s n v al = (
  (λ e. rw e at (sound k s (ap (λ (b : Body). b.end) e))),
  (λ c.
      let l = quote_there s n c.1 in
      let is : s ≡ take n s ++ (34 ∷ drop (suc n) s) = rw c.1 at (split_at s n 0 l) in
      ap (body k) is ∙ complete k c.0 (drop (suc n) s) (subst Aligned is al) ∙ rw (length-take-le n s (omega arith))),
)
