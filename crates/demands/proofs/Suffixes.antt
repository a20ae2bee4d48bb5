-- A suffix has no fault exactly where it is none or a SUFFIX of the Reference, and where it starts with `e` or `E` both sides agree.
-- Assumes nothing.
use Prim.Native.Nat.{ℕ}
use mathlib.Core.Path.{◌≡◌, refl, sym, ◌∙◌, subst}
use mathlib.Core.Logic.{◌↔◌}
use mathlib.Core.Bool.{Bool, true, false, not, ◌&&◌}
use mathlib.Core.List.{List, [], ◌∷◌}
use lib.Dec.{T}
use Rattle.parse.specs.Sets.{starts_e}
use Rattle.suffix.specs.Suffix.{suffix_fault}
use Rattle.suffix.proofs.Suffixes.{good_start, good_rest, good_lone, good_is}
use Rattle.grammar.specs.Notation.{all, begins, opt, ◌∪◌}
use Rattle.grammar.specs.Suffixes.{LOW, E, XID_START, XID_CONTINUE, SUFFIX, SUFFIX_NO_E}
use Rattle.grammar.proofs.Scan.{empty, suffix_ok}
use Rattle.grammar.proofs.Runs.{T_true, true_T, not_t, T_not, and_l, and_r, and_i}
use Rattle.grammar.proofs.Integers.{low_is, suffix_in_lem, suffix_ok_lem, ending_in, ending_ok}
use Rattle.demands.proofs.Classes.{suffix_start_is, suffix_rest_is, all_to, all_from}

-- by the scan
pub scan_fault : (x : List ℕ) → T (suffix_ok x) → suffix_fault x ≡ 0
unfolding suffix_fault LOW
scan_fault [] t = refl
scan_fault (c ∷ s) t =
    let n = and_l (not (LOW c && empty s)) ((XID_START ∪ LOW) c && all XID_CONTINUE s) t in
    let r = and_r (not (LOW c && empty s)) ((XID_START ∪ LOW) c && all XID_CONTINUE s) t in
    good_is c s (sym (suffix_start_is c) ∙ T_true _ (and_l ((XID_START ∪ LOW) c) (all XID_CONTINUE s) r))
    (all_to suffix_rest_is s (and_r ((XID_START ∪ LOW) c) (all XID_CONTINUE s) r))
    (λ e f. not_t (LOW c && empty s) n (rw (e, f) tt))

pub fault_scan : (x : List ℕ) → suffix_fault x ≡ 0 → T (suffix_ok x)
fault_scan [] h = tt
fault_scan (c ∷ s) h =
    and_i (not (LOW c && empty s)) _ (T_not (LOW c && empty s) (λ t. lone s (and_l (LOW c) (empty s) t) (and_r (LOW c) (empty s) t) h))
    (and_i ((XID_START ∪ LOW) c) _ (true_T _ (suffix_start_is c ∙ good_start c s h)) (all_from suffix_rest_is s (good_rest c s h)))
  where
    lone : (s : List ℕ) → T (LOW c) → T (empty s) → suffix_fault (c ∷ s) ≡ 0 → ⊥
    lone [] l t h = good_lone (subst (λ (k : ℕ). suffix_fault (k ∷ []) ≡ 0) (low_is c l) h)
    lone (k ∷ s) l t h = t

pub suffix_is : (x : List ℕ) → (suffix_fault x ≡ 0) ↔ opt SUFFIX x
suffix_is x = (λ h. suffix_in_lem x (fault_scan x h), λ o. scan_fault x (suffix_ok_lem x o))

-- ---- `e` and `E`

pub e_is : (x : List ℕ) → starts_e x 0 ≡ begins E x
unfolding starts_e E
e_is [] = refl
e_is (c ∷ x) = refl

pub no_e_is : (x : List ℕ) → (starts_e x 0 ≡ false) ↔ T (not (begins E x))
no_e_is x = (λ h. rw (sym (e_is x) ∙ h) tt, λ t. e_is x ∙ no (begins E x) t)
  where
    no : (b : Bool) → T (not b) → b ≡ false
    no true t = absurd t
    no false t = refl

pub ending_is : (x : List ℕ) → ((suffix_fault x ≡ 0) × (starts_e x 0 ≡ false)) ↔ opt SUFFIX_NO_E x
ending_is x = (
  λ h. ending_in x (fault_scan x h.0) ((no_e_is x).0 h.1),
  λ o. let e = ending_ok x o in (scan_fault x e.0, (no_e_is x).1 e.1),
)
