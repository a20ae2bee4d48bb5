-- Demand 3 holds: forms are the same exactly where the meanings are, a form read again means the same, and it is withheld for four reasons only.
-- Assumes nothing.
use Prim.Native.Nat.{ℕ, ◌≤◌, ◌<◌}
use mathlib.Core.Path.{◌≡◌, refl, sym, ap, ◌∙◌, subst}
use mathlib.Core.Logic.{◌⊎◌, inl, inr, ◌↔◌}
use mathlib.Core.List.{List}
use native.Mathlib.Omega.{arith}
use lib.ListN.{length}
use Rattle.err.specs.Outcome.{Place, none}
use Rattle.scan.specs.Run.{All}
use Rattle.scan.specs.Sets as sets
use Rattle.grammar.specs.Meaning.{Worth, kind_of, SameWorth, same, same_float, Means}
use Rattle.grammar.proofs.Unambiguous.{unambiguous}
use Rattle.form.specs.Form.{form_of, fault_of}
use Rattle.form.proofs.Reduce.{same_iff}
use Rattle.form.proofs.Fit.{settled_worth}
use Rattle.form.proofs.Again.{again, settled_same}
use Rattle.form.proofs.Same.{same_form}
use Rattle.form.proofs.NoLineFeed.{no_lf}
use Rattle.settle.specs.Settled.{refusal, measure_at, settle_at}
use Rattle.demands.specs.Demand1.{Readable}
use Rattle.demands.specs.Demand3.{Accepts, Given, Withheld, TooLarge, PowerTooFar, TooLong, TooSmall, Demand3, InOrder, FormLaws}
use Rattle.demands.proofs.Classes.{all_to}
use Rattle.demands.proofs.Reference.{demand_2_reference}
use Rattle.demands.proofs.Worths.{worth_fit, suffix_utf8}
use Rattle.demands.proofs.FormText.{form_utf8}
use Rattle.demands.proofs.Settling.{large_fault, far_fault, no_fault, kind_is, settle_large, settle_far, settle_long, settle_small, settle_given, given_form, by_reason, given_measure, given_accepts, accepts_means, given_known}

-- ---- the same worth is an equivalence

same_sym : {v w : Worth} → SameWorth v w → SameWorth w v
same_sym same = same
same_sym (same_float (t, w, p, q)) = same_float (t, w, q, p)

same_trans : {u v w : Worth} → SameWorth u v → SameWorth v w → SameWorth u w
same_trans same q = q
same_trans (same_float p) same = same_float p
same_trans (same_float {a} {b} p) (same_float {b = c} q) = same_float ((same_iff a c).1 ((same_iff a b).0 p ∙ (same_iff b c).0 q))

-- worths that settle alike are the same
settled_back : (v w : Worth) → settled_worth v ≡ settled_worth w → SameWorth v w
settled_back v w e = same_trans (settled_same v) (subst (λ (u : Worth). SameWorth u w) (sym e) (same_sym (settled_same w)))

-- the same worth is of one kind, and withheld alike
same_kind : {v w : Worth} → SameWorth v w → kind_of v ≡ kind_of w
same_kind same = refl
same_kind (same_float p) = refl

same_fault : {v w : Worth} → SameWorth v w → fault_of v ≡ fault_of w
same_fault same = refl
same_fault (same_float {a} {b} p) = rw ((same_iff a b).0 p)

-- ---- the form of an accepted text

module _ {s x : List ℕ} {k : ℕ} {w : Worth} (a : Accepts s k) (m : Means s w x) where
  -- it means the settled worth, with the same suffix
  form_means : Means (form_of w x) (settled_worth w) x
  form_means = again s w x m (worth_fit s x a.2 m)

  -- and where it is not too long, entry 0 accepts it
  form_accepts : length (form_of w x) ≤ 65536 → Accepts (form_of w x) k
  form_accepts l =
      let f : Readable (form_of w x) = record { short = l; utf8 = form_utf8 w x (worth_fit s x a.2 m) (suffix_utf8 s x a.2 m) } in
      let r = (demand_2_reference.accepted_exactly 0 (form_of w x) (omega arith) f).1 (settled_worth w, x, form_means, inl refl) in
      let e = (demand_2_reference.worth 0 r.0 r.1 (form_of w x) x r.2 (settled_worth w) r.3 form_means).0 in
      let q : r.0 ≡ k = e ∙ sym (same_kind (settled_same w)) ∙ sym (kind_is a m) in
      (r.1, r.2, rw q at r.3)

-- ---- the demand

has_meaning : (s buf f : List ℕ) (k : ℕ) → Given s buf k f → Accepts s k × ((w : Worth) × (x : List ℕ) × Means s w x × (k ≡ kind_of w))
has_meaning s buf f k g =
    let a = given_accepts g in
    let (w, x, m) = accepts_means a in
    (a, (w, x, m, kind_is a m))

sames : (s t buf buf' f g x y : List ℕ) (k l : ℕ) (v w : Worth) → Given s buf k f → Given t buf' l g → Means s v x → Means t w y
    → (f ≡ g) ↔ (SameWorth v w × (x ≡ y))
sames s t buf buf' f g x y k l v w a b m n =
    let p = given_known a m in
    let q = given_known b n in (
      λ e.
          let h : form_of w y ≡ form_of v x = sym q.is ∙ sym e ∙ p.is in
          let i : Means (form_of v x) (settled_worth w) y = rw h at (form_means (given_accepts b) n) in
          let u = unambiguous (form_of v x) x y (settled_worth v) (settled_worth w) (form_means (given_accepts a) m) i in
          (settled_back v w u.0, u.1),
      λ (h, e). p.is ∙ same_form v w x h ∙ ap (form_of w) e ∙ sym q.is,
    )

agains : (s buf f x : List ℕ) (k : ℕ) (w : Worth) → Given s buf k f → Means s w x → Accepts f k × ((w' : Worth) × Means f w' x × SameWorth w w')
agains s buf f x k w g m =
    let p = given_known g m in
    let a = given_accepts g in
    let l : length (form_of w x) ≤ 65536 = rw p.is at p.short in
    rw p.is (form_accepts a m l, (settled_worth w, form_means a m, settled_same w))

module _ (s x : List ℕ) (k room : ℕ) (w : Worth) (a : Accepts s k) (m : Means s w x) where
  -- one of the reasons
  abbrev Reason : Type 0
  Reason = TooLarge w ⊎ (PowerTooFar w ⊎ (TooLong w x ⊎ TooSmall w x room))

  withheld_reason : Withheld s room → Reason
  withheld_reason (n, p, h) =
      by_reason w x room inl (λ f. inr (inl f)) (λ _ l. inr (inr (inl l))) (λ _ _ l. inr (inr (inr l)))
      (λ e l r. let g = settle_given a m room e l r in absurd (let z : ◌≡◌ {A = ℕ} 0 1 = cc in omega arith))

  -- the form is withheld, or none of the reasons holds
  by_answer : {P : Type 0} → (Withheld s room → P) → (fault_of w ≡ 0 → length (form_of w x) ≤ 65536 → length (form_of w x) ≤ room → P) → P
  by_answer f =
      by_reason w x room (λ t. f (45, none, settle_large a m room t)) (λ t. f (46, none, settle_far a m room t))
      (λ e l. f (47, none, settle_long a m room e l)) (λ e l h. f (48, none, settle_small a m room e l h))

  reason_withheld : Reason → Withheld s room
  reason_withheld r = by_answer (λ h. h) (λ e l h. absurd (go e l h r))
    where
      go : fault_of w ≡ 0 → length (form_of w x) ≤ 65536 → length (form_of w x) ≤ room → Reason → ⊥
      go e l h (inl t) = let f = large_fault w t in omega arith
      go e l h (inr (inl t)) = let f = far_fault w t in omega arith
      go e l h (inr (inr (inl t))) = omega arith
      go e l h (inr (inr (inr t))) = omega arith

not_withheld : (s buf x : List ℕ) (k : ℕ) (w : Worth) → Accepts s k → Means s w x → (Withheld s (length buf) → ⊥) → Given s buf k (form_of w x)
not_withheld s buf x k w a m n = by_answer s x k (length buf) w a m (λ h. absurd (n h)) (given_form a m buf)

pub demand_3 : Demand3
demand_3 =
    record {
      accepted = has_meaning;
      same = sames;
      read_again = agains;
      given_as_defined = not_withheld;
      withheld_exactly = λ s x k room w a m. (withheld_reason s x k room w a m, reason_withheld s x k room w a m);
    }

-- ---- the order of the reasons

measure_withheld : (s : List ℕ) (n : ℕ) (p : Place) → measure_at s ≡ refusal n p → (room : ℕ) → settle_at s room ≡ refusal n p
unfolding settle_at
measure_withheld s n p h room = rw h

pub in_order : InOrder
in_order =
    record {
      too_large = λ s x k room w a m t. settle_large a m room t;
      too_far = λ s x k room w a m t. settle_far a m room t;
      too_long = λ s x k room w a m l f t. settle_long a m room (no_fault w l f) t;
      too_small = λ s x k room w a m l f t h. settle_small a m room (no_fault w l f) (omega arith) h;
      measure = λ s buf f k g. (given_measure s g.answer).0;
      no_measure = measure_withheld;
    }

-- ---- forms by themselves

own_form : (s buf f buf' : List ℕ) (k : ℕ) → Given s buf k f → (length buf' < length f → ⊥) → Given f buf' k f
own_form s buf f buf' k g n =
    let (w, x, m) = accepts_means (given_accepts g) in
    let p = given_known g m in
    let r = agains s buf f x k w g m in
    let e : form_of r.1.0 x ≡ f = sym (same_form w r.1.0 x r.1.2) ∙ sym p.is in
    let q = given_form r.0 r.1.1 buf' (sym (same_fault r.1.2) ∙ p.fault) (rw e p.short) (rw e (omega arith)) in
    rw e at q

no_line_feed : (s buf f : List ℕ) (k : ℕ) → Given s buf k f → All (sets.except 10) f
unfolding sets.except
no_line_feed s buf f k g =
    let a = given_accepts g in
    let t = accepts_means a in
    let h = no_lf s t.0 t.1 t.2 (worth_fit s t.1 a.2 t.2) in
    rw (given_known g t.2).is (all_to (λ c. refl) (form_of t.0 t.1) h)

pub form_laws : FormLaws
form_laws = record { own = own_form; no_lf = no_line_feed }
