-- Demand 2, part two, holds: an entry accepts exactly the texts that have a meaning of a kind that it takes, and then gives that meaning.
-- Assumes nothing.
use Prim.Native.Nat.{ℕ, zero, suc, ◌≤◌}
use mathlib.Core.Path.{◌≡◌, refl, sym, ap, ◌∙◌, subst, subst⁻¹}
use mathlib.Core.Logic.{inl, inr}
use mathlib.Core.List.{List}
use native.Mathlib.Omega.{arith}
use lib.ListN.{drop}
use Rattle.err.specs.Outcome.{Values, accepted}
use Rattle.utf8.specs.Utf8.{Utf8}
use Rattle.escape.specs.declared.Allowed.TheVariants.{Text, Bytes, C}
use Rattle.literal.specs.Readings.{entry_read, read_at}
use Rattle.literal.proofs.Entries.{by_code}
use Rattle.literal.proofs.Answers.{read_own, read_passed, entry_accepted}
use Rattle.grammar.specs.Meaning.{Worth, kind_of, Means, is_true, is_false, is_integer, is_float, is_char, is_string, is_raw_string, is_byte, is_byte_string, is_raw_byte_string, is_c_string, is_raw_c_string}
use Rattle.grammar.specs.Meaning as worth
use Rattle.grammar.proofs.Unambiguous.{unambiguous}
use Rattle.demands.specs.Demand1.{Readable}
use Rattle.demands.specs.Demand2.{Takes, Gives, Demand2Reference, Demand2}
use Rattle.demands.proofs.Demand2.{demand_2_transcribed}
use Rattle.demands.proofs.Found.{Found}
use Rattle.demands.proofs.Bools.{bool_found, bool_read_lem}
use Rattle.demands.proofs.Integers.{integer_found, integer_read_lem}
use Rattle.demands.proofs.Floats.{float_found, float_read_lem}
use Rattle.demands.proofs.Characters.{char_found, char_read_lem, byte_found, byte_read_lem}
use Rattle.demands.proofs.Strings.{string_found, string_read_lem}

-- ---- what an entry accepts has a meaning

entry_found : (code : ℕ) (s : List ℕ) {k e : ℕ} {vs : Values} → code ≤ 8 → Readable s → entry_read code s ≡ accepted k e vs → Found s k e vs
unfolding entry_read
entry_found code s {k} {e} {vs} c f h =
    let a = entry_accepted code s c h in
    by_code (λ n. entry_read n s ≡ accepted k e vs → Found s k e vs)
    (bool_found s f) (integer_found s f) (float_found s f) (char_found s f)
    (string_found Text s f) (byte_found s f) (string_found Bytes s f) (string_found C s f)
    k a.0 a.1 a.4

-- ---- a text with a meaning is accepted by its kind's entry

-- the entry of a worth's kind reads the text
abbrev Reads : List ℕ → Worth → Type 0
Reads s w = (e : ℕ) × (vs : Values) × (entry_read (kind_of w) s ≡ accepted (kind_of w) e vs)

meaning_read : (s : List ℕ) {w : Worth} {x : List ℕ} → Utf8 s → Means s w x → Reads s w
unfolding entry_read
meaning_read s u (is_true h e _) = subst⁻¹ (Reads s) e (bool_read_lem s (inl h))
meaning_read s u (is_false h e _) = subst⁻¹ (Reads s) e (bool_read_lem s (inr h))
meaning_read s u (is_integer t e _) = subst⁻¹ (Reads s) e (integer_read_lem s t)
meaning_read s u (is_float t e _) = subst⁻¹ (Reads s) e (float_read_lem s t)
meaning_read s u (is_char v t e) = subst⁻¹ (Reads s) e (char_read_lem s t)
meaning_read s {x = x} u (is_string v t e) = subst⁻¹ (Reads s) e (string_read_lem Text s v x u (inl t))
meaning_read s {x = x} u (is_raw_string v t e) = subst⁻¹ (Reads s) e (string_read_lem Text s v x u (inr t))
meaning_read s u (is_byte v t e) = subst⁻¹ (Reads s) e (byte_read_lem s t)
meaning_read s {x = x} u (is_byte_string v t e) = subst⁻¹ (Reads s) e (string_read_lem Bytes s v x u (inl t))
meaning_read s {x = x} u (is_raw_byte_string v t e) = subst⁻¹ (Reads s) e (string_read_lem Bytes s v x u (inr t))
meaning_read s {x = x} u (is_c_string v t e) = subst⁻¹ (Reads s) e (string_read_lem C s v x u (inl t))
meaning_read s {x = x} u (is_raw_c_string v t e) = subst⁻¹ (Reads s) e (string_read_lem C s v x u (inr t))

kind_most : (w : Worth) → kind_of w ≤ 8
kind_most (worth.bool b) = omega arith
kind_most (worth.integer n) = omega arith
kind_most (worth.float d) = omega arith
kind_most (worth.char v) = omega arith
kind_most (worth.string v) = omega arith
kind_most (worth.byte v) = omega arith
kind_most (worth.byte_string v) = omega arith
kind_most (worth.c_string v) = omega arith

-- ---- the demand

takes : (code k : ℕ) → (1 ≤ code → k ≡ code) → Takes code k
takes zero k h = inl refl
takes (suc n) k h = inr (sym (h (omega arith)))

accepted_means : (code : ℕ) (s : List ℕ) {k e : ℕ} {vs : Values} → Readable s → read_at code s ≡ accepted k e vs
    → (w : Worth) × (x : List ℕ) × Means s w x × Takes code (kind_of w)
accepted_means code s {k} f h =
    let p = read_passed code s h in
    let r = entry_found code s p.0 f p.3 in
    let a = entry_accepted code s p.0 p.3 in
    (r.worth, r.suffix, r.means, takes code (kind_of r.worth) (λ l. sym r.kind ∙ a.2 l))

means_accepted : (code : ℕ) (s : List ℕ) → Readable s → {w : Worth} {x : List ℕ} → Means s w x → Takes code (kind_of w)
    → (k e : ℕ) × (vs : Values) × (read_at code s ≡ accepted k e vs)
unfolding entry_read
means_accepted code s f {w} m t = go t (meaning_read s f.utf8 m)
  where
    go : Takes code (kind_of w) → Reads s w → (k e : ℕ) × (vs : Values) × (read_at code s ≡ accepted k e vs)
    go (inl z) (e, vs, h) =
        let a = entry_accepted (kind_of w) s (kind_most w) h in
        (kind_of w, e, vs, ap (λ (c : ℕ). read_at c s) z ∙ read_own 0 s (omega arith) f.short f.utf8 ∙ a.3)
    go (inr z) (e, vs, h) =
        (kind_of w, e, vs, ap (λ (c : ℕ). read_at c s) z ∙ read_own (kind_of w) s (kind_most w) f.short f.utf8 ∙ h)

same_worth : (code k e : ℕ) (s x : List ℕ) (vs : Values) (w : Worth) → read_at code s ≡ accepted k e vs → Means s w x
    → (k ≡ kind_of w) × (drop e s ≡ x) × Gives s vs w
same_worth code k e s x vs w h m =
    let p = read_passed code s h in
    let r = entry_found code s p.0 (record { short = p.1; utf8 = p.2 }) p.3 in
    let u = unambiguous s r.suffix x r.worth w r.means m in
    (r.kind ∙ ap kind_of u.0, r.rest ∙ u.1, subst (Gives s vs) u.0 r.gives)

pub demand_2_reference : Demand2Reference
demand_2_reference =
    record {
      accepted_exactly = λ code s c f. ((λ (k, e, vs, h). accepted_means code s f h), (λ (w, x, m, t). means_accepted code s f m t));
      worth = same_worth;
      unambiguous = unambiguous;
    }

-- the whole of demand 2
pub demand_2 : Demand2
demand_2 = record { transcribed = demand_2_transcribed; reference = demand_2_reference }
