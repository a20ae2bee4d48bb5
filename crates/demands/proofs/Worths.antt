-- The worth that settling computes of an accepted reading is the worth that the text means.
-- Assumes nothing.
use Prim.Native.Nat.{ℕ, ◌+◌}
use mathlib.Core.Path.{◌≡◌, sym, ap, ◌∙◌, subst}
use mathlib.Core.List.{List, ◌++◌}
use native.Mathlib.Omega.{arith}
use native.Mathlib.Nat.{add-sub_cancel_left}
use lib.ListN.{length, take, drop, length-append}
use lib.Seq.{drop-append_seam, take-append_seam, take_at}
use Rattle.err.specs.Outcome.{IntegerValues, Values, accepted, truth, digits, ends, value, decoded}
use Rattle.err.proofs.Values.{digits_same}
use Rattle.buffer.specs.Buffer.{over}
use Rattle.utf8.specs.Utf8.{Utf8, Boundary}
use Rattle.utf8.proofs.Text.{boundary_drop}
use Rattle.escape.specs.declared.Allowed.{Allowed}
use Rattle.escape.specs.declared.Allowed.TheVariants.{Text, Bytes, C}
use Rattle.integer.specs.Integer.{integer_read}
use Rattle.integer.specs.Parts.{Tiled}
use Rattle.integer.proofs.Parts.{sound}
use Rattle.integer_value.specs.Value.{number}
use Rattle.string.specs.String.{string_kind, string_read, string_value}
use Rattle.string.specs.Decode.{written}
use Rattle.string.proofs.Values.{value_utf8}
use Rattle.literal.specs.Decodes.{decode_at}
use Rattle.literal.specs.Inside.{offsets, OnBoundaries}
use Rattle.literal.specs.Readings.{entry_read, read_at}
use Rattle.literal.proofs.Answers.{read_passed, entry_accepted}
use Rattle.form.proofs.Fit.{Fit}
use Rattle.form.proofs.Fits.{fit_bytes}
use Rattle.grammar.specs.Values.{number_in}
use Rattle.grammar.specs.Meaning.{Worth, kind_of, Means}
use Rattle.grammar.specs.Meaning as worth
use Rattle.scan.specs.Part.{part}
use Rattle.form_decimal.specs.Scaled.{float_at}
use Rattle.form_reading.specs.Worths.{worth_of}
use Rattle.demands.specs.Demand1.{Readable}
use Rattle.demands.specs.Demand2.{Gives, GivesInteger, GivesBytes}
use Rattle.demands.proofs.DecodeCall.{decode_answers}
use Rattle.demands.proofs.Demand2.{demand_2_transcribed}
use Rattle.demands.proofs.Integers.{base_most, number_is}
use Rattle.demands.proofs.Reference.{demand_2_reference}

-- what entry 0 accepts is a fine text, which its kind's own entry accepts too
pub own_read : (s : List ℕ) {k e : ℕ} {vs : Values} → read_at 0 s ≡ accepted k e vs → Readable s × (entry_read k s ≡ accepted k e vs)
own_read s h =
    let p = read_passed 0 s h in
    (record { short = p.1; utf8 = p.2 }, (entry_accepted 0 s p.0 p.3).4)

-- ---- integers

-- what a reading marks as digits is worth the same by both definitions
marked_number : (s : List ℕ) {k e : ℕ} {d : IntegerValues} → Tiled s k e (digits d)
    → number d.base (part d.start d.end s) ≡ number_in d.base (part d.start d.end s)
marked_number s {k} {e} {d} t =
    let v = digits_same t.values in
    let b : d.base ≡ t.base = ap (λ (d : IntegerValues). d.base) v in
    let l : d.start ≡ length t.pre = ap (λ (d : IntegerValues). d.start) v in
    let r : d.end ≡ length t.pre + length t.main = ap (λ (d : IntegerValues). d.end) v ∙ t.end in
    let m : part d.start d.end s ≡ t.main =
    rw (l, r, t.text, add-sub_cancel_left, drop-append_seam, take-append_seam) in
    rw (m, b) (number_is t.base t.main (base_most t.parts.prefix) t.parts.digits)

integer_worth : (s : List ℕ) {k e n : ℕ} {vs : Values} → integer_read s ≡ accepted k e vs → GivesInteger s vs n → worth_of k s vs ≡ worth.integer n
integer_worth s {k} {e} {vs} h g =
    let t = sound s k e vs h in
    rw g.values (ap worth.integer (marked_number s (subst (λ (v : Values). Tiled s k e v) g.values t) ∙ g.number))

-- ---- strings

-- two pieces of one length that leave a buffer alike are the same
pub over_unique : (u v buf : List ℕ) → length u ≡ length v → over u buf ≡ over v buf → u ≡ v
unfolding over
over_unique u v buf e h =
    sym (take-append_seam u (drop (length u) buf)) ∙ ap (take (length u)) h ∙ take_at v (drop (length v) buf) (length u) (sym e)

-- decoding gives one value
decoded_value : (k : Allowed) (s v : List ℕ) {kind e : ℕ} {vs : Values} → Readable s → string_read k s ≡ accepted kind e vs
    → GivesBytes (string_kind k) s vs v → string_value k s ≡ v
decoded_value k s v f h g =
    let w = string_value k s in
    let buf = v ++ w in
    let l = length-append v w in
    let a : decode_at (string_kind k) s (length buf) ≡ written (length v) = g.count buf (omega arith) in
    let b : decode_at (string_kind k) s (length buf) ≡ written (length w) = decode_answers.decoded k (length buf) s f h (omega arith) in
    let n : length w ≡ length v = cc in
    over_unique w v v n (sym (decode_answers.filled k s v (g.count v (omega arith))) ∙ g.bytes v (omega arith))

-- ---- the law

worth_by : (w : Worth) (s : List ℕ) {e : ℕ} {vs : Values} → Readable s → entry_read (kind_of w) s ≡ accepted (kind_of w) e vs → Gives s vs w
    → worth_of (kind_of w) s vs ≡ w
unfolding entry_read float_at
worth_by (worth.bool b) s f h g = rw g
worth_by (worth.integer n) s f h g = integer_worth s h g
worth_by (worth.float d) s f h g = rw g.values (ap worth.float g.number)
worth_by (worth.char v) s f h g = rw g
worth_by (worth.string v) s f h g = rw g.values (ap worth.string (decoded_value Text s v f h g))
worth_by (worth.byte v) s f h g = rw g
worth_by (worth.byte_string v) s f h g = rw g.values (ap worth.byte_string (decoded_value Bytes s v f h g))
worth_by (worth.c_string v) s f h g = rw g.values (ap worth.c_string (decoded_value C s v f h g))

-- the entry of the meaning's kind reads the text
kind_read : (s x : List ℕ) {k e : ℕ} {vs : Values} {w : Worth} → read_at 0 s ≡ accepted k e vs → Means s w x
    → entry_read (kind_of w) s ≡ accepted (kind_of w) e vs
kind_read s x {k} {e} {vs} {w} h m =
    subst (λ (n : ℕ). entry_read n s ≡ accepted n e vs) (demand_2_reference.worth 0 k e s x vs w h m).0 (own_read s h).1

pub worth_is : (s x : List ℕ) {k e : ℕ} {vs : Values} {w : Worth} → read_at 0 s ≡ accepted k e vs → Means s w x
    → (worth_of k s vs ≡ w) × (drop e s ≡ x) × (k ≡ kind_of w)
worth_is s x {k} {e} {vs} {w} h m =
    let g = demand_2_reference.worth 0 k e s x vs w h m in
    (ap (λ (n : ℕ). worth_of n s vs) g.0 ∙ worth_by w s (own_read s h).0 (kind_read s x h m) g.2, g.1, g.0)

-- ---- what else is known of the worth and the suffix

string_utf8 : (s x v : List ℕ) {k e : ℕ} {vs : Values} {w : Worth} → read_at 0 s ≡ accepted k e vs → Means s w x → w ≡ worth.string v → Utf8 v
unfolding entry_read
string_utf8 s x v {k} {e} {vs} {w} h m i =
    let m' : Means s (worth.string v) x = rw i at m in
    let f = (own_read s h).0 in
    let r : string_read Text s ≡ accepted 5 e vs = kind_read s x h m' in
    subst Utf8 (decoded_value Text s v f r (demand_2_reference.worth 0 k e s x vs (worth.string v) h m').2) (value_utf8 s f.utf8 r)

pub worth_fit : (s x : List ℕ) {k e : ℕ} {vs : Values} {w : Worth} → read_at 0 s ≡ accepted k e vs → Means s w x → Fit w
worth_fit s x {w = w} h m = fit_bytes s w x (own_read s h).0.utf8 m (λ v. string_utf8 s x v h m)

-- the suffix starts on a boundary
start_boundary : (s : List ℕ) (e : ℕ) (vs : Values) → OnBoundaries s (offsets e vs) → Boundary s e
start_boundary s e (truth t) b = b.0
start_boundary s e (digits d) b = b.1.1.0
start_boundary s e (ends z) b = b.1.1.1.0
start_boundary s e (value v) b = b.0
start_boundary s e (decoded v) b = b.0

pub suffix_utf8 : (s x : List ℕ) {k e : ℕ} {vs : Values} {w : Worth} → read_at 0 s ≡ accepted k e vs → Means s w x → Utf8 x
suffix_utf8 s x {k} {e} {vs} h m =
    subst Utf8 (worth_is s x h m).1 (boundary_drop s e (start_boundary s e vs (demand_2_transcribed.readings s 0 k e vs h).boundaries))
