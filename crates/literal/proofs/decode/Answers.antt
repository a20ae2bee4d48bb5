-- `literal::decode` meets its contract.
-- Assumes nothing.
use mathlib.Core.Path.{◌≡◌, refl, sym, ◌∙◌}
use native.Mathlib.Omega.{arith}
use Rattle.std.proofs.Common.{rules}
use Rattle.std.specs.Prelude.{Err}
use Rattle.err.specs.Outcome.{accepted}
use Rattle.err.specs.Reading.{values_of_string}
use Rattle.string.specs.String.{string_kind}
use Rattle.literal.specs.Decodes.{decode_at, decode_buffer}
use Rattle.literal.specs.Readings.{read_at}
use Rattle.literal.proofs.Calls.{string_alone, string_holds, decode_refused, string_short, string_is, string_decoded_lem, string_buffer}
use Rattle.literal.proofs.decode.Goals.{in-String, in-String-2, in-String-3}
use Rattle.literal.proofs.decode.Goals as goal

pub returns-in_default-clause-answer : goal.returns-in_default-clause-answer
unfolding decode_at
returns-in_default-clause-answer c = let e = c.perr_nowhere.ensures in rw (← c.string_kind.ensures, c.in_default.is) cc

pub returns-in_default-clause-out_after : goal.returns-in_default-clause-out_after
unfolding decode_buffer
returns-in_default-clause-out_after c = rw (← c.string_kind.ensures, c.in_default.is) refl

pub returns-in_err-lit-clause-answer : goal.returns-in_err-lit-clause-answer
returns-in_err-lit-clause-answer c =
    let gone : c.from_residual.result ≡ Err c.in_err-lit.field-0.0 = search rules in
    rw gone (decode_refused _ _ _ (sym c.in-Some.ensures) c.args.out.now c.in_err-lit.ensures.outcome).0

pub returns-in_err-lit-clause-out_after : goal.returns-in_err-lit-clause-out_after
returns-in_err-lit-clause-out_after c = (decode_refused _ _ _ (sym c.in-Some.ensures) c.args.out.now c.in_err-lit.ensures.outcome).1

pub unreachable-requires : goal.unreachable-requires
unreachable-requires c =
    let n = c.in_default-2 in
    string_alone _ _ _ (sym c.in-Some.ensures) _ c.in_ok-lit.ensures.outcome n.not-String n.not-ByteString n.not-CString

pub decode-requires : goal.decode-requires
decode-requires c =
    let a = c.args in
    let k = c.in-Some.kind in
    let l = c.match-branch-2.lit in
    let coded = sym c.in-Some.ensures in
    let h = c.in_ok-lit.ensures.outcome in
    let held : accepted (string_kind k) l.start_suffix (values_of_string l) ≡ read_at a.code a.text.now =
    elim c.match-branch-2.branch [
      | in-String w ↦ rw w.lit-is (string_holds a.code k a.text.now coded _ _ h w.in-String.is)
      | in-String-2 w ↦ rw w.lit-is (string_holds a.code k a.text.now coded _ _ h w.in-String.is)
      | in-String-3 w ↦ rw w.lit-is (string_holds a.code k a.text.now coded _ _ h w.in-String.is)
    ] in
    (omega (arith, string_short a.code k a.text.now coded held), string_is a.code k a.text.now coded held)

pub returns : goal.returns
returns c =
    let a = c.args in
    let k = c.in-Some.kind in
    let l = c.match-branch-2.lit in
    let coded = sym c.in-Some.ensures in
    let h = c.in_ok-lit.ensures.outcome in
    let held : accepted (string_kind k) l.start_suffix (values_of_string l) ≡ read_at a.code a.text.now =
    elim c.match-branch-2.branch [
      | in-String w ↦ rw w.lit-is (string_holds a.code k a.text.now coded _ _ h w.in-String.is)
      | in-String-2 w ↦ rw w.lit-is (string_holds a.code k a.text.now coded _ _ h w.in-String.is)
      | in-String-3 w ↦ rw w.lit-is (string_holds a.code k a.text.now coded _ _ h w.in-String.is)
    ] in
    record {
      answer = c.decode.ensures.answer ∙ string_decoded_lem a.code k a.text.now coded held _;
      out_after = c.decode.ensures.out_after ∙ string_buffer a.code k a.text.now coded held _;
      text_unchanged = refl;
    }
