-- `dispatch::entry_for` meets its contract.
-- Assumes nothing.
use mathlib.Core.Path.{sym, ◌∙◌}
use mathlib.Core.Logic.{⊎_elim}
use native.Mathlib.Omega.{arith}
use Rattle.parse.specs.Class.{class_of}
use Rattle.parse.specs.Sets.{dec_digit}
use Rattle.parse.proofs.Classes.{dec_digit_ends, dec_digit_within}
use Rattle.scan.proofs.Cases.{clash}
use Rattle.dispatch.specs.Entries.{entry_by}
use Rattle.dispatch.proofs.FirstByte.{entry_none, entry_of, entry_digit, entry_other}
use Rattle.dispatch.proofs.entry_for.Goals as goal

pub returns-in_default : goal.returns-in_default
returns-in_default c = entry_none _ (omega (arith, c.in_default.ensures.item))

pub returns-then-b-eq34 : goal.returns-then-b-eq34
unfolding entry_by dec_digit class_of
returns-then-b-eq34 c =
    let b = c.in-Some.ensures.item.3 in
    entry_of _ _ b.0 (b.1 0) _ c.if-b-eq34.true

pub returns-then-b-eq39 : goal.returns-then-b-eq39
unfolding entry_by dec_digit class_of
returns-then-b-eq39 c =
    let b = c.in-Some.ensures.item.3 in
    entry_of _ _ b.0 (b.1 0) _ c.if-b-eq39.true

pub returns-then-b-eq98 : goal.returns-then-b-eq98
unfolding entry_by dec_digit class_of
returns-then-b-eq98 c =
    let b = c.in-Some.ensures.item.3 in
    c.b_entry.ensures ∙ entry_of _ _ b.0 (b.1 0) _ c.if-b-eq98.true

pub returns-then-is_decimal : goal.returns-then-is_decimal
returns-then-is_decimal c =
    let b = c.in-Some.ensures.item.3 in
    let d = dec_digit_ends _ (sym c.if-is_decimal.ensures) in
    c.number_entry.ensures ∙ entry_digit _ _ b.0 (b.1 0) d.0 d.1

pub returns-in-102 : goal.returns-in-102
unfolding entry_by dec_digit class_of
returns-in-102 c =
    let b = c.in-Some.ensures.item.3 in
    ⊎_elim (entry_of _ _ b.0 (b.1 0) _) (entry_of _ _ b.0 (b.1 0) _) c.in-102.is

pub returns-in-114 : goal.returns-in-114
unfolding entry_by dec_digit class_of
returns-in-114 c =
    let b = c.in-Some.ensures.item.3 in
    entry_of _ _ b.0 (b.1 0) _ c.in-114.is

pub returns-in-99 : goal.returns-in-99
unfolding entry_by dec_digit class_of
returns-in-99 c =
    let b = c.in-Some.ensures.item.3 in
    entry_of _ _ b.0 (b.1 0) _ c.in-99.is

pub returns-in_default-b : goal.returns-in_default-b
returns-in_default-b c =
    let b = c.in-Some.ensures.item.3 in
    entry_other _ _ b.0 (b.1 0) (λ h g. clash (dec_digit_within _ h g) (sym c.if-is_decimal.ensures)) (λ z. grind arith) (λ z. grind arith)
    c.if-b-eq39.false c.if-b-eq34.false (λ z. grind arith) c.if-b-eq98.false (λ z. grind arith)
