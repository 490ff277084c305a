-- `records::sheet::check_notes` meets its contract: each test answers one of the definition's, on what the field's reader finds.
-- Assumes nothing.
use Prim.Native.Nat.{◌+◌, ◌≤◌}
use mathlib.Core.Path.{◌≡◌, sym, ◌∙◌, ap}
use native.Mathlib.Omega.{arith}
use lib.ListN.{length}
use Rattle.records.specs.Inner.{check_of, field_at}
use Rattle.std.specs.Prelude.{Some}
use Rattle.records.proofs.Laws.Notes.{notes-none, notes-missing, notes-within, notes-bad, notes-good}
use Rattle.records.proofs.sheet.check_notes.Goals as goal

pub returns-then-at-s : goal.returns-then-at-s
unfolding check_of
returns-then-at-s c =
    let a = c.args in
    rw (notes-none a.s.now a.at a.count c.if-at-s.true)

pub returns-in_default : goal.returns-in_default
unfolding check_of
returns-in_default c =
    let a = c.args in
    rw (notes-missing a.s.now a.at a.count c.requires c.if-at-s.false (sym c.field_at.ensures ∙ c.in_default.is))

pub overflow_add-span : goal.overflow_add-span
overflow_add-span c =
    let body : let a = c.args in field_at a.s.now a.at 22 ≡ Some c.in-Some.span =
    sym c.field_at.ensures ∙ c.in-Some.is in
    let within : c.in-Some.span.start + c.in-Some.span.len ≤ length c.args.s.now =
    let a = c.args in
    notes-within a.s.now a.at a.count c.requires c.if-at-s.false _ body in
    omega (arith, within)

pub returns-then-span-count : goal.returns-then-span-count
unfolding check_of
returns-then-span-count c =
    let body : let a = c.args in field_at a.s.now a.at 22 ≡ Some c.in-Some.span =
    sym c.field_at.ensures ∙ c.in-Some.is in
    let a = c.args in
    rw (notes-bad a.s.now a.at a.count c.requires c.if-at-s.false _ body c.if-span-count.true)

pub returns : goal.returns
returns c =
    let body : let a = c.args in field_at a.s.now a.at 22 ≡ Some c.in-Some.span =
    sym c.field_at.ensures ∙ c.in-Some.is in
    let a = c.args in
    c.check_entries.ensures
    ∙ ap check_of
    (sym (notes-good a.s.now a.at a.count c.requires c.if-at-s.false _ body c.if-span-count.false))
