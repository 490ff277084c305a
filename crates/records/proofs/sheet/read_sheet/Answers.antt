-- `records::sheet::read_sheet` meets its contract: each check answers the next test of the reply, on the field's bytes.
-- Assumes nothing.
use Prim.Native.Nat.{ℕ, ◌-◌, ◌^◌}
use mathlib.Core.Path.{◌≡◌, sym, ◌∙◌, ap}
use mathlib.Core.Bool.{true, false}
use mathlib.Core.List.{List}
use native.Mathlib.Omega.{arith}
use lib.Dec.{ltb}
use lib.ListN.{length, take, drop}
use Rattle.records.specs.Bytes.{all, nth}
use Rattle.records.specs.Job.{Candidate, nets_of}
use Rattle.records.specs.Sheet.{patch_of, sheet_whole, patch_good}
use Rattle.records.specs.Service.{candidates_from, sheet_told, sheet_reply}
use Rattle.records.specs.Inner.{check_of, word_column, bare_whole, notes_at, sheet_room, support_of, ten_places}
use Rattle.records.specs.declared.field.Check.{Check}
use Rattle.records.specs.declared.sheet.SheetSpans.{SheetSpans}
use Rattle.records.specs.declared.refusal.Refusal.{Refusal}
use Rattle.std.specs.Prelude.{Option, Err}
use Rattle.records.proofs.Laws.Bytes.{and_both, and-false-left, and-false-right}
use Rattle.records.proofs.Laws.Counts.{passes, fails}
use Rattle.records.proofs.Laws.Notes.{sheet-split}
use Rattle.records.proofs.Laws.Shape.{length-nets_of}
use Rattle.records.proofs.Laws.Sheet.{length-candidates_from}
use Rattle.records.proofs.Laws.SheetShape.{Spans, shape-whole, shape-broken}
use Rattle.records.proofs.Laws.SheetReply.{Room, room-facts, reply-room, reply-whole, reply-good, reply-accepted, entries, bad-support, bad-table, bad-cost, good, few-support}
use Rattle.records.proofs.sheet.read_sheet.Goals as goal
use Rattle.records.proofs.sheet.read_sheet.Goals.{In-Passed, In-Passed-check_notes}

-- the check of the notes of the sheet s, of which the first end bytes have the spans at, by the sheet's fields
noted : {s : List ℕ} {end : ℕ} {at : SheetSpans} → Spans s end at
    → {r : Check} → r ≡ check_of (notes_at (at.cost - 3 - at.table) (drop end s)) → r ≡ check_of (notes_at (length (nth 1 s)) (drop end s))
noted {s = s} {end = end} {at = at} p e =
    let n : at.cost - 3 - at.table ≡ length (nth 1 s) = omega (arith, p.cost) in
    e ∙ ap (λ (k : ℕ). check_of (notes_at k (drop end s))) n

-- .. and of its support and its table
supported : {s : List ℕ} {end : ℕ} {at : SheetSpans} → Spans s end at → (cs : List Candidate)
    → {r : Option ℕ} → r ≡ support_of cs (word_column s 2 3 at.nets) → r ≡ support_of cs (nets_of (nth 0 s))
supported p cs e = e ∙ ap (support_of cs) p.nets_part

tested : {s : List ℕ} {end : ℕ} {at : SheetSpans} → Spans s end at → (m : ℕ) → {limit : ℕ} → limit ≡ 2 ^ m
    → {r : Check} → r ≡ check_of (all (λ v. ltb v limit) (take (at.cost - 3 - at.table) (drop at.table s)))
    → r ≡ check_of (all (λ v. ltb v (2 ^ m)) (nth 1 s))
tested p m l e = e ∙ ap check_of (entries _ m _ _ l p.table_part)

-- a sheet that is not its three fields and their notes is refused with 7
broken : (c : In-Passed) → let a = c.args in
    sheet_whole a.sheet.now ≡ false → sheet_told (Err Refusal.Sheet) ≡ sheet_reply a.targets a.candidates a.nets.now a.weights.now a.sheet.now
broken c = let a = c.args in
    reply-whole a.targets a.candidates a.nets.now a.weights.now a.sheet.now (passes _ (sym c.check_sheet_room.ensures ∙ c.in-Passed.is))

-- past the first three checks there is room, the fields stand where they should, and the sheet is whole
roomy : (c : In-Passed-check_notes) → let a = c.args in sheet_room a.targets a.candidates (length a.nets.now) (length a.weights.now) ≡ true
roomy c = passes _ (sym c.check_sheet_room.ensures ∙ c.in-Passed.is)

room : (c : In-Passed-check_notes) → let a = c.args in Room a.targets a.candidates (length a.nets.now) (length a.weights.now)
room c = room-facts _ _ _ _ (roomy c)

spans : (c : In-Passed-check_notes) → Spans c.args.sheet.now c.fields_end-end.result c.in-Some.at
spans c =
    shape-whole _ (λ i. (c.type_inv.sheet i).fits) _ c.fields_end-end.ensures.0 c.in-Some.at (sym c.sheet_shaped.ensures ∙ c.in-Some.is)

whole : (c : In-Passed-check_notes) → sheet_whole c.args.sheet.now ≡ true
whole c =
    sheet-split _ _ c.fields_end-end.ensures.0 c.fields_end-end.ensures.1
    ∙ and_both _ _ (spans c).whole (passes _ (sym (noted (spans c) c.check_notes.ensures) ∙ c.in-Passed-check_notes.is))

-- a whole sheet that does not fit the candidates is refused with 8
unfit : (c : In-Passed-check_notes) → let a = c.args in
    patch_good a.targets (candidates_from a.candidates a.nets.now a.weights.now) (patch_of a.sheet.now) ≡ false
    → sheet_told (Err Refusal.Patch) ≡ sheet_reply a.targets a.candidates a.nets.now a.weights.now a.sheet.now
unfit c = let a = c.args in reply-good a.targets a.candidates a.nets.now a.weights.now a.sheet.now (roomy c) (whole c)

-- ---- the goals

pub returns-in_default : goal.returns-in_default
returns-in_default c =
    let a = c.args in
    reply-room a.targets a.candidates a.nets.now a.weights.now a.sheet.now
    (fails _ (sym c.check_sheet_room.ensures ∙ c.in_default.is))

pub returns-in_default-sheet_shaped : goal.returns-in_default-sheet_shaped
returns-in_default-sheet_shaped c =
    broken (goal.at.returns-in_default-sheet_shaped c).In-Passed
    (sheet-split _ _ c.fields_end-end.ensures.0 c.fields_end-end.ensures.1
    ∙ and-false-left _ _ (shape-broken _ (sym c.sheet_shaped.ensures ∙ c.in_default-sheet_shaped.is)))

pub overflow_sub-at : goal.overflow_sub-at
overflow_sub-at c =
    let p = shape-whole _ (λ i. (c.type_inv.sheet i).fits) _ c.fields_end-end.ensures.0 c.in-Some.at (sym c.sheet_shaped.ensures ∙ c.in-Some.is) in
    omega (arith, p.cost)

pub overflow_sub-at-2 : goal.overflow_sub-at-2
overflow_sub-at-2 c =
    let p = shape-whole _ (λ i. (c.type_inv.sheet i).fits) _ c.fields_end-end.ensures.0 c.in-Some.at (sym c.sheet_shaped.ensures ∙ c.in-Some.is) in
    omega (arith, p.cost)

pub returns-in_default-check_notes : goal.returns-in_default-check_notes
returns-in_default-check_notes c =
    let p = shape-whole _ (λ i. (c.type_inv.sheet i).fits) _ c.fields_end-end.ensures.0 c.in-Some.at (sym c.sheet_shaped.ensures ∙ c.in-Some.is) in
    broken (goal.at.returns-in_default-check_notes c).In-Passed
    (sheet-split _ _ c.fields_end-end.ensures.0 c.fields_end-end.ensures.1
    ∙ and-false-right (bare_whole _) _ (fails _ (sym (noted p c.check_notes.ensures) ∙ c.in_default-check_notes.is)))

pub support_cost-requires : goal.support_cost-requires
support_cost-requires c =
    let p = spans (goal.at.support_cost-requires c).In-Passed-check_notes in
    let r = room (goal.at.support_cost-requires c).In-Passed-check_notes in
    (omega (arith, p), omega (arith, p.few), r.nets, r.weights)

pub returns-in_default-support_cost : goal.returns-in_default-support_cost
returns-in_default-support_cost c =
    let n = (goal.at.returns-in_default-support_cost c).In-Passed-check_notes in
    unfit n (bad-support c.args.targets _ _ (sym (supported (spans n) _ c.support_cost.ensures) ∙ c.in_default-support_cost.is))

pub power-limit-requires : goal.power-limit-requires
power-limit-requires c = let r = room (goal.at.power-limit-requires c).In-Passed-check_notes in omega (arith, r.targets)

pub overflow_sub-at-3 : goal.overflow_sub-at-3
overflow_sub-at-3 c = let p = spans (goal.at.overflow_sub-at-3 c).In-Passed-check_notes in omega (arith, p.cost)

pub check_entries-requires : goal.check_entries-requires
check_entries-requires c = let p = spans (goal.at.check_entries-requires c).In-Passed-check_notes in omega (arith, p)

pub returns-in_default-check_entries : goal.returns-in_default-check_entries
returns-in_default-check_entries c =
    let n = (goal.at.returns-in_default-check_entries c).In-Passed-check_notes in
    let e = tested (spans n) c.args.targets c.power-limit.ensures c.check_entries.ensures in
    unfit n (bad-table c.args.targets _ _ (fails _ (sym e ∙ c.in_default-check_entries.is)))

pub quad_at-requires : goal.quad_at-requires
quad_at-requires c = let p = spans (goal.at.quad_at-requires c).In-Passed-check_notes in omega (arith, p)

pub returns-then-cost-quad_at : goal.returns-then-cost-quad_at
returns-then-cost-quad_at c =
    let n = (goal.at.returns-then-cost-quad_at c).In-Passed-check_notes in
    let sum = sym (supported (spans n) _ c.support_cost.ensures) ∙ c.in-Some-support_cost.is in
    unfit n (bad-cost c.args.targets _ _ _ sum (λ q. c.if-cost-quad_at.true (q ∙ sym (c.quad_at.ensures ∙ (spans n).cost_part))))

pub support_from-requires : goal.support_from-requires
support_from-requires c =
    let n = (goal.at.support_from-requires c).In-Passed-check_notes in
    let p = spans n in
    let r = room n in
    let f = few-support c.args.targets _ c.args.sheet.now _ (sym (supported p _ c.support_cost.ensures) ∙ c.in-Some-support_cost.is) in
    omega (
      arith,
      p,
      f,
      length-nets_of (nth 0 c.args.sheet.now),
      length-candidates_from c.args.candidates c.args.nets.now c.args.weights.now,
      r.candidates,
    )

pub returns : goal.returns
returns c =
    let a = c.args in
    let n = (goal.at.returns c).In-Passed-check_notes in
    let p = spans n in
    let sum = sym (supported p _ c.support_cost.ensures) ∙ c.in-Some-support_cost.is in
    let cost = c.if-cost-quad_at.false ∙ c.quad_at.ensures ∙ p.cost_part in
    let e = tested p a.targets c.power-limit.ensures c.check_entries.ensures in
    reply-accepted a.targets a.candidates a.nets.now a.weights.now a.sheet.now (roomy n) (whole n)
    (good a.targets _ _ _ sum (passes _ (sym e ∙ c.in-Passed-check_entries.is)) cost) c.support_from.result c.in-Some.at.table _
    (c.support_from.ensures ∙ ap ten_places p.nets_part) p.table cost
