-- What specs/Claims.antt promises of judge's vector list, and of outputs in another order (card 8). Assumes nothing.
use Prim.Native.Nat.{ℕ}
use mathlib.Core.Path.{◌≡◌, sym, ◌∙◌, ap}
use mathlib.Core.Logic.{⊎_elim}
use mathlib.Core.List.{List, [], ◌++◌, append-nil}
use borrow.Author.Tests.{eq-eqb}
use lib.ListN.{take}
use Rattle.records.specs.Bytes.{body, field, nth}
use Rattle.records.specs.Job.{job_of}
use Rattle.records.proofs.Laws.RoundTrip.{body-field, rest-field}
use Rattle.engine.specs.Rectify.{vector_loop}
use Rattle.engine.specs.Verdict.{four_bytes, judge_sheet, choose_sheet, reply_bytes, judge_number, judged_bytes, choose_number}
use Rattle.engine.specs.Reply.{judgement_of, judge_reply, choice_of}
use Rattle.engine.specs.Claims.{list_in, NoWaste, AnyOrder}
use Rattle.engine.proofs.Laws.Needed.{without-waste}
use Rattle.engine.proofs.Laws.Reordered.{reordered-good, judge-sheet-same, judgement-same, choose-sheet-same, choice-same}
use Rattle.engine.proofs.Replies.{judge-accepts, choose-accepts, judge-reply, one-judgement, vectors-given, choose-reply}

-- ---- the list in judge's sheet

list-fixable : (vs : List ℕ) → list_in (field 19 vs) ≡ vs
unfolding list_in nth field
list-fixable vs = rw (← append-nil (field 19 vs)) (body-field 19 vs [])

list-unfixable : (x : ℕ) (vs : List ℕ) → list_in (field 20 (four_bytes x) ++ field 19 vs) ≡ vs
unfolding list_in nth field
list-unfixable x vs = ap body (rest-field 20 (four_bytes x) (field 19 vs)) ∙ list-fixable vs

pub no-waste : NoWaste
no-waste d s e =
    let j = job_of s in
    let g = vectors-given d s e in
    let l : list_in (take (judge_reply d s).len (judged_bytes d s)) ≡ (vector_loop j).vectors =
    ⊎_elim
    (λ p. ap list_in (g.0 p) ∙ list-fixable (vector_loop j).vectors)
    (λ p. ap list_in (g.1 p.0 p.1) ∙ list-unfixable p.0 (vector_loop j).vectors)
    (one-judgement d s e).0 in
    rw l (without-waste j)

-- ---- both output lists in one new order

pub any_order : AnyOrder
unfolding reply_bytes
any_order s t ps w h q =
    let j = job_of s in (
      λ d a.
          let p = (judge-accepts d s).0 a in
          let g = p.2 in
          let b = (judge-accepts d t).1 (p.0, h, rw q (reordered-good ps j g w)) in
          let e : judge_sheet (job_of t) ≡ judge_sheet j = rw q (judge-sheet-same ps j g w) in
          let v : judgement_of (job_of t) ≡ judgement_of j = rw q (judgement-same ps j g w) in (
            judge-reply d s a ∙ rw (← e, ← v) (sym (judge-reply d t b)),
            rw (eq-eqb (judge_number d s) 0 a, eq-eqb (judge_number d t) 0 b, e),
          ),
      λ d a.
          let p = (choose-accepts d s).0 a in
          let g = p.2 in
          let b = (choose-accepts d t).1 (p.0, h, rw q (reordered-good ps j g w)) in
          let e : choose_sheet (job_of t) ≡ choose_sheet j = rw q (choose-sheet-same ps j g w) in
          let v : choice_of (job_of t) ≡ choice_of j = rw q (choice-same ps j g w) in (
            choose-reply d s a ∙ rw (← e, ← v) (sym (choose-reply d t b)),
            rw (eq-eqb (choose_number d s) 0 a, eq-eqb (choose_number d t) 0 b, e),
          ),
    )
