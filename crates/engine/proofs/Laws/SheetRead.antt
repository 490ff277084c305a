-- What read_sheet replies: its number, and of an accepted sheet the support and where its table stands. Assumes nothing.
use Prim.Native.Nat.{ℕ, ◌+◌, ◌-◌, ◌^◌, ◌≤◌}
use mathlib.Core.Path.{◌≡◌, sym, ◌∙◌, ap, subst}
use mathlib.Core.List.{List, [], ◌∷◌}
use mathlib.Core.Bool.{true}
use native.Mathlib.Omega.{arith}
use borrow.Author.Tests.{eq-eqb}
use lib.Dec.{eqb, ltb}
use lib.ListN.{length, take, drop, replicate, length-append}
use lib.Seq.{take-append_seam}
use Rattle.records.specs.Bytes.{all, nth}
use Rattle.records.specs.Job.{Candidate, nets_of}
use Rattle.records.specs.Refusal.{ascending}
use Rattle.records.specs.Sheet.{Patch, patch_of, cost_of, is_candidate, patch_good}
use Rattle.records.specs.Service.{candidates_from, sheet_number, sheet_reply}
use Rattle.records.specs.Service.{SheetReply}
use Rattle.records.proofs.Laws.Bytes.{row_at}
use Rattle.records.proofs.Laws.Accepted.{sheet-accepts}
use Rattle.records.proofs.Laws.Sheet.{support-length}
use Rattle.records.proofs.Laws.SheetShape.{sheet_whole-facts, table-end, table-bytes}
use Rattle.engine.proofs.Laws.Choice.{cond_of, cond-zero}

-- an accepted sheet's reply: its support is of candidates, and the table stands among the sheet's bytes
pub record ReadSheet (cs : List Candidate) (p : List ℕ) (r : SheetReply) : Type 0 where
  pub few : r.support.len ≤ length cs
  pub long : r.support.len ≤ length r.support.nets
  pub nets : take r.support.len r.support.nets ≡ (patch_of p).support
  pub candidates : all (is_candidate cs) (patch_of p).support ≡ true
  pub end : r.table + 2 ^ r.support.len ≤ length p
  pub table : take (2 ^ r.support.len) (drop r.table p) ≡ (patch_of p).table

-- ---- the support

good-support : (m : ℕ) (cs : List Candidate) (q : Patch) → patch_good m cs q ≡ true
    → (ascending q.support ≡ true) × (all (is_candidate cs) q.support ≡ true)
unfolding patch_good
good-support m cs q h =
    let t =
    row_at (ascending q.support)
    (all (is_candidate cs) q.support
    ∷ all (λ v. ltb v (2 ^ m)) q.table
    ∷ eqb q.cost (cost_of cs q.support)
    ∷ [])
    h in
    (t 0, t 1)

module _ (m k : ℕ) (nets weights p : List ℕ) where
  pub sheet-number : (sheet_reply m k nets weights p).number ≡ sheet_number m k nets weights p
  unfolding sheet_reply
  sheet-number =
      let n = sheet_number m k nets weights p in
      cond_of (λ (r : SheetReply). r.number) (eqb n 0) _ _ ∙ cond-zero n

  sheet-accepted : sheet_number m k nets weights p ≡ 0
      → ReadSheet (candidates_from k nets weights) p (sheet_reply m k nets weights p)
  unfolding sheet_reply patch_of
  sheet-accepted n =
      let cs = candidates_from k nets weights in
      let is = nets_of (nth 0 p) in
      let a = (sheet-accepts m k nets weights p).0 n in
      let w = sheet_whole-facts p a.1 in
      let g = good-support m cs (patch_of p) a.2 in
      rw (eq-eqb (sheet_number m k nets weights p) 0 n)
      (record {
        few = support-length cs is g.0 g.1;
        long = omega (arith, length-append is (replicate (10 - length is) 0));
        nets = take-append_seam is (replicate (10 - length is) 0);
        candidates = g.1;
        end = table-end p w;
        table = table-bytes p w;
      })

  pub read-sheet : {r : SheetReply} → r ≡ sheet_reply m k nets weights p → r.number ≡ 0
      → ReadSheet (candidates_from k nets weights) p r
  read-sheet {r} e z =
      let n : sheet_number m k nets weights p ≡ 0 = sym sheet-number ∙ ap (λ (x : SheetReply). x.number) (sym e) ∙ z in
      subst (λ (x : SheetReply). ReadSheet (candidates_from k nets weights) p x) (sym e) (sheet-accepted n)
