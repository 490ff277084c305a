-- Laws of what rectify_text prints: by the buffer's length, the job's length and what judge and choose say. Assumes nothing.
use Prim.Native.Nat.{ℕ, ◌+◌, ◌-◌, ◌≤◌, ◌<◌}
use mathlib.Core.Path.{◌≡◌, refl, sym, ◌∙◌, ap}
use mathlib.Core.List.{List, ◌++◌}
use mathlib.Core.Option.{Option, none, some}
use mathlib.Core.Logic.{⊎_elim}
use Rattle.engine.proofs.Laws.Choice.{none_or_some}
use native.Mathlib.Omega.{arith}
use borrow.Author.Tests.{lt-ltb, le-ltb}
use lib.ListN.{length, get_or, take, drop, replicate}
use Rattle.records.specs.Bytes.{placed, nth}
use Rattle.records.specs.Job.{job_of}
use Rattle.records.specs.Refusal.{job_refusal}
use Rattle.records.specs.Sheet.{quad}
use Rattle.records.specs.Claims.{PartsGood}
use Rattle.records.proofs.Laws.Bytes.{drop-take}
use Rattle.engine.specs.Rectify.{vector_loop}
use Rattle.engine.specs.Verdict.{longest_judge, longest_choose, judge_sheet, choose_sheet, judged_bytes, chosen_bytes}
use Rattle.engine.specs.Reply.{judge_reply, choose_reply, judgement_of, judgement_fields}
use Rattle.engine.specs.declared.judging.Judgement.{Judgement}
use Rattle.engine.specs.declared.judging.UnfixableInput.{UnfixableInput}
use Rattle.engine.specs.Reply.{JudgeReply}
use Rattle.engine.specs.Reply.{ChooseReply}
use Rattle.engine.proofs.Laws.Verdict.{vectors-le, judged-fixable, judged-unfixable}
use Rattle.engine.proofs.Replies.{judge-reply, judge-replies, choose-replies, sheet-length, sheet-short, sheet-bytes, judge-accepts, refuse-alike, longest-judged, longest-chosen}
use Rattle.report.specs.Text.{unfixable_word, value_text, refused_text, input_limit, rectify_text, longest_text, printed_length, printed_bytes}
use Rattle.report.specs.Inner.{UnfixableSheet, ChoiceSheet, choice_text}
use Rattle.report.proofs.Laws.Sheet.{unfixable-sheet, choice-sheet, judge-some, vectors-behind}
use Rattle.report.proofs.Laws.Text.{judge-text, choose-text, rectify-accepted, rectify-refused}

-- a text at the start of the lent buffer d: the length and the buffer are those of the definition, and the length is within the buffer
module _ (d s : List ℕ) where
  abbrev pub Told : ℕ → List ℕ → Type 0
  Told r d' = (r ≡ printed_length d s) × ((d' ≡ printed_bytes d s) × (r ≤ length d))

  pub told-short : length d < longest_text → Told 0 d
  unfolding printed_length printed_bytes
  told-short h = let e = lt-ltb (length d) longest_text h in (rw e refl, (rw e refl, omega arith))

  pub told : longest_text ≤ length d → {t : List ℕ} → t ≡ rectify_text s → length t ≤ longest_text → Told (length t) (t ++ drop (length t) d)
  unfolding printed_length printed_bytes placed
  told h {t} e l =
      let o = le-ltb (length d) longest_text h in
      let n : 0 + length t ≡ length t = omega arith in
      (rw (o, ← e) refl, (rw (o, ← e, n) refl, omega arith))

-- ---- what judge says

-- the buffers that rectify_text lends to judge and to choose
abbrev blank_judge : List ℕ
blank_judge = replicate longest_judge 0

abbrev blank_choose : List ℕ
blank_choose = replicate longest_choose 0

-- what stands behind a front's first three bytes
behind-three : (b : List ℕ) (m : ℕ) {xs : List ℕ} → 3 ≤ m → take m b ≡ xs → take (m - 3) (drop 3 b) ≡ drop 3 xs
behind-three b m h e =
    let n : m ≡ 3 + (m - 3) = omega arith in
    sym (drop-take 3 (m - 3) b) ∙ ap (λ (k : ℕ). drop 3 (take k b)) (sym n) ∙ ap (drop 3) e

module _ (s : List ℕ) {r : JudgeReply} (e : r ≡ judge_reply blank_judge s) where
  judge-number : r.number ≡ job_refusal s
  judge-number = (judge-replies blank_judge s e).number ∙ refuse-alike.2 blank_judge s (omega arith)

  pub refused-text : length s ≤ input_limit → (r.number ≡ 0 → ⊥) → refused_text r.number ≡ rectify_text s
  refused-text l n =
      let q = judge-number in
      ap refused_text q ∙ sym (rectify-refused s l (λ z. n (q ∙ z)))

  module _ (z : r.number ≡ 0) where
    accepted : job_refusal s ≡ 0
    accepted = sym judge-number ∙ z

    good : PartsGood (job_of s)
    good = ((judge-accepts blank_judge s).0 (refuse-alike.2 blank_judge s (omega arith) ∙ accepted)).2

    pub judge-short : (3 ≤ r.len) × (r.len ≤ 26)
    judge-short =
        let w = judge-replies blank_judge s e in
        (omega (arith, sheet-length longest-judged w z, judge-some (job_of s)), sheet-short longest-judged w z)

    -- what choose says
    module _ {a : ChooseReply} (f : a ≡ choose_reply blank_choose s) where
      pub choose-zero : a.number ≡ 0
      choose-zero = (choose-replies blank_choose s f).number ∙ refuse-alike.3 blank_choose s (omega arith) ∙ accepted

      pub choose-short : a.len ≤ 2084
      choose-short = sheet-short longest-chosen (choose-replies blank_choose s f) choose-zero

      module _ {g : List ℕ} (v : g ≡ chosen_bytes blank_choose s) where
        chose : take a.len g ≡ choose_sheet (job_of s)
        chose = sheet-bytes longest-chosen (choose-replies blank_choose s f) choose-zero v

        pub choose-whole : ChoiceSheet (take a.len g)
        choose-whole = rw chose (choice-sheet (job_of s) good)

    module _ {b : List ℕ} (w : b ≡ judged_bytes blank_judge s) where
      judged : take r.len b ≡ judge_sheet (job_of s)
      judged = sheet-bytes longest-judged (judge-replies blank_judge s e) z w

      -- judge's verdict is v
      module _ {v : Judgement} (q : r.verdict ≡ some v) where
        judge-verdict : some v ≡ judgement_of (job_of s)
        judge-verdict =
            sym q
            ∙ ap (λ (a : JudgeReply). a.verdict) (e ∙ judge-reply blank_judge s (sym (judge-replies blank_judge s e).number ∙ z))

        -- it is an unfixable input
        module _ {u : UnfixableInput} (p : v ≡ Judgement.Unfixable u) where
          unfixable : (x : ℕ) × ((vector_loop (job_of s)).stuck ≡ some x)
          unfolding judgement_fields
          unfixable =
              ⊎_elim
              (λ (k : (vector_loop (job_of s)).stuck ≡ none).
              let t : 20 ≡ 19 =
              ap (λ (o : Option Judgement). get_or (judgement_fields o) 0 0)
              (ap some (sym p) ∙ judge-verdict ∙ (judged-fixable (job_of s) k).0)
              in
              absurd (omega (arith, t)))
              (λ x. x)
              (none_or_some (vector_loop (job_of s)).stuck)

          pub judge-unfixable : UnfixableSheet (take r.len b)
          judge-unfixable = rw judged (unfixable-sheet (job_of s) good unfixable.1)

          pub unfixable-text : length s ≤ input_limit
              → let sheet = take r.len b in value_text unfixable_word (quad (nth 0 sheet)) (nth 1 sheet) ≡ rectify_text s
          unfixable-text l = rw judged (judge-text (job_of s) unfixable.1 ∙ sym (rectify-accepted s l accepted))

      -- .. or it is not
      module _ {v : Judgement} (q : r.verdict ≡ some v) (n : (u : UnfixableInput) → v ≡ Judgement.Unfixable u → ⊥) where
        fixable : (vector_loop (job_of s)).stuck ≡ none
        fixable =
            ⊎_elim (λ k. k)
            (λ x.
            absurd
            (n (record { input = x.0 })
            (ap (λ (o : Option Judgement). elim o [ some w ↦ w | none ↦ v ]) (judge-verdict q ∙ (judged-unfixable (job_of s) x.1).0))))
            (none_or_some (vector_loop (job_of s)).stuck)

        vectors-part : take (r.len - 3) (drop 3 b) ≡ (vector_loop (job_of s)).vectors
        vectors-part = behind-three b r.len judge-short.0 judged ∙ vectors-behind (job_of s) fixable

        pub vectors-short : length (take (r.len - 3) (drop 3 b)) ≤ 16
        vectors-short = rw vectors-part (vectors-le (job_of s) good)

        pub chosen-text : {a : ChooseReply} → a ≡ choose_reply blank_choose s → {g : List ℕ} → g ≡ chosen_bytes blank_choose s
            → length s ≤ input_limit → choice_text (take a.len g) (take (r.len - 3) (drop 3 b)) ≡ rectify_text s
        chosen-text f v l = rw (chose f v, vectors-part) (choose-text (job_of s) fixable ∙ sym (rectify-accepted s l accepted))
