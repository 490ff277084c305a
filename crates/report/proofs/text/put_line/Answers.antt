-- The word, the numbers of the values one after the other, and a line feed.
use Rattle.std.proofs.Common.{◌≡◌, ◌++◌, map, take, sym, arith, append-nil}
use Rattle.std.proofs.Math.Seq.{take_all}
use Rattle.records.specs.Bytes.{flat}
use Rattle.report.specs.Text.{numbers, line}
use Rattle.report.proofs.Laws.Line.{numbers-take, line_room, line_more_room, behind, length-behind}
use Rattle.report.proofs.text.put_line.Goals as goal

pub unwrap-requires : goal.unwrap-requires
unwrap-requires g c =
    c.try_extend_from_slice.ensures.variant.1
    (omega (arith, line_room g.T.Shown.shown c.args.word.now c.args.values.now 0 _ c.requires))

pub loop-x-init : goal.loop-x-init
unfolding numbers flat
loop-x-init g c = sym (append-nil c.try_extend_from_slice.new.self.items)

pub put_number-requires : goal.put_number-requires
put_number-requires g c =
    let l = c.loop-x in
    let a = c.args in
    let word : c.try_extend_from_slice.new.self.items ≡ a.text.now.items ++ a.word.now = rw c.unwrap.ensures at c.try_extend_from_slice.ensures.ok in
    rw c.wide.ensures
    (omega (
      arith,
      length-behind a.text.now.items a.word.now word,
      length-behind c.try_extend_from_slice.new.self.items (numbers (map g.T.Shown.shown (take l.x-index a.values.now))) l.invariant,
      line_more_room g.T.Shown.shown a.word.now a.values.now l.x-index _ c.requires c.x-item.result c.loop-x-test.true c.x-item.is,
    ))

pub loop-x-preserved : goal.loop-x-preserved
loop-x-preserved g c =
    let l = c.loop-x in
    let e = rw c.wide.ensures at c.put_number.ensures in
    rw (numbers-take g.T.Shown.shown c.args.values.now l.x-index c.x-item.result c.loop-x-test.true c.x-item.is)
    (behind _ _ _ l.invariant e)

pub push-requires : goal.push-requires
push-requires g c =
    let l = c.loop-x in
    let a = c.args in
    let word : c.try_extend_from_slice.new.self.items ≡ a.text.now.items ++ a.word.now = rw c.unwrap.ensures at c.try_extend_from_slice.ensures.ok in (
      omega arith,
      omega (
        arith,
        length-behind a.text.now.items a.word.now word,
        length-behind c.try_extend_from_slice.new.self.items (numbers (map g.T.Shown.shown (take l.x-index a.values.now))) l.invariant,
        line_room g.T.Shown.shown a.word.now a.values.now l.x-index _ c.requires,
      ),
    )

pub returns : goal.returns
unfolding line
returns g c =
    let l = c.loop-x in
    let a = c.args in
    let word : c.try_extend_from_slice.new.self.items ≡ a.text.now.items ++ a.word.now = rw c.unwrap.ensures at c.try_extend_from_slice.ensures.ok in
    let all = rw (take_all l.x-index a.values.now (omega arith)) at l.invariant in
    behind _ _ _ (behind _ _ _ word all) c.push.ensures.items
