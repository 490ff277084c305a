-- `records::reading::fill_rest` meets its contract: each list gets the words of its field. Assumes nothing.
use native.Mathlib.Omega.{arith}
use Rattle.records.proofs.Laws.Shape.{parts}
use Rattle.records.proofs.Laws.Reading.{outputs-fit, goldens-fit, nets-fit, weights-fit, rest-filled}
use Rattle.records.proofs.reading.fill_rest.Goals as goal

pub fill_words-requires : goal.fill_words-requires
fill_words-requires c =
    outputs-fit _ _ c.requires _ (parts _ _ c.requires.laid _ c.starts_of-at.ensures)

pub fill_words-requires-2 : goal.fill_words-requires-2
fill_words-requires-2 c =
    goldens-fit _ _ c.requires _ (parts _ _ c.requires.laid _ c.starts_of-at.ensures)

pub fill_words-requires-3 : goal.fill_words-requires-3
fill_words-requires-3 c =
    nets-fit _ _ c.requires _ (parts _ _ c.requires.laid _ c.starts_of-at.ensures)

pub overflow_add-at : goal.overflow_add-at
overflow_add-at c =
    omega (arith, weights-fit _ _ c.requires _ (parts _ _ c.requires.laid _ c.starts_of-at.ensures))

pub fill_words-requires-4 : goal.fill_words-requires-4
fill_words-requires-4 c =
    weights-fit _ _ c.requires _ (parts _ _ c.requires.laid _ c.starts_of-at.ensures)

pub returns : goal.returns
returns c =
    let laid = c.requires.laid in
    rest-filled _ _ _ _ _ _ laid _ (parts _ _ laid _ c.starts_of-at.ensures)
    c.fill_words.ensures c.fill_words-2.ensures c.fill_words-3.ensures c.fill_words-4.ensures
