-- `engine::guess::listed_table` meets its contract, entry by entry. Assumes nothing.
use lib.ListN.{get_or}
use Rattle.std.proofs.Common.{rules}
use mathlib.Core.Path.{◌≡◌}
use Rattle.engine.specs.Inner.Guess.{listed_pair}
use Rattle.engine.proofs.Laws.Array.{from_fn_each}
use Rattle.engine.proofs.Laws.Guess.{table-listed}
use Rattle.engine.proofs.guess.listed_table.Goals as goal

pub returns : goal.returns
returns c =
    let s = c.listed_set-listed in
    let sets = c.args.sets.now in
    table-listed s.result c.args.list.now (λ r. get_or sets r 0) s.ensures
    (from_fn_each (λ r v. v ≡ listed_pair s.result (get_or sets r 0)) _ c.from_fn.ensures.items (λ r v q l k. search rules))
