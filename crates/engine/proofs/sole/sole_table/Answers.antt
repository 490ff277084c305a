-- `engine::sole::sole_table` meets its contract, entry by entry. Assumes nothing.
use mathlib.Core.Path.{◌≡◌}
use lib.ListN.{get_or}
use Rattle.std.proofs.Common.{rules}
use Rattle.engine.specs.Inner.Search.{sole_of}
use Rattle.engine.proofs.Laws.Array.{from_fn_each}
use Rattle.engine.proofs.sole.sole_table.Goals as goal

pub returns : goal.returns
returns c =
    from_fn_each (λ r v. v ≡ sole_of (get_or c.args.sets.now r 0)) _ c.from_fn.ensures.items (λ r v q l k. search rules)
