-- `engine::miter::nets_from` meets its contract. Assumes nothing.
use mathlib.Core.Path.{◌≡◌, refl, ◌∙◌, ap}
use mathlib.Core.List.{map}
use native.Mathlib.Omega.{arith}
use lib.ListN.{length, get_or, length-map}
use lib.Seq.{take_at}
use Rattle.engine.specs.Inner.Shifted.{shifted_net}
use Rattle.engine.proofs.Laws.InPlace.{below-append, below-drop, below-map}
use Rattle.engine.proofs.Laws.Loaded.{below-zeros}
use Rattle.engine.proofs.Laws.MiterCode.{net-lt}
use Rattle.engine.proofs.miter.nets_from.Goals as goal

pub returns : goal.returns
returns c =
    let a = c.args in
    let f = shifted_net a.inputs a.shift in
    let e : c.shift_nets.new.nets ≡ map f a.nets.now = c.shift_nets.ensures ∙ ap (map f) c.copy_from_slice.ensures.after in
    rw e (
      below-append 1024 (map f a.nets.now) _
          (below-map 1024 f a.nets.now (omega arith) (λ i h. net-lt a.inputs a.shift (get_or a.nets.now i 0) refl (c.requires.1 i h)))
          (below-drop 1024 (length a.nets.now) _ (below-zeros 1024 32 (omega arith))),
      take_at (map f a.nets.now) _ (length a.nets.now) (length-map a.nets.now f),
    )
