-- `engine::imply::open_operand` meets its contract, which asks of its answer only that it is a net. Assumes nothing.
use native.Mathlib.Omega.{arith}
use Rattle.engine.specs.Inner.Packed.{fields}
use Rattle.engine.proofs.Laws.Packed.{field-below}
use Rattle.engine.proofs.imply.open_operand.Goals as goal

pub find-requires-clause-callable : goal.find-requires-clause-callable
find-requires-clause-callable c = record {
  at = λ xs t q x u y k s z e l p n a f b. let h = field-below t.left t.rest {ys = fields u.left u.rest} s in omega (arith, e, h);
}
