-- `engine::packed::Operands::next` meets its contract. Assumes nothing.
use mathlib.Core.Path.{ap}
use native.Mathlib.Omega.{arith}
use lib.ListN.{length}
use Rattle.std.proofs.Common.{rules}
use Rattle.engine.proofs.Laws.Packed.{fields-next, fields-none}
use Rattle.engine.proofs.packed.OperandsIterator.next.Goals as goal

pub returns-then-self-eq0-clause-steps : goal.returns-then-self-eq0-clause-steps
returns-then-self-eq0-clause-steps c =
    let none = fields-none _ c.args.self.now.rest c.if-self-eq0.true in
    (none, none)

pub returns-clause-steps : goal.returns-clause-steps
returns-clause-steps c = fields-next _ c.args.self.now.rest (omega (arith, c.if-self-eq0.false))

pub returns-clause-goes : goal.returns-clause-goes
returns-clause-goes c =
    let s = c.args.self.now in
    let shorter = ap length (fields-next s.left s.rest (omega (arith, c.if-self-eq0.false))) in
    search rules
