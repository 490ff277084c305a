-- `engine::masks::turned_at` meets its contract: the constant is the list of the definition. Assumes nothing.
use Rattle.engine.proofs.Laws.Gray.{turns-first, turns-other, turns_same}
use Rattle.engine.proofs.masks.turned_at.Goals as goal

pub returns-then-t-eq0 : goal.returns-then-t-eq0
returns-then-t-eq0 c = turns-first c.args.u c.args.step c.if-t-eq0.true

pub returns-then-t-u : goal.returns-then-t-u
returns-then-t-u c = turns-other c.args.u c.args.step c.if-t-eq0.false c.if-t-u.true

pub returns-else-t-u : goal.returns-else-t-u
returns-else-t-u c = turns_same c.args.u c.args.step c.if-t-eq0.false c.if-t-u.false
