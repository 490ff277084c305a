-- `engine_c::engine_compare` meets its contract, case by case.
use mathlib.Core.Path.{ap}
use Rattle.engine.specs.Reply.{CompareReply}
use Rattle.engine_c.specs.Difference.{differs_of, input_of}
use Rattle.engine_c.proofs.engine_compare.Goals as goal

pub returns-in-Ok-Equal-clause-differs : goal.returns-in-Ok-Equal-clause-differs
unfolding differs_of
returns-in-Ok-Equal-clause-differs c = rw c.in-Ok-Equal.field-0-is at (ap (λ (r : CompareReply). differs_of r.result) c.in-Ok-Equal.ensures)

pub returns-in-Ok-Equal-clause-input : goal.returns-in-Ok-Equal-clause-input
unfolding input_of
returns-in-Ok-Equal-clause-input c = rw c.in-Ok-Equal.field-0-is at (ap (λ (r : CompareReply). input_of r.result) c.in-Ok-Equal.ensures)

pub returns-in-Ok-Differs-clause-differs : goal.returns-in-Ok-Differs-clause-differs
unfolding differs_of
returns-in-Ok-Differs-clause-differs c = rw c.in-Ok-Differs.field-0-is at (ap (λ (r : CompareReply). differs_of r.result) c.in-Ok-Differs.ensures)

pub returns-in-Ok-Differs-clause-input : goal.returns-in-Ok-Differs-clause-input
unfolding input_of
returns-in-Ok-Differs-clause-input c = rw c.in-Ok-Differs.field-0-is at (ap (λ (r : CompareReply). input_of r.result) c.in-Ok-Differs.ensures)

pub returns-in-Err-clause-differs : goal.returns-in-Err-clause-differs
unfolding differs_of
returns-in-Err-clause-differs c = ap (λ (r : CompareReply). differs_of r.result) c.in-Err.ensures

pub returns-in-Err-clause-input : goal.returns-in-Err-clause-input
unfolding input_of
returns-in-Err-clause-input c = ap (λ (r : CompareReply). input_of r.result) c.in-Err.ensures
