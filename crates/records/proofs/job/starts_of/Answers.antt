-- `records::job::starts_of` meets its contract: counts within their ranges keep every position small. Assumes nothing.
use mathlib.Core.Path.{refl}
use Rattle.records.specs.Inner.{starts_of}
use Rattle.records.proofs.job.starts_of.Goals as goal

pub returns : goal.returns
unfolding starts_of
returns c = refl
