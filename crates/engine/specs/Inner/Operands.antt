-- The operands of a packed gate, one after the other (src/packed.rt). No public contract cites this file. Assumes nothing.
--
--   operands_left s    the nets that the iterator s has yet to give
use Rattle.std.specs.Prelude.{ℕ, List}
use Rattle.engine.specs.Inner.Packed.{fields}
use Rattle.engine.specs.declared.packed.Operands.{Operands}

abbrev pub operands_left : Operands → List ℕ
operands_left s = fields s.left s.rest
