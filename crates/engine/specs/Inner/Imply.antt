-- What the values of some nets imply of others (src/imply.rt). No public contract cites this file. Assumes nothing.
--
--   Binary vs               the values vs are 0 and 1
--   Implied known vs        where something is known of a net, 0 or 1, it is the net's value in vs
--   Learns P b r a          a step from what is known, b, to a: values that agree with b and of which P holds agree with a, and r is true, so
--                           that there are none where r is false
--   AllHave v is vs         the nets is have the value v
--   Forces c v              gate c has, before its inversion, the value v only where all its operands have it
--   GateHas c vs            the net of gate c has the value that its operands give, and that what is known of them gives, if it gives one
--   ValuesOf cs n vs        .. as those of the first n gates of cs
--   CubeHas ..              the nets of a cube have its values
--   NoneGives p c           no values of the gates give a reading of the cover c
--   Unrefuted p c d         d has the readings of c that values of the gates give
use Rattle.std.specs.Prelude.{ℕ, ◌<◌, ◌≡◌, List, map, Bool, true, eqb, length, get_or, take}
use Rattle.records.specs.Bytes.{all}
use Rattle.records.specs.Netlist.{net_at}
use Rattle.engine.specs.Eval.{bit, number_of}
use Rattle.engine.specs.Inner.Cover.{InCover}
use Rattle.engine.specs.Inner.Packed.{own, operation, operands_of, folded, code_value}
use Rattle.engine.specs.Inner.Ranges.{code_ternary}
use Rattle.engine.specs.declared.cube.Cover.{Cover}
use Rattle.engine.specs.declared.cube.Cube.{Cube}
use Rattle.engine.specs.declared.plan.Plan.{Plan}

abbrev pub Binary : List ℕ → Type 0
Binary vs = (i : ℕ) → get_or vs i 0 < 2

abbrev pub Implied : List ℕ → List ℕ → Type 0
Implied known vs = (i : ℕ) → i < 1024 → get_or known i 0 < 2 → net_at vs i ≡ get_or known i 0

pub record Learns (P : List ℕ → Type 0) (before : List ℕ) (r : Bool) (after : List ℕ) : Type 0 where
  pub well : (vs : List ℕ) → Implied before vs → P vs → r ≡ true
  pub more : (vs : List ℕ) → Implied before vs → P vs → Implied after vs

abbrev pub AllHave : ℕ → List ℕ → List ℕ → Type 0
AllHave v is vs = all (λ i. eqb (net_at vs i) v) is ≡ true

abbrev pub Forces : ℕ → ℕ → Type 0
Forces c v = (vs : List ℕ) → Binary vs → folded (operation c) (map (net_at vs) (operands_of c)) ≡ v → AllHave v (operands_of c) vs

pub record GateHas (c : ℕ) (vs : List ℕ) : Type 0 where
  pub binary : Binary vs
  pub value : net_at vs (own c) ≡ code_value vs c
  pub known : (ks : List ℕ) → Implied ks vs → code_ternary ks c < 2 → net_at vs (own c) ≡ code_ternary ks c

abbrev pub ValuesOf : List ℕ → List ℕ → Type 0
ValuesOf cs vs = Binary vs × ((i : ℕ) → i < length cs → GateHas (get_or cs i 0) vs)

abbrev pub CubeHas : Plan → Cube → List ℕ → Type 0
CubeHas p u vs = (k : ℕ) → k < p.reads.len → bit k u.care ≡ 1 → net_at vs (get_or p.reads.nets k 0) ≡ bit k u.value

-- values of the gates that no target leads to, and the reading of the nets read among them
abbrev pub PlanValues : Plan → List ℕ → Type 0
PlanValues p vs = ValuesOf (take (get_or p.ends 0 0) p.gates) vs

abbrev pub plan_reading : Plan → List ℕ → ℕ
plan_reading p vs = number_of (map (net_at vs) (take p.reads.len p.reads.nets))

pub record NoneGives (p : Plan) (c : Cover) : Type 0 where
  pub none : (vs : List ℕ) → PlanValues p vs → InCover c (plan_reading p vs) → ⊥

pub record Unrefuted (p : Plan) (c d : Cover) : Type 0 where
  pub left : (vs : List ℕ) → PlanValues p vs → InCover c (plan_reading p vs) → InCover d (plan_reading p vs)
