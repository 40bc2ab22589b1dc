-- `each`: element by element.
use Rattle.operations.specs.Numbered.{operation_number}
use Rattle.vector_elements.proofs.VectorLaws.{Filled}
use Rattle.vector_lanes.proofs.LaneLaws.{operated}
use Rattle.vector_lanes.proofs.each.Given as goal

abbrev pub invariant-loop-k : goal.invariant-loop-k
invariant-loop-k g l = let D = g.E.Element.BYTES in Filled D l.k (operated D (operation_number l.operation) l.v1 l.v2) l.r
