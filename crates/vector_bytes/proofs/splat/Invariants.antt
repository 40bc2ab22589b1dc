-- `splat`: element by element.
use Rattle.vector_elements.proofs.VectorLaws.{Filled}
use Rattle.vector_bytes.proofs.splat.Given as goal

abbrev pub invariant-loop-k : goal.invariant-loop-k
invariant-loop-k g l = Filled g.E.Element.BYTES l.k (λ k. g.E.Element.value l.x) l.r
