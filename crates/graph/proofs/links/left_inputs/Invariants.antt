-- The stack holds the nodes that stand (LinkLaws), so that its last but one is the next left input.
use Rattle.std.proofs.Common.{◌≡◌}
use Rattle.rules.specs.Trees.{node_at}
use Rattle.graph.specs.Links.{standing}
use Rattle.graph.proofs.LinkLaws.{LeftsSo}
use Rattle.graph.proofs.links.left_inputs.Given as goal

abbrev pub invariant-loop-k : goal.invariant-loop-k
invariant-loop-k l = (l.waiting ≡ standing (node_at l.nodes) l.k) × LeftsSo (node_at l.nodes) l.k l.left
