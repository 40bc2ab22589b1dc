-- The nodes so far keep their rules, and their offsets are known (JudgeLaws).
use Rattle.graph_offsets.proofs.JudgeLaws.{NodesSo}
use Rattle.graph_offsets.proofs.nodes.judge_nodes.Given as goal

abbrev pub invariant-loop-k : goal.invariant-loop-k
invariant-loop-k l = NodesSo l.links.rows l.k l.offsets
