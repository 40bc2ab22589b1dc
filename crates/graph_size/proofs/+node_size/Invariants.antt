-- The measure is the node's number.
use Rattle.graph_size.proofs.+node_size.Given as goal

abbrev pub decreases-node_size : goal.decreases-node_size
decreases-node_size l = l.k
