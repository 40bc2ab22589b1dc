-- A node with its inputs: their numbers are lower, and its tree is made of theirs.
use Rattle.std.specs.Prelude.{ℕ, ◌<◌, ◌≡◌, List}
use Rattle.rules.specs.Trees.{Tree, load, splat, op, shift, node_at, tree_at}
use Rattle.graph.specs.declared.linked.LinkedNode.{LinkedNode}
use Rattle.graph.specs.declared.linked.LinkedNode.TheVariants.{Load, Splat, Op, Shift}

abbrev pub tree : (rows : List ℕ) → ℕ → Tree
tree rows k = tree_at (node_at rows) k

abbrev pub NodeIs : (rows : List ℕ) (k : ℕ) → LinkedNode → Type 0
NodeIs rows k (Load a) = tree rows k ≡ load a.window a.address.0
NodeIs rows k (Splat v) = tree rows k ≡ splat v
NodeIs rows k (Op o left right) = (left < k) × (right < k) × (tree rows k ≡ op o (tree rows left) (tree rows right))
NodeIs rows k (Shift s child) = (child < k) × (tree rows k ≡ shift s.«from».0 s.to.0 (tree rows child))
