-- "an op takes the last two nodes that wait, the earlier as its left; a shift takes the last one": which nodes wait, by their
-- numbers, and so where each node's inputs are. The last that waits is always the node just before.
use Rattle.std.specs.Prelude.{ℕ, zero, suc, ◌-◌, ◌<◌, ◌≡◌, List, [], ◌∷◌, ◌++◌, get_or, drop}
use Rattle.rules.specs.Trees.{load, splat, op, shift, tree_at}
use Rattle.rules.specs.declared.nodes.Node.{Node}
use Rattle.rules.specs.declared.nodes.Node.TheVariants.{Load, Splat, Op, Shift}

-- how many of those that wait a node takes
abbrev pub inputs : Node → ℕ
inputs (Load a) = 0
inputs (Splat v) = 0
inputs (Op o) = 2
inputs (Shift s) = 1

-- the numbers of the nodes that wait before node k, the last first
unfoldable pub standing : (ℕ → Node) → ℕ → List ℕ
standing node zero = []
standing node (suc k) = k ∷ drop (inputs (node k)) (standing node k)

-- the first so many numbers of a stack, the last first
abbrev pub listed : List ℕ → ℕ → List ℕ
listed stack zero = []
listed stack (suc height) = get_or stack height 0 ∷ listed stack height

-- the earlier of the last two that wait before node k: an op's left input
unfoldable pub left_of : (ℕ → Node) → ℕ → ℕ
left_of node k = get_or (standing node k) 1 0

-- those of the first k nodes
unfoldable pub lefts : (ℕ → Node) → ℕ → List ℕ
lefts node zero = []
lefts node (suc k) = lefts node k ++ left_of node k ∷ []

-- an op's left input, by the table of left inputs
abbrev pub left_in : List ℕ → ℕ → ℕ
left_in left k = get_or left k 0

-- node k and its inputs: numbers fall from a node to its inputs, and its tree is made of theirs
abbrev pub LinkedAt : (node : ℕ → Node) (left : ℕ → ℕ) (k : ℕ) → Node → Type 0
LinkedAt node left k (Load a) = tree_at node k ≡ load a.window a.address.0
LinkedAt node left k (Splat v) = tree_at node k ≡ splat v
LinkedAt node left k (Op o) = (left k < k) × (tree_at node k ≡ op o (tree_at node (left k)) (tree_at node (k - 1)))
LinkedAt node left k (Shift s) = (0 < k) × (tree_at node k ≡ shift s.«from».0 s.to.0 (tree_at node (k - 1)))

-- the first n nodes
unfoldable pub Linked : (node : ℕ → Node) (left : ℕ → ℕ) (n : ℕ) → Type 0
Linked node left n = (k : ℕ) → k < n → LinkedAt node left k (node k)
