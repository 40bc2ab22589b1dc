-- "Frames 01 to 04 are nodes in postfix order": the tree that a node table denotes, and the rows of a tree.
use Rattle.std.specs.Prelude.{ℕ, zero, suc, ◌+◌, ◌*◌, List, [], ◌∷◌, ◌++◌, get_or}
use Rattle.rules.specs.Limits.{row_entries}
use Rattle.rules.specs.Frames.{load_kind, splat_kind, op_kind, shift_kind}
use Rattle.rules.specs.declared.units.ByteOffset.{ByteOffset}
use Rattle.rules.specs.declared.nodes.Node.{Node}
use Rattle.rules.specs.declared.nodes.Node.TheVariants.{Load, Splat, Op, Shift}

pub data Tree : Type 0 where
  load : (window address : ℕ) → Tree
  splat : (value : ℕ) → Tree
  op : (operation : ℕ) (left right : Tree) → Tree
  shift : (f g : ℕ) (child : Tree) → Tree  -- from f to g

-- entry i of row k of a node table
abbrev pub cell : List ℕ → ℕ → ℕ → ℕ
cell nodes k i = get_or nodes (row_entries * k + i) 0

abbrev pub bytes : ℕ → ByteOffset
bytes b = record { 0 = b }

-- a row's node, by its kind; an unknown kind, which no checked table has, stands for a splat of 0
abbrev pub node_of : (kind x y : ℕ) → Node
node_of zero x y = Splat 0
node_of (suc zero) x y = Load (record { window = x; address = bytes y })
node_of (suc (suc zero)) x y = Splat x
node_of (suc (suc (suc zero))) x y = Op x
node_of (suc (suc (suc (suc zero)))) x y = Shift (record { «from» = bytes x; to = bytes y })
node_of (suc (suc (suc (suc (suc k))))) x y = Splat 0

unfoldable pub node_at : List ℕ → ℕ → Node
node_at nodes k = node_of (cell nodes k 0) (cell nodes k 1) (cell nodes k 2)

-- "an op takes the last two nodes that wait, the earlier as its left; a shift takes the last one"; then the node waits itself.
-- The last that waits stands first in the list; with too few nothing waits (SHAPE)
abbrev pub push : Node → List Tree → List Tree
push (Load a) waiting = load a.window a.address.0 ∷ waiting
push (Splat v) waiting = splat v ∷ waiting
push (Op o) [] = []
push (Op o) (right ∷ []) = []
push (Op o) (right ∷ left ∷ waiting) = op o left right ∷ waiting
push (Shift s) [] = []
push (Shift s) (child ∷ waiting) = shift s.«from».0 s.to.0 child ∷ waiting

-- the trees that wait after the first k nodes
unfoldable pub waiting : (ℕ → Node) → ℕ → List Tree
waiting node zero = []
waiting node (suc k) = push (node k) (waiting node k)

abbrev pub top : List Tree → Tree
top [] = splat 0
top (t ∷ ts) = t

-- the tree that ends at node k
unfoldable pub tree_at : (ℕ → Node) → ℕ → Tree
tree_at node k = top (waiting node (suc k))

-- the tree of a sheet of N nodes: "At the end exactly one waits"
unfoldable pub tree_of : List ℕ → (N : ℕ) → Tree
tree_of nodes N = top (waiting (node_at nodes) N)

-- a tree's rows in postfix order, and how many there are
abbrev pub rows : Tree → List ℕ
rows (load w a) = load_kind ∷ w ∷ a ∷ []
rows (splat v) = splat_kind ∷ v ∷ 0 ∷ []
rows (op o l r) = rows l ++ rows r ++ (op_kind ∷ o ∷ 0 ∷ [])
rows (shift f g t) = rows t ++ (shift_kind ∷ f ∷ g ∷ [])

abbrev pub count : Tree → ℕ
count (load w a) = 1
count (splat v) = 1
count (op o l r) = count l + count r + 1
count (shift f g t) = count t + 1

abbrev pub shifts : Tree → ℕ
shifts (load w a) = 0
shifts (splat v) = 0
shifts (op o l r) = shifts l + shifts r
shifts (shift f g t) = shifts t + 1
