-- What the links say of one node: its inputs have lower numbers, and its tree is made of their trees.
use Prim.Native.Nat.{ℕ, suc, ◌+◌, ◌-◌, ◌≤◌, ◌<◌}
use native.Mathlib.Omega.{arith}
use mathlib.Core.Path.{◌≡◌}
use mathlib.Core.List.{List}
use lib.ListN.{get_or}
use Rattle.rules.specs.Trees.{Tree, load, splat, op, shift, node_at, tree_at, tree_of}
use Rattle.rules.specs.declared.nodes.LoadAt.{LoadAt}
use Rattle.rules.specs.declared.nodes.ShiftBy.{ShiftBy}
use Rattle.rules.specs.declared.nodes.Node.{Node}
use Rattle.rules.specs.Limits.{vector_bytes, nodes_most}
use Rattle.rules.specs.Tables.{Graph}
use Rattle.theory.proofs.FormLaws.{Formed, some_row}
use Rattle.graph.specs.Links.{left_in, LinkedAt, Linked, lefts}
use Rattle.graph.proofs.LinkLaws.{linked_node, linked_lower, lefts_linked}

module _ (nodes left : List ℕ) where
  -- the tree at a node
  abbrev pub tree : ℕ → Tree
  tree j = tree_at (node_at nodes) j

  -- the first k nodes are linked
  abbrev pub LinkedTo : ℕ → Type 0
  LinkedTo k = Linked (node_at nodes) (left_in left) k

  pub linked_below : (k j : ℕ) → j ≤ k → LinkedTo (k + 1) → LinkedTo (j + 1)
  linked_below k j h to = linked_lower (node_at nodes) (left_in left) (k + 1) (j + 1) (omega arith) to

  module _ (k : ℕ) (to : LinkedTo (k + 1)) where
    linked_here : (n : Node) → node_at nodes k ≡ n → LinkedAt (node_at nodes) (left_in left) k n
    linked_here = linked_node (node_at nodes) (left_in left) k to

    pub load_tree : (a : LoadAt) → node_at nodes k ≡ Node.Load a → tree k ≡ load a.window a.address.0
    load_tree a is = linked_here (Node.Load a) is

    pub splat_tree : (v : ℕ) → node_at nodes k ≡ Node.Splat v → tree k ≡ splat v
    splat_tree v is = linked_here (Node.Splat v) is

    pub op_tree : (o : ℕ) → node_at nodes k ≡ Node.Op o → tree k ≡ op o (tree (get_or left k 0)) (tree (k - 1))
    op_tree o is = (linked_here (Node.Op o) is).1

    pub left_falls : (o : ℕ) → node_at nodes k ≡ Node.Op o → get_or left k 0 < k
    left_falls o is = (linked_here (Node.Op o) is).0

    pub shift_tree : (s : ShiftBy) → node_at nodes k ≡ Node.Shift s → tree k ≡ shift s.«from».0 s.to.0 (tree (k - 1))
    shift_tree s is = (linked_here (Node.Shift s) is).1

    pub some_child : (s : ShiftBy) → node_at nodes k ≡ Node.Shift s → 0 < k
    some_child s is = (linked_here (Node.Shift s) is).0

-- ---- a graph that passes

module _ (g : Graph) (formed : Formed vector_bytes g) where
  pub some_node : 1 ≤ g.N
  some_node = some_row vector_bytes g.D g.N g.nodes formed.rows

  -- its nodes are linked, up to the last one
  pub linked_root : LinkedTo g.nodes (lefts (node_at g.nodes) nodes_most) (g.N - 1 + 1)
  linked_root = let n : g.N - 1 + 1 ≡ g.N = omega (arith, some_node) in rw n (lefts_linked vector_bytes g formed)

-- the tree of a sheet is that of its last node
pub root_tree : (nodes : List ℕ) (N : ℕ) → 1 ≤ N → tree_at (node_at nodes) (N - 1) ≡ tree_of nodes N
unfolding tree_at tree_of
root_tree nodes N h = let e : suc (N - 1) ≡ N = omega arith in rw e
