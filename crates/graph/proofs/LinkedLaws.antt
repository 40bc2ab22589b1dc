-- What is linked, node by node: each node's inputs have lower numbers, and its tree is made of theirs. A graph that passes is linked.
use Rattle.std.proofs.Common.{◌≡◌, ℕ, ◌-◌, ◌≤◌, ◌<◌, List, ap, get_or, arith}
use Rattle.rules.specs.Limits.{vector_bytes, nodes_most}
use Rattle.rules.specs.Trees.{node_at}
use Rattle.rules.specs.Tables.{Graph, graph_of}
use Rattle.rules.specs.declared.nodes.LoadAt.{LoadAt}
use Rattle.rules.specs.declared.nodes.ShiftBy.{ShiftBy}
use Rattle.rules.specs.declared.nodes.Node.{Node}
use Rattle.theory.proofs.FormLaws.{Formed, some_row}
use Rattle.graph.specs.Headers.{header_of}
use Rattle.graph.specs.Links.{inputs, left_in, lefts, LinkedAt, Linked}
use Rattle.graph.specs.NodeTables.{NodeTable}
use Rattle.graph.specs.Linking.{NodeIs}
use Rattle.graph.specs.declared.linked.LinkedNode.TheVariants as Made
use Rattle.graph.proofs.HeaderLaws.{header_graph}
use Rattle.graph.proofs.LinkLaws.{lefts_linked}

-- a table of so many nodes, and node k of it
module _ (rows left : List ℕ) (count : ℕ) (table : NodeTable) (view : record { rows = rows; count = count } ≡ table)
    (linked : Linked (node_at rows) (left_in left) count) (k : ℕ) (h : k < table.count) where
  here : (n : Node) → node_at rows k ≡ n → LinkedAt (node_at rows) (left_in left) k n
  unfolding Linked
  here n e = rw e at (linked k (rw (← view) at h))

  pub load_is : (a : LoadAt) → node_at rows k ≡ Node.Load a → NodeIs table.rows k (Made.Load a)
  load_is a e = rw (← view) (here (Node.Load a) e)

  pub splat_is : (v : ℕ) → node_at rows k ≡ Node.Splat v → NodeIs table.rows k (Made.Splat v)
  splat_is v e = rw (← view) (here (Node.Splat v) e)

  pub op_is : (o : ℕ) → node_at rows k ≡ Node.Op o → NodeIs table.rows k (Made.Op o (get_or left k 0) (k - 1))
  op_is o e = let p = here (Node.Op o) e in rw (← view) (p.0, omega (arith, p.0), p.1)

  pub shift_is : (s : ShiftBy) → node_at rows k ≡ Node.Shift s → NodeIs table.rows k (Made.Shift s (k - 1))
  shift_is s e = let p = here (Node.Shift s) e in rw (← view) (omega (arith, p.0), p.1)

  pub some_input : (n : Node) → node_at rows k ≡ n → 1 ≤ inputs n → 1 ≤ k
  some_input (Node.Load a) e i = absurd (omega arith)
  some_input (Node.Splat v) e i = absurd (omega arith)
  some_input (Node.Op o) e i = omega (arith, (here (Node.Op o) e).0)
  some_input (Node.Shift s) e i = (here (Node.Shift s) e).0

-- the header of a graph that passes counts its nodes, and they are linked
module _ (head nodes : List ℕ) (formed : Formed vector_bytes (graph_of head nodes)) where
  pub all_counted : (header_of head).count ≡ get_or head 3 0
  all_counted = ap (λ (g : Graph). g.N) (header_graph vector_bytes head nodes formed)

  pub some_counted : 0 < get_or head 3 0
  some_counted = some_row vector_bytes (get_or head 0 0) (get_or head 3 0) nodes formed.rows

  pub graph_linked : Linked (node_at nodes) (left_in (lefts (node_at nodes) nodes_most)) (get_or head 3 0)
  graph_linked = lefts_linked vector_bytes (graph_of head nodes) formed
