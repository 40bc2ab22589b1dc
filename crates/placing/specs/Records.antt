-- A sheet's nodes with the offsets of their placed trees, as the code holds them.
use Rattle.std.specs.Prelude.{ℕ, ◌<◌, ◌≤◌, ◌≡◌, List, get_or}
use Rattle.rules.specs.Limits.{nodes_most}
use Rattle.rules.specs.Trees.{node_at, tree_at, rows}
use Rattle.rules.specs.Offsets.{offset}
use Rattle.rules.specs.declared.nodes.Node.{Node}
use Rattle.rules.specs.declared.nodes.Node.TheVariants.{Load, Splat, Op, Shift}
use Rattle.rules.specs.declared.nodes.Offset.{Offset}
use Rattle.rules.specs.declared.nodes.NodeRecord.{NodeRecord}
use Rattle.graph.specs.Links.{left_in, Linked}
use Rattle.graph_offsets.specs.Judging.{no_record, offset_in}
use Rattle.placing_targets.specs.declared.Moves.{Moves}
use Rattle.placing.specs.Moves.{goes, moved}
use Rattle.placing.specs.declared.records.MovedNodes.{MovedNodes}

abbrev pub node_in : List NodeRecord → ℕ → Node
node_in recs k = (get_or recs k no_record).node

-- the offset of node k's placed tree
abbrev pub moved_offset : (W : ℕ) → Moves → (ℕ → Node) → ℕ → Offset
moved_offset W m node k = offset W (moved W m (tree_at node k))

-- the rows of node k's placed tree, and a shift if it has to go elsewhere
abbrev pub moved_rows : (W : ℕ) → MovedNodes → (k : ℕ) → Offset → List ℕ
moved_rows W sheet k to = rows (goes W to (moved W sheet.moves (tree_at (node_in sheet.records) k)))

-- the record of node k of a table
abbrev pub record_of : (W : ℕ) → Moves → (nodes : List ℕ) → ℕ → NodeRecord
record_of W m nodes k = record { node = node_at nodes k; offset = moved_offset W m (node_at nodes) k }

-- the records of the first n nodes of a table
unfoldable pub Recorded : (W : ℕ) → MovedNodes → (nodes : List ℕ) (n : ℕ) → Type 0
Recorded W sheet nodes n = (k : ℕ) → k < n → get_or sheet.records k no_record ≡ record_of W sheet.moves nodes k

-- no node of a bare sheet is a shift
abbrev pub NoShift : Node → Type 0
NoShift (Load a) = Unit {0}
NoShift (Splat v) = Unit {0}
NoShift (Op o) = Unit {0}
NoShift (Shift s) = ⊥

-- records from which the first n nodes can be written: their inputs are known, none is a shift, and each has its offset
pub record Ready (W : ℕ) (sheet : MovedNodes) (n : ℕ) : Type 0 where
  pub most : n ≤ nodes_most
  pub linked : Linked (node_in sheet.records) (left_in sheet.lefts) n
  pub bare : (k : ℕ) → k < n → NoShift (node_in sheet.records k)
  pub known : (k : ℕ) → k < n → offset_in sheet.records k ≡ moved_offset W sheet.moves (node_in sheet.records) k
