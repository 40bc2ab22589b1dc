-- Rows written one after the other into a node table.
use Rattle.std.specs.Prelude.{ℕ, ◌+◌, ◌*◌, ◌≤◌, ◌≡◌, cond, List, [], ◌∷◌, eqb, length}
use Rattle.std.proofs.lemmas.List.Edits.{sets}
use Rattle.rules.specs.Limits.{nodes_most, row_entries}
use Rattle.rules.specs.Frames.{load_kind, splat_kind, op_kind, shift_kind}
use Rattle.rules.specs.declared.nodes.Node.{Node}
use Rattle.rules.specs.declared.nodes.Node.TheVariants.{Load, Splat, Op, Shift}
use Rattle.rules.specs.declared.nodes.Offset.{Offset}
use Rattle.rules.specs.declared.nodes.Offset.TheVariants.{At, Undefined}
use Rattle.rules.specs.declared.sheet.Row.{Row}
use Rattle.placing.specs.declared.rows.Writer.{Writer}

-- the row of a shift, where both offsets are defined and differ
abbrev pub shift_row : (here to : Offset) → List ℕ
shift_row Undefined to = []
shift_row (At a) Undefined = []
shift_row (At a) (At g) = cond (eqb a.0 g.0) [] (shift_kind ∷ a.0 ∷ g.0 ∷ [])

-- a row's entries, and those of the row that a node is read from
abbrev pub entries_of : Row → List ℕ
entries_of row = row.kind ∷ row.x ∷ row.y ∷ []

abbrev pub row_of : Node → List ℕ
row_of (Load a) = load_kind ∷ a.window ∷ a.address.0 ∷ []
row_of (Splat v) = splat_kind ∷ v ∷ 0 ∷ []
row_of (Op o) = op_kind ∷ o ∷ 0 ∷ []
row_of (Shift s) = shift_kind ∷ s.«from».0 ∷ s.to.0 ∷ []

-- so many entries fit into a table of 64 rows from the next row on
abbrev pub HasRoom : Writer → (made : List ℕ) → Type 0
HasRoom rows made = row_entries * rows.row + length made ≤ row_entries * nodes_most

-- these entries were written from the next row on
pub record Wrote (before : Writer) (made : List ℕ) (after : Writer) : Type 0 where
  pub same_table : after.table.ghost_name ≡ before.table.ghost_name
  pub free : row_entries * after.row ≡ row_entries * before.row + length made
  pub entries : after.table.now ≡ sets before.table.now (row_entries * before.row) made
