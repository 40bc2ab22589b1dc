-- "each frame's kind and fields", node by node: row k of a node table, and the table with row k written. What is past the table's
-- end reads as 0, and is not written.
use Rattle.std.specs.Prelude.{ℕ, ◌+◌, ◌*◌, List, set}
use Rattle.rules.specs.Limits.{row_entries}
use Rattle.rules.specs.Trees.{cell}
use Rattle.rules.specs.declared.sheet.Row.{Row}

abbrev pub row_at : List ℕ → ℕ → Row
row_at nodes k = record { kind = cell nodes k 0; x = cell nodes k 1; y = cell nodes k 2 }

abbrev pub row_put : List ℕ → ℕ → Row → List ℕ
row_put nodes k row =
    set (set (set nodes (row_entries * k) row.kind) (row_entries * k + 1) row.x) (row_entries * k + 2) row.y
