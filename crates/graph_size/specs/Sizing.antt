-- The size of a graph handed over as tables, as far as it is counted.
use Rattle.std.specs.Prelude.{ℕ, zero, suc, ◌+◌, min, List}
use Rattle.rules.specs.Limits.{vector_bytes, long_most}
use Rattle.rules.specs.Trees.{Tree}
use Rattle.rules.specs.Code.{G}
use Rattle.rules.specs.Tables.{graph_of}
use Rattle.rules.specs.Calls.{checking, graph_tree}

-- G as it is counted: one more than LONG's bound stands for everything above it
unfoldable pub capped : ℕ → ℕ
capped size = min size (long_most + 1)

-- by the number that the check of form gives
abbrev pub size_by : (number : ℕ) → Tree → ℕ
size_by zero t = capped (G t)
size_by (suc number) t = 0

unfoldable pub size_of : (head nodes : List ℕ) → ℕ
size_of head nodes = size_by (checking vector_bytes head nodes).number (graph_tree (graph_of head nodes))
