-- No node so far is at fault.
use Rattle.std.proofs.Common.{ℕ, ◌<◌, false}
use Rattle.tables.specs.Rows.{row_at}
use Rattle.graph_lines.proofs.lines.first_at_fault.Given as goal

abbrev pub invariant-loop-k : goal.invariant-loop-k
invariant-loop-k g l = (j : ℕ) → j < l.k → goal.F-post g l.at_fault (row_at l.nodes j) j false
